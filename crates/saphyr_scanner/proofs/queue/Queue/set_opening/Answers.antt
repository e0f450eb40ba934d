-- One of the places is opened.
use Rattle.std.proofs.Common.{drop, subst, sym, ◌+◌, ◌≤◌}
use Rattle.std.proofs.lemmas.List.{length-set}
use Rattle.std.specs.Prelude.{set}
use Rattle.saphyr_scanner.specs.Views.Places.{Fit}
use Rattle.saphyr_scanner.proofs.FirstQueued.{opened_behind}
use Rattle.saphyr_scanner.proofs.queue.Queue.set_opening.Goals as goal

pub invariant_of-self-clause-fit : goal.invariant_of-self-clause-fit
invariant_of-self-clause-fit c =
    let old = c.args.self.now in
    let nth = c.saturating_sub-nth.result in
    subst (λ p. Fit (drop old.spent (set old.places.items (old.spent + nth) p)) old.texts) (sym c.open.ensures)
    (opened_behind old nth c.args.opening c.in-Some.place.now c.in-Some.ensures.value).0

pub invariant_of-self-clause-within : goal.invariant_of-self-clause-within
invariant_of-self-clause-within c =
    let old = c.args.self.now in
    subst (λ n. old.spent ≤ n)
    (sym (length-set old.places.items (old.spent + c.saturating_sub-nth.result) c.open.new.self)) old.within
