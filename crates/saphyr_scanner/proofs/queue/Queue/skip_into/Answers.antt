-- The first token is taken off, or what comes in front of it.
use Rattle.std.proofs.Common.{rules, subst, sym, ◌∙◌, ◌∷◌, ◌≤◌}
use Rattle.std.proofs.lemmas.List.{length-set}
use Rattle.saphyr_scanner.specs.declared.queue.Opening.TheVariants as opening
use Rattle.saphyr_scanner.specs.Views.Places.{coded_opening, place_at}
use Rattle.saphyr_scanner.specs.Views.Queue.{first_number, queue_places}
use Rattle.saphyr_scanner.proofs.FirstQueued.{begins_at, first_queued, key_behind, opened_first, places_behind}
use Rattle.saphyr_scanner.proofs.Queues.{queue_at}
use Rattle.saphyr_scanner.proofs.queue.Queue.skip_into.Goals as goal

pub invariant_of-self-in-Key-clause-fit : goal.invariant_of-self-in-Key-clause-fit
invariant_of-self-in-Key-clause-fit c =
    (opened_first c.args.self.now opening.Nothing c.in-Some.place.now _ c.open.ensures c.in-Some.ensures.value).0

pub returns-in-Key-clause-left : goal.returns-in-Key-clause-left
unfolding queue_places
returns-in-Key-clause-left c =
    let old = c.args.self.now in
    let place = c.in-Some.place.now in
    let first = first_queued old place (begins_at old place c.in-Some.ensures.item.3.0 c.in-Some.ensures.value) in
    let opened = (opened_first old opening.Nothing place _ c.open.ensures c.in-Some.ensures.value).1 in
    search (rules, first, opened)

pub invariant_of-self-in_default-opening-clause-fit : goal.invariant_of-self-in_default-opening-clause-fit
invariant_of-self-in_default-opening-clause-fit c =
    (opened_first c.args.self.now opening.Key c.in-Some.place.now _ c.open-in_default-opening.ensures
    c.in-Some.ensures.value).0

pub returns-in_default-opening-clause-left : goal.returns-in_default-opening-clause-left
unfolding queue_places
returns-in_default-opening-clause-left c =
    let old = c.args.self.now in
    let place = c.in-Some.place.now in
    let first = first_queued old place (begins_at old place c.in-Some.ensures.item.3.0 c.in-Some.ensures.value) in
    let opened = (opened_first old opening.Key place _ c.open-in_default-opening.ensures
    c.in-Some.ensures.value).1 in
    let some = c.is_opened.ensures.opened c.if-not-is_opened.false in
    let ps = places_behind place old in
    let behind = key_behind (coded_opening place.front) (place_at place old.texts) ps
    (queue_at (place_at place old.texts ∷ ps) (first_number old)) some
    (λ is. c.in_default-opening.not-Key (c.opening.ensures ∙ is)) in
    search (rules, first, opened, behind)

pub invariant_of-self-in-Key-clause-within : goal.invariant_of-self-in-Key-clause-within
invariant_of-self-in-Key-clause-within c =
    let old = c.args.self.now in
    subst (λ n. old.spent ≤ n) (sym (length-set old.places.items old.spent c.open.new.self)) old.within

pub invariant_of-self-in_default-opening-clause-within : goal.invariant_of-self-in_default-opening-clause-within
invariant_of-self-in_default-opening-clause-within c =
    let old = c.args.self.now in
    subst (λ n. old.spent ≤ n)
    (sym (length-set old.places.items old.spent c.open-in_default-opening.new.self)) old.within
