-- Tokens are passed, one after the other.
use Rattle.std.proofs.Common.{ℕ, ◌<◌, List, length, [], rules, ap, sym, subst, ◌∙◌}
use Rattle.saphyr_scanner.specs.Views.Tokens.{piece_with}
use Rattle.saphyr_machine.specs.Steps.Documents.{is_passable, unpassed_token}
use Rattle.saphyr_machine.specs.Steps.Machine.{Machine}
use Rattle.saphyr_machine.specs.Views.Machines.{machine_in, machine_of}
use Rattle.saphyr_machine.proofs.Passing.{next_in, passes_on, stops_at, fails_at, shorter}
use Rattle.saphyr_machine.proofs.machine.Machine.pass_marks.Goals as goal

pub returns-in_err-kind : goal.returns-in_err-kind
returns-in_err-kind g c =
    let failed = λ (more : List ℕ). fails_at (is_passable c.args.ends) (machine_in more c.args.self.now)
    (machine_in more c.loop-kind.self) c.peek.new.self.scanner.stop (c.loop-kind.invariant more)
    (c.in_err-kind.ensures more) in
    search (rules, failed)

pub returns-then-not-is_passable : goal.returns-then-not-is_passable
returns-then-not-is_passable g c =
    let shown = c.in_ok-kind.ensures in (
      shown.0,
      λ more.
          let next = next_in c.in_ok-kind.kind c.peek.new.self more shown.0 in
          stops_at (is_passable c.args.ends) (machine_in more c.args.self.now) (machine_in more c.loop-kind.self) next.2
          (piece_with next.0 c.in_ok-kind.kind next.1) _ (c.loop-kind.invariant more) (shown.1 more ∙ next.3)
          (c.is_passable.ensures next.1) c.if-not-is_passable.true
          ∙ sym next.3,
    )

pub loop-kind-preserved : goal.loop-kind-preserved
loop-kind-preserved g c more =
    let shown = c.in_ok-kind.ensures in
    let next = next_in c.in_ok-kind.kind c.peek.new.self more shown.0 in
    let t = piece_with next.0 c.in_ok-kind.kind next.1 in
    ap (unpassed_token (is_passable c.args.ends)) (rw next.3 at (c.skip.ensures.left more))
    ∙ passes_on (is_passable c.args.ends) (machine_in more c.args.self.now) (machine_in more c.loop-kind.self) next.2
    t _ (c.loop-kind.invariant more) (shown.1 more ∙ next.3) (c.is_passable.ensures next.1)
    c.if-not-is_passable.false

pub loop-kind-smaller : goal.loop-kind-smaller
loop-kind-smaller g c =
    let shown = c.in_ok-kind.ensures in
    let next = next_in c.in_ok-kind.kind c.peek.new.self [] shown.0 in
    let t = piece_with next.0 c.in_ok-kind.kind next.1 in
    subst (λ (m : Machine). length m.tokens.pieces < length (machine_of c.loop-kind.self).tokens.pieces)
    (sym (rw next.3 at (c.skip.ensures.left [])))
    (shorter (machine_of c.loop-kind.self) next.2 t (shown.1 [] ∙ next.3))
