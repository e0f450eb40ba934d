-- Where a pair ends is kept apart from the tokens.
use Rattle.std.proofs.Common.{◌≡◌, rules, Ok, subst, ap, sym, ◌∙◌, arith}
use Rattle.saphyr_scalar.specs.declared.scalar.position.Marker.{Marker}
use Rattle.saphyr_scanner.specs.Steps.State.{State}
use Rattle.saphyr_scanner.specs.Views.Scanning.{IsReady}
use Rattle.saphyr_scanner.specs.Views.Tokens.{Piece, piece_with}
use Rattle.saphyr_machine.specs.Steps.Machine.{Machine, taken_token, with_pair_end}
use Rattle.saphyr_machine.specs.Steps.Flow.{flow_sequence_entry_mapping_node}
use Rattle.saphyr_machine.specs.Views.Machines.{machine_in}
use Rattle.saphyr_machine.proofs.Passing.{next_in}
use Rattle.saphyr_machine.proofs.machine.Machine.flow_sequence_entry_mapping_node.Goals as goal

taken_behind_end : (place : Marker) (m n : Machine) (t : Piece) → taken_token m ≡ Ok (t, n)
    → taken_token (with_pair_end place m) ≡ Ok (t, with_pair_end place n)
taken_behind_end place m n t e = grind arith

pub inside-requires : goal.inside-requires
inside-requires g c =
    let next = c.in_ok-kind.ensures.0 in
    let end = c.span.result.end in
    let new = c.push_pair_end.new.self.scanner in (
      (
        next.0.0,
        next.0.1,
        λ more. with_pair_end end (next.0.2 more),
        λ more. ap taken_token (c.in_ok-push_pair_end.ensures.moved more)
            ∙ taken_behind_end end (machine_in more c.peek.new.self) (next.0.2 more)
            (piece_with (next.0.0 more) c.in_ok-kind.kind (next.0.1 more)) (next.0.3 more),
      ),
      subst (λ (s : State). IsReady (record { state = s; limit = new.limit; growth = new.growth; stop = new.stop }))
          (sym c.in_ok-push_pair_end.ensures.state) next.1,
    )

pub returns-then-is_left_out : goal.returns-then-is_left_out
unfolding flow_sequence_entry_mapping_node
returns-then-is_left_out g c more =
    let shown = c.in_ok-kind.ensures in
    let next = next_in c.in_ok-kind.kind c.peek.new.self more shown.0 in
    let taken = shown.1 more ∙ next.3 in
    let span = rw next.3 at (c.span.ensures more) in
    let took = ap taken_token (c.in_ok-push_pair_end.ensures.moved more)
    ∙ taken_behind_end c.span.result.end (machine_in more c.peek.new.self) next.2
    (piece_with next.0 c.in_ok-kind.kind next.1) next.3 in
    let out = c.is_left_out.ensures next.1 in
    let left = rw took at (c.leave_out_here.ensures more) in
    rw taken (search (rules, span, out, left))
