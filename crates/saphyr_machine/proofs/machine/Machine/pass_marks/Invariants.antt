use Rattle.std.proofs.Common.{◌≡◌, ℕ, List, length}
use Rattle.saphyr_machine.specs.Steps.Documents.{unpassed_token, is_passable}
use Rattle.saphyr_machine.specs.Views.Machines.{machine_in, machine_of}
use Rattle.saphyr_machine.proofs.machine.Machine.pass_marks.Given as goal

abbrev pub invariant-loop-kind : goal.invariant-loop-kind
invariant-loop-kind g l =
    (more : List ℕ)
    → unpassed_token (is_passable l.fn.ends) (machine_in more l.self)
    ≡ unpassed_token (is_passable l.fn.ends) (machine_in more l.fn.self)

abbrev pub decreases-loop-kind : goal.decreases-loop-kind
decreases-loop-kind g l = length (machine_of l.self).tokens.pieces
