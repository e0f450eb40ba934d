use Rattle.std.proofs.Common.{◌≡◌, ℕ, List, length}
use Rattle.saphyr_machine.specs.Steps.Documents.{directives, none_declared}
use Rattle.saphyr_machine.specs.Views.Machines.{machine_in, machine_of}
use Rattle.saphyr_machine.specs.Views.Documents.{declared_of}
use Rattle.saphyr_machine.proofs.machine.Machine.directives.Given as goal

abbrev pub invariant-loop-declared : goal.invariant-loop-declared
invariant-loop-declared g l =
    (more : List ℕ)
    → directives (declared_of l.declared l.self.prefixes) (machine_in more l.self)
    ≡ directives none_declared (machine_in more l.fn.self)

abbrev pub decreases-loop-declared : goal.decreases-loop-declared
decreases-loop-declared g l = length (machine_of l.self).tokens.pieces
