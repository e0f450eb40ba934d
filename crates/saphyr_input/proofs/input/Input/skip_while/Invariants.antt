use Rattle.std.proofs.Common.{length}
use Rattle.saphyr_input.proofs.Runs.{TakesRun}
use Rattle.saphyr_input.proofs.input.Input.skip_while.Given as goal

abbrev pub invariant-loop-self : goal.invariant-loop-self
invariant-loop-self g l =
    TakesRun g.C.CharSet.test (g.Self.Input.rest l.fn.self) (g.Self.Input.rest l.self) l.count l.c
    (g.Self.Input.loaded l.self)

abbrev pub decreases-loop-self : goal.decreases-loop-self
decreases-loop-self g l = length (g.Self.Input.rest l.self)
