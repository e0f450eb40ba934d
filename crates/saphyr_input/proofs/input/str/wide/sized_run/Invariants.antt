use Rattle.std.proofs.Common.{◌-◌, length}
use Rattle.saphyr_input.proofs.WideChars.{Passed}
use Rattle.saphyr_input.proofs.input.str.wide.sized_run.Given as goal

abbrev pub invariant-loop-at : goal.invariant-loop-at
invariant-loop-at g l = Passed g.C.CharSet.test l.bytes l.at l.count

abbrev pub decreases-loop-at : goal.decreases-loop-at
decreases-loop-at g l = length l.bytes - l.at
