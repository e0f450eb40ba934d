use Rattle.std.specs.Prelude.{⊤}
use Rattle.saphyr_parser.specs.Cursor.{to_come, count}
use Rattle.test_parser.proofs.trees.one_by_one.count_explicit.Given as goal

abbrev pub invariant-loop-parser : goal.invariant-loop-parser
invariant-loop-parser l = ⊤

abbrev pub decreases-loop-parser : goal.decreases-loop-parser
decreases-loop-parser l = count (to_come l.parser)
