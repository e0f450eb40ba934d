use Rattle.std.specs.Prelude.{⊤}
use Rattle.saphyr_parser.specs.Cursor.{count, to_come}
use Rattle.test_cases.proofs.refused_memory.trees.load_each.Given as goal

abbrev pub invariant-loop-documents : goal.invariant-loop-documents
invariant-loop-documents g l = ⊤

abbrev pub decreases-loop-documents : goal.decreases-loop-documents
decreases-loop-documents g l = count (to_come l.parser)
