use Rattle.saphyr_machine.specs.Cursor.{to_come, count}
use Rattle.saphyr_parser.specs.Dumps.{PrintsUpTo}
use Rattle.saphyr_parser.proofs.printing.dump_each.Given as goal

abbrev pub invariant-loop-out : goal.invariant-loop-out
invariant-loop-out g l = PrintsUpTo l.fn.parser l.parser (g.W.Write.contents l.fn.out) (g.W.Write.contents l.out)

abbrev pub decreases-loop-out : goal.decreases-loop-out
decreases-loop-out g l = count (to_come l.parser)
