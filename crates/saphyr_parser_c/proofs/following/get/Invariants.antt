use Rattle.saphyr_parser_c.proofs.Followed.{NoneBefore}
use Rattle.saphyr_parser_c.proofs.following.get.Given as goal

abbrev pub invariant-loop-index : goal.invariant-loop-index
invariant-loop-index l = NoneBefore l.table l.key l.whole l.index
