use Rattle.std.proofs.Common.{rules}
use Rattle.yaml_standard.proofs.PlainWords.{no_colons, one_more_colon}
use Rattle.yaml_standard.proofs.Separation.{one_shorter}
use Rattle.yaml_standard.proofs.plain.behind_other_colons.Goals as goal

pub loop-next-init : goal.loop-next-init
loop-next-init c = record {
  last = search rules;
  behind = search rules;
  taken = no_colons _;
  next = c.in_ok-behind.ensures;
}

pub loop-next-preserved : goal.loop-next-preserved
loop-next-preserved c = record {
  last = search rules;
  behind = search rules;
  taken = one_more_colon _ _ _ c.loop-next.invariant.taken c.loop-next.invariant.next;
  next = c.in-Some.ensures;
}

pub loop-next-smaller : goal.loop-next-smaller
loop-next-smaller c = one_shorter _ _ _ c.in-Some.ensures
