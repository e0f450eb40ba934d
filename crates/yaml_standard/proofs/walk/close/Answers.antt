use Rattle.std.proofs.Common.{rules}
use Rattle.yaml_standard.proofs.Walks.{one_turn}
use Rattle.yaml_standard.proofs.walk.close.Goals as goal

pub loop-preserved : goal.loop-preserved
loop-preserved c = record {
  text = search rules;
  ahead = c.kept-ahead.ensures;
  closes = λ end k. c.loop.invariant.closes end
      (one_turn _ _ _ _ _ _ _ _ c.in-Some.ensures.items c.in_ok-open.ensures c.in-Some-step.ensures k);
}

pub looked-ahead-requires : goal.looked-ahead-requires
looked-ahead-requires c = c.loop.invariant.ahead
