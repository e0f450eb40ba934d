use Rattle.std.proofs.Common.{rules}
use Rattle.yaml_standard.proofs.Leaves.{no_line, line_more, line_whole}
use Rattle.yaml_standard.proofs.leaf.is_short.Goals as goal

pub loop-init : goal.loop-init
loop-init c = record { text = search rules; passed = no_line _ }

pub loop-preserved : goal.loop-preserved
loop-preserved c = record {
  text = search rules;
  passed = line_more _ _ _ _ _ c.loop.invariant.passed c.in-Some.ensures.some c.if-c-eq10.false;
}

pub returns-in_default : goal.returns-in_default
returns-in_default c = λ _. line_whole _ _ _ c.loop.invariant.passed c.in_default.ensures.none c.loop-test.true
