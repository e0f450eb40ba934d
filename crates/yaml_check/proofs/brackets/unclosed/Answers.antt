use Rattle.std.proofs.Common.{◌≡◌, ◌∙◌, true, false, sym, arith}
use Rattle.yaml_check.specs.Opened.{is_right_bracket, is_left_bracket}
use Rattle.yaml_check.proofs.StepsBack.{back_over_closing, back_over_other}
use Rattle.yaml_check.proofs.brackets.unclosed.Goals as goal

pub loop-at-preserved-then-is_right_bracket : goal.loop-at-preserved-then-is_right_bracket
loop-at-preserved-then-is_right_bracket c =
    let closes : is_right_bracket c.index-text-at.result ≡ true =
    sym c.is_right_bracket.ensures ∙ c.if-is_right_bracket.true in
    record {
      few = omega arith;
      rest = sym (back_over_closing _ _ _ _ _ c.loop-at-test.true (omega arith) c.index-text-at.is closes)
          ∙ c.loop-at.invariant.rest;
    }

pub loop-at-preserved : goal.loop-at-preserved
loop-at-preserved c =
    let closes : is_right_bracket c.index-text-at.result ≡ false =
    sym c.is_right_bracket.ensures ∙ c.if-is_right_bracket.false in
    let opens : is_left_bracket c.index-text-at.result ≡ false =
    sym c.is_left_bracket.ensures ∙ c.if-is_left_bracket.false in
    record {
      few = omega arith;
      rest = sym (back_over_other _ _ _ _ _ c.loop-at-test.true (omega arith) c.index-text-at.is closes opens)
          ∙ c.loop-at.invariant.rest;
    }
