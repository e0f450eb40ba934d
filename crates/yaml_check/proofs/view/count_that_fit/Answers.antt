use Rattle.std.proofs.Common.{◌≡◌, false, arith}
use Rattle.std.proofs.lemmas.Grind.{common_steps}
use Rattle.std.proofs.lemmas.List.Elements.{All-more}
use Rattle.yaml_check.specs.Shown.{is_end_of_line}
use Rattle.yaml_check.proofs.ViewParts.{full_back}
use Rattle.yaml_check.proofs.view.count_that_fit.Goals as goal

pub loop-left-preserved : goal.loop-left-preserved
loop-left-preserved c =
    let more = c.one_more_fits.ensures.yes c.loop-left-test.true in record {
      within = omega (arith, more.0);
      left = grind (arith, common_steps, more.0);
      line = All-more (λ k. is_end_of_line k ≡ false) c.args.characters.now c.loop-left.count 0 more.0
          c.loop-left.invariant.line more.2;
      few = omega (arith, more.1);
    }

pub returns : goal.returns
returns c = record {
  within = c.loop-left.invariant.within;
  fits = omega (arith, c.loop-left.invariant.left);
  line = c.loop-left.invariant.line;
  few = c.loop-left.invariant.few;
  full = λ within on. full_back c.args.most c.loop-left.left c.loop-left.count _ c.args.characters.now
      c.loop-left.invariant.left within c.loop-left.invariant.few
      (c.one_more_fits.ensures.no c.loop-left-test.false within on);
}
