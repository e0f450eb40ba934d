use Rattle.std.proofs.Common.{◌∙◌, sym, arith}
use Rattle.yaml_check.proofs.StatusLemmas.{passed_status, status_passed, status_unchecked, unchecked_status, worst_is_one, worst_step, worst_whole}
use Rattle.yaml_check.proofs.run.status_of.Goals as goal

pub loop-answer-preserved : goal.loop-answer-preserved
loop-answer-preserved c =
    worst_step _ _ _ _ _ _ _ c.loop-answer-test.true c.loop-answer.invariant
    c.status_of_one.ensures c.max-status.ensures

pub returns : goal.returns
returns c =
    let answers = c.args.answers.now in
    let strict = c.args.strict in
    let worst = worst_whole strict answers _ _ c.loop-answer.auto.answer-index-end c.loop-answer-test.false
    c.loop-answer.invariant in
    record {
      passed = (
        λ is. passed_status strict answers (sym worst ∙ is),
        λ passed. worst ∙ status_passed strict answers passed,
      );
      unchecked = (
        λ is. unchecked_status strict answers (sym worst ∙ is),
        λ one. worst ∙ status_unchecked strict answers one,
      );
      else_wrong = let most = worst_is_one strict answers in omega arith;
    }
