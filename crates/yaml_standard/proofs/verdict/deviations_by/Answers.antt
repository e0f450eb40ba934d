use Rattle.yaml_standard.proofs.Verdicts.{one_more}
use Rattle.yaml_standard.proofs.verdict.deviations_by.Goals as goal

pub loop-i-preserved : goal.loop-i-preserved
loop-i-preserved c =
    let here = c.behind-here.ensures.here _ c.loop-i.invariant.here in
    let more = one_more _ _ _ _ _ c.loop-i.here.mark _ c.in_ok-push.ensures.items c.loop-i.invariant.found
    c.loop-i.invariant.passed c.behind-here.ensures.later here in
    record { here = here; found = more.0; passed = more.1 }
