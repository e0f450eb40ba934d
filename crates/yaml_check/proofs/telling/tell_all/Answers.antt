use Rattle.yaml_check.proofs.Reported.{all_more}
use Rattle.yaml_check.proofs.telling.tell_all.Goals as goal

pub loop-finding-preserved : goal.loop-finding-preserved
loop-finding-preserved c =
    all_more _ _ _ _ c.args.list.now c.loop-finding.finding-index _ _ _ _ c.loop-finding-test.true
    c.loop-finding.invariant c.in_ok-tell_with_notes.ensures
