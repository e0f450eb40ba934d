use Rattle.yaml_check.proofs.Judging.{checks_read}
use Rattle.yaml_check.proofs.run.check_source.Goals as goal

pub returns-in-Ok : goal.returns-in-Ok
returns-in-Ok g c =
    checks_read _ _ _ c.deref.result.now _ _ _ _ (rw c.deref.ensures.value c.in-Ok.ensures) c.judge_bytes.ensures
