use Rattle.yaml_check.proofs.FoundIn.{found_in, wrong_in}
use Rattle.yaml_check.proofs.checking.check_bytes.Goals as goal

pub returns-in-Ok : goal.returns-in-Ok
returns-in-Ok c = found_in _ _ _ _ c.in-Ok.ensures.cases.0 c.in-Ok.ensures.cases.1 c.check_text.ensures.fault
    c.check_text.ensures.findings

pub returns-in-Err : goal.returns-in-Err
returns-in-Err c = wrong_in _ _ _ c.in-Err.ensures.cases.0 c.not_utf8.ensures
