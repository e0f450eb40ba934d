use Rattle.std.proofs.Common.{inr}
use Rattle.yaml_check.proofs.Judging.{judges_text}
use Rattle.yaml_check.proofs.run.judge_bytes.Goals as goal

pub returns-in-Ok : goal.returns-in-Ok
returns-in-Ok g c = judges_text _ _ _ _ _ _ _ c.in-Ok.ensures.cases.0 c.in-Ok.ensures.cases.1 c.judge.ensures

pub returns-in-Err : goal.returns-in-Err
returns-in-Err g c = inr (c.in-Err.ensures.cases.0, c.tell_not_utf8.ensures)
