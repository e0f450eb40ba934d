use Rattle.std.proofs.Common.{rules}
use Rattle.yaml_check.proofs.checking.check_events.Goals as goal

pub returns-in-Ok-clause-fault : goal.returns-in-Ok-clause-fault
returns-in-Ok-clause-fault g c = search rules

pub returns-in-Ok-clause-warnings : goal.returns-in-Ok-clause-warnings
returns-in-Ok-clause-warnings g c = search rules

pub returns-in-Err-Scan-clause-fault : goal.returns-in-Err-Scan-clause-fault
returns-in-Err-Scan-clause-fault g c = search rules

pub returns-in-Err-Scan-clause-warnings : goal.returns-in-Err-Scan-clause-warnings
returns-in-Err-Scan-clause-warnings g c = search rules

pub returns-in-Err : goal.returns-in-Err
returns-in-Err g c = search rules
