use Rattle.yaml_standard.proofs.PlainScalars.{lone_dash}
use Rattle.yaml_standard.proofs.plain.behind_lone_dash.Goals as goal

pub returns-in_default : goal.returns-in_default
returns-in_default c = lone_dash _ _ _ _ c.in_ok-dash.ensures c.in_ok-rest.ensures
