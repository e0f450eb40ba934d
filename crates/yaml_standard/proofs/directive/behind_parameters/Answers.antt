use Rattle.yaml_standard.proofs.LineDirectives.{no_parameters, parameters}
use Rattle.yaml_standard.proofs.directive.behind_parameters.Goals as goal

pub returns-in-None : goal.returns-in-None
returns-in-None c = no_parameters _

pub returns-in-Some : goal.returns-in-Some
returns-in-Some c = parameters _ _ _ c.in-Some.ensures c.behind_run.ensures
