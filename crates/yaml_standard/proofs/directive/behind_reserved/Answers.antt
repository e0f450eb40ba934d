use Rattle.yaml_standard.proofs.LineDirectives.{reserved}
use Rattle.yaml_standard.proofs.directive.behind_reserved.Goals as goal

pub returns : goal.returns
returns c = reserved _ _ _ _ c.in_ok-name.ensures c.in_ok-rest.ensures c.behind_parameters.ensures
