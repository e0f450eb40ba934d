use Rattle.yaml_standard.proofs.TagDirectives.{prefix_taken}
use Rattle.yaml_standard.proofs.directive.behind_prefix.Goals as goal

pub returns : goal.returns
returns c = prefix_taken _ _ _ c.in_ok-rest.ensures c.behind_decoded.ensures
