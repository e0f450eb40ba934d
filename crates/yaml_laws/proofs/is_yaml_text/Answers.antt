use Rattle.yaml_laws.proofs.Json.Texts.{json_is_yaml}
use Rattle.yaml_laws.proofs.is_yaml_text.Goals as goal

pub returns : goal.returns
returns c = json_is_yaml
