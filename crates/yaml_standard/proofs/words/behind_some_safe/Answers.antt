use Rattle.yaml_standard.proofs.PlainWords.{some_safe}
use Rattle.yaml_standard.proofs.words.behind_some_safe.Goals as goal

pub returns : goal.returns
returns c = some_safe _ _ _ _ c.in_ok-rest.ensures c.behind_safe.ensures
