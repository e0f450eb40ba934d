use Rattle.yaml_standard.proofs.NodeProperties.{tag_alone, tag_first}
use Rattle.yaml_standard.proofs.tag.behind_tag_and_anchor.Goals as goal

pub returns-in-None : goal.returns-in-None
returns-in-None c = tag_alone _ _ _ c.in_ok-tag.ensures

pub returns-in-Some : goal.returns-in-Some
returns-in-Some c = tag_first _ _ _ _ c.in_ok-tag.ensures c.in-Some.ensures
