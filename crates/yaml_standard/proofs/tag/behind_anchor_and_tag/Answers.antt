use Rattle.yaml_standard.proofs.NodeProperties.{anchor_alone, anchor_first}
use Rattle.yaml_standard.proofs.tag.behind_anchor_and_tag.Goals as goal

pub returns-in-None : goal.returns-in-None
returns-in-None c = anchor_alone _ _ _ c.in_ok-anchor.ensures

pub returns-in-Some : goal.returns-in-Some
returns-in-Some c = anchor_first _ _ _ _ c.in_ok-anchor.ensures c.in-Some.ensures
