use Rattle.std.proofs.lemmas.Option.{IfSome_then}
use Rattle.yaml_standard.proofs.NodeProperties.{anchor_alone, tag_alone}
use Rattle.yaml_standard.proofs.lead.behind_some_properties.Goals as goal

pub returns-in-None : goal.returns-in-None
returns-in-None c = IfSome_then c.behind_tag.result c.behind_tag.ensures (λ x t. tag_alone _ _ _ t)

pub returns-in-Some : goal.returns-in-Some
returns-in-Some c = anchor_alone _ _ _ c.in-Some.ensures
