use Rattle.std.proofs.lemmas.Option.{IfSome_then}
use Rattle.yaml_standard.proofs.NodeProperties.{behind_the_gap}
use Rattle.yaml_standard.proofs.tag.behind_second_tag.Goals as goal

pub returns : goal.returns
returns c = IfSome_then c.behind_tag.result c.behind_tag.ensures
    (λ x t. behind_the_gap _ _ _ _ _ c.in_ok-tag.ensures t)
