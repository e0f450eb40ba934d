use Rattle.std.proofs.lemmas.Option.{IfSome_then}
use Rattle.yaml_standard.proofs.NodeProperties.{anchor_taken}
use Rattle.yaml_standard.proofs.tag.behind_anchor.Goals as goal

pub returns : goal.returns
returns c = IfSome_then c.behind_anchor_name.result c.behind_anchor_name.ensures
    (λ x t. anchor_taken _ _ _ c.in_ok-name.ensures t)
