use Rattle.std.proofs.lemmas.Option.{IfSome_then}
use Rattle.yaml_standard.proofs.NodeProperties.{alias_taken}
use Rattle.yaml_standard.proofs.tag.behind_alias.Goals as goal

pub returns : goal.returns
returns c = IfSome_then c.behind_anchor_name.result c.behind_anchor_name.ensures
    (λ x t. alias_taken _ _ _ c.in_ok-name.ensures t)
