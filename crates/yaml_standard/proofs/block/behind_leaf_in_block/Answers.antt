use Rattle.std.proofs.Common.{false}
use Rattle.std.proofs.lemmas.Option.{IfSome_then}
use Rattle.yaml_standard.specs.declared.leaf.Class.TheVariants as class
use Rattle.yaml_standard.proofs.Leaves.{leaf_of, properties_leaf}
use Rattle.yaml_standard.proofs.block.behind_leaf_in_block.Goals as goal

pub returns-then-is_empty : goal.returns-then-is_empty
returns-then-is_empty c =
    IfSome_then c.behind_properties.result c.behind_properties.ensures
    (λ x t. leaf_of class.Named false _ _ _ (properties_leaf false _ _ _ t))
