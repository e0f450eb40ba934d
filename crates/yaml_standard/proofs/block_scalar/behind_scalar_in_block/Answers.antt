use Rattle.std.proofs.lemmas.Option.{IfSome_then}
use Rattle.yaml_standard.proofs.BlockScalars.{scalar_in_block}
use Rattle.yaml_standard.proofs.block_scalar.behind_scalar_in_block.Goals as goal

pub returns : goal.returns
returns c =
    IfSome_then c.behind_block_scalar.result c.behind_block_scalar.ensures
    (λ x t. scalar_in_block _ _ _ _ c.in_ok-scalar.ensures t)
