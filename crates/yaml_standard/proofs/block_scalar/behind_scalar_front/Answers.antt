use Rattle.std.proofs.lemmas.Option.{IfSome_then}
use Rattle.yaml_standard.proofs.BlockScalars.{no_front, front_taken}
use Rattle.yaml_standard.proofs.block_scalar.behind_scalar_front.Goals as goal

pub returns-in-None : goal.returns-in-None
returns-in-None c = no_front _ _

pub returns-in-Some : goal.returns-in-Some
returns-in-Some c =
    IfSome_then c.behind_gap.result c.behind_gap.ensures (λ x t. front_taken _ _ _ _ c.in-Some.ensures t)
