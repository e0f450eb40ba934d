use Rattle.std.proofs.lemmas.Option.{IfSome_then}
use Rattle.yaml_standard.proofs.Separation.{separation_line}
use Rattle.yaml_standard.proofs.spaces.behind_separation_line.Goals as goal

pub returns : goal.returns
returns c =
    IfSome_then c.behind_spaces.result c.behind_spaces.ensures
    (λ x e. separation_line _ _ _ _ _ c.in_ok-line.ensures c.behind_filler-content.ensures e)
