use Rattle.std.proofs.lemmas.Option.{IfSome_then}
use Rattle.yaml_standard.proofs.Documents.{three_taken}
use Rattle.yaml_standard.proofs.document.behind_three.Goals as goal

pub returns : goal.returns
returns c =
    IfSome_then c.strip-3.result c.strip-3.ensures
    (λ x e. three_taken _ _ _ _ _ c.in_ok-second.ensures c.in_ok-third.ensures e)
