use Rattle.std.proofs.lemmas.Option.{IfSome_then}
use Rattle.yaml_standard.proofs.Quotes.{quoted_whole}
use Rattle.yaml_standard.proofs.quoted.behind_quoted.Goals as goal

pub returns : goal.returns
returns c = IfSome_then c.behind_inside.result c.behind_inside.ensures
    (λ x t. quoted_whole _ _ _ _ _ _ c.in_ok-inside.ensures c.mark.ensures t)
