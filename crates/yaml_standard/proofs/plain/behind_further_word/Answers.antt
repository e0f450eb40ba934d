use Rattle.std.proofs.lemmas.Option.{IfSome_then}
use Rattle.yaml_standard.proofs.PlainScalars.{further_word}
use Rattle.yaml_standard.proofs.plain.behind_further_word.Goals as goal

pub returns : goal.returns
returns c = IfSome_then c.behind_word.result c.behind_word.ensures
    (λ x t. further_word _ _ _ _ _ c.in_ok-word.ensures t)
