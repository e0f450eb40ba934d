use Rattle.std.proofs.lemmas.Option.{IfSome_then}
use Rattle.yaml_standard.proofs.PlainScalars.{before_word}
use Rattle.yaml_standard.proofs.plain.behind_dashes_and_gap.Goals as goal

pub returns : goal.returns
returns c = IfSome_then c.behind_word_gap.result c.behind_word_gap.ensures
    (λ x t. before_word _ _ _ _ c.behind_dashes-dashes.ensures t)
