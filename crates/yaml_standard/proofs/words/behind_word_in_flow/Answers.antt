use Rattle.std.proofs.lemmas.Option.{IfSome_then}
use Rattle.yaml_standard.proofs.PlainWords.{dashed_word_taken}
use Rattle.yaml_standard.proofs.words.behind_word_in_flow.Goals as goal

pub returns-in-Some : goal.returns-in-Some
returns-in-Some c =
    IfSome_then c.behind_some_safe.result c.behind_some_safe.ensures
    (λ x t. dashed_word_taken _ _ _ _ c.in-Some.ensures t)
