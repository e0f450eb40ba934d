use Rattle.std.proofs.lemmas.Option.{IfSome_then}
use Rattle.yaml_standard.proofs.PlainWords.{word_taken}
use Rattle.yaml_standard.proofs.words.behind_word_outside.Goals as goal

pub returns : goal.returns
returns c = IfSome_then c.behind_some_safe.result c.behind_some_safe.ensures
    (λ x t. word_taken _ _ _ _ _ c.in_ok-first.ensures.some c.if-first-eq35.false (λ e. absurd (cc)) t)
