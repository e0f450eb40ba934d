use Rattle.std.proofs.lemmas.Option.{IfSome_then}
use Rattle.std.proofs.Common.{◌∙◌, sym}
use Rattle.yaml_standard.proofs.PlainScalars.{marked_first, other_first}
use Rattle.yaml_standard.proofs.plain.behind_first_word.Goals as goal

pub returns-then-begins_before_safe : goal.returns-then-begins_before_safe
returns-then-begins_before_safe c = IfSome_then c.behind_some_safe.result c.behind_some_safe.ensures
    (λ x t. marked_first _ _ _ _ _ c.in_ok-first.ensures.some
    (sym c.begins_before_safe.ensures ∙ c.if-begins_before_safe.true) t)

pub returns : goal.returns
returns c = IfSome_then c.behind_word.result c.behind_word.ensures
    (λ x t. other_first _ _ _ _ _ c.in_ok-first.ensures.some
    (sym c.begins_before_safe.ensures ∙ c.if-begins_before_safe.false)
    (sym c.begins_plain.ensures ∙ c.if-not-begins_plain.false) t)
