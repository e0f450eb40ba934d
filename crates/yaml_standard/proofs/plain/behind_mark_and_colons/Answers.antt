use Rattle.std.proofs.lemmas.Option.{IfSome_then}
use Rattle.std.proofs.Common.{◌∙◌, sym}
use Rattle.yaml_standard.proofs.PlainScalars.{mark_taken}
use Rattle.yaml_standard.proofs.plain.behind_mark_and_colons.Goals as goal

pub returns-then-begins_before_safe : goal.returns-then-begins_before_safe
returns-then-begins_before_safe c = IfSome_then c.behind_other_colons.result c.behind_other_colons.ensures
    (λ x t. mark_taken _ _ _ _ c.in_ok-mark.ensures.some
    (sym c.begins_before_safe.ensures ∙ c.if-begins_before_safe.true) t)
