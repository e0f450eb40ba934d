use Rattle.std.proofs.lemmas.Option.{IfSome_then}
use Rattle.yaml_standard.proofs.PlainScalars.{marked_key, colons_last, marked_last}
use Rattle.yaml_standard.proofs.plain.behind_plain_key.Goals as goal

pub returns-in_default : goal.returns-in_default
returns-in_default c = IfSome_then c.behind_mark_and_colons.result c.behind_mark_and_colons.ensures
    (λ x t. marked_key _ _ _ _ t)

pub returns-in-Some-strip : goal.returns-in-Some-strip
returns-in-Some-strip c = IfSome_then c.behind_other_colons.result c.behind_other_colons.ensures
    (λ x t. colons_last _ _ _ _ _ _ c.in-Some.ensures c.in-Some-strip.ensures t)

pub returns : goal.returns
returns c = IfSome_then c.behind_mark_and_colons-2.result c.behind_mark_and_colons-2.ensures
    (λ x t. marked_last _ _ _ _ _ _ c.in-Some.ensures c.in_ok-word.ensures t)
