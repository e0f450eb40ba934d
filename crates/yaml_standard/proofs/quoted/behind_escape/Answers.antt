use Rattle.std.proofs.lemmas.Option.{IfSome_then}
use Rattle.std.proofs.Common.{◌∙◌, sym}
use Rattle.yaml_standard.proofs.Quotes.{passes_escaped_break, passes_escape, passes_number}
use Rattle.yaml_standard.proofs.quoted.behind_escape.Goals as goal

pub returns-in-Some : goal.returns-in-Some
returns-in-Some c = passes_escaped_break _ _ _ _ c.in_ok-letter.ensures c.in-Some.ensures

pub returns-in-Some-short_escape : goal.returns-in-Some-short_escape
returns-in-Some-short_escape c =
    passes_escape _ _ _ _ _ _ c.in_ok-letter.ensures c.in_ok-name.ensures.some
    (sym c.short_escape.ensures.value ∙ c.in-Some-short_escape.is)

pub returns : goal.returns
returns c = IfSome_then c.behind_digits.result c.behind_digits.ensures
    (λ x n. passes_number _ _ _ _ _ _ _ c.in_ok-letter.ensures c.in_ok-name.ensures.some
    (sym c.digit_count.ensures.count ∙ c.in_ok-count.was) n)
