use Rattle.std.proofs.Common.{◌∙◌, sym}
use Rattle.yaml_standard.proofs.Quotes.{passes_break, passes_itself}
use Rattle.yaml_standard.proofs.quoted.behind_part.Goals as goal

pub returns-in-Some : goal.returns-in-Some
returns-in-Some c = passes_break _ _ _ _ c.in-Some.ensures

pub returns-then-stands_for_itself : goal.returns-then-stands_for_itself
returns-then-stands_for_itself c =
    passes_itself _ _ _ _ _ c.in_ok-first.ensures.some (sym c.stands_for_itself.ensures ∙ c.if-stands_for_itself.true)
