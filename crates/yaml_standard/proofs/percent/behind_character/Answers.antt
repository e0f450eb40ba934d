use Rattle.std.proofs.lemmas.Option.{IfSome_then}
use Rattle.std.proofs.Common.{◌∙◌, sym}
use Rattle.yaml_standard.proofs.Escapes.{one_as_it_is, one_escaped}
use Rattle.yaml_standard.proofs.percent.behind_character.Goals as goal

pub returns-then-first-eq37 : goal.returns-then-first-eq37
returns-then-first-eq37 g c =
    IfSome_then c.behind_escapes.result c.behind_escapes.ensures (λ x t. one_escaped g.C.CharSet.test _ _ t)

pub returns-then-has : goal.returns-then-has
returns-then-has g c =
    one_as_it_is g.C.CharSet.test _ _ _ c.in_ok-first.ensures.some
    (sym c.has.ensures ∙ c.if-has.true) c.if-first-eq37.false
