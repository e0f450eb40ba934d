use Rattle.std.proofs.Common.{◌∙◌, sym}
use Rattle.yaml_standard.proofs.Pieces.{some_taken}
use Rattle.yaml_standard.proofs.front.behind_some.Goals as goal

pub returns-then-has : goal.returns-then-has
returns-then-has g c =
    some_taken g.C.CharSet.test _ _ _ _ c.in_ok-first.ensures.some
    (sym c.has.ensures ∙ c.if-has.true) c.behind_run.ensures
