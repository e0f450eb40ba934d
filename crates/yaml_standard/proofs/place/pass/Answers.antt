use Rattle.std.proofs.Common.{◌∙◌, sym}
use Rattle.yaml_standard.proofs.Places.{behind_mark, behind_other}
use Rattle.yaml_standard.proofs.place.pass.Goals as goal

pub returns-then-mark-eq0-clause-here : goal.returns-then-mark-eq0-clause-here
returns-then-mark-eq0-clause-here c = λ text. behind_mark text _ _ _ _ _ c.if-c-eq65279.true c.if-mark-eq0.true c.saturating_add-index.ensures
    c.new.ensures.index c.new.ensures.line c.new.ensures.col

pub returns-clause-here : goal.returns-clause-here
returns-clause-here c = λ text. behind_other text _ _ _ _ _ _ (sym c.is_break.ensures.test ∙ c.if-is_break.false)
    c.saturating_add-index.ensures c.saturating_add-col.ensures c.new-2.ensures.index c.new-2.ensures.line
    c.new-2.ensures.col
