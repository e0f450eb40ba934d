use Rattle.yaml_standard.proofs.Places.{behind_one, behind_two}
use Rattle.yaml_standard.proofs.place.pass_break.Goals as goal

pub returns-in-None-clause-here : goal.returns-in-None-clause-here
returns-in-None-clause-here c = λ text. behind_one text _ _ _ _ _ _ c.requires c.in-None.ensures.none
    c.saturating_add-index.ensures c.saturating_add-line.ensures c.new.ensures.index c.new.ensures.line
    c.new.ensures.col

pub returns-in-Some-clause-here : goal.returns-in-Some-clause-here
returns-in-Some-clause-here c = λ text. behind_two text _ _ _ _ _ _ _ _ c.in-Some.ensures.some.0
    c.in-Some.ensures.some.1 c.saturating_add-index.ensures c.saturating_add.ensures c.saturating_add-line.ensures
    c.new-in-Some.ensures.index c.new-in-Some.ensures.line c.new-in-Some.ensures.col
