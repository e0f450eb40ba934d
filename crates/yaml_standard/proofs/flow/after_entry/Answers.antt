use Rattle.yaml_standard.proofs.Collections.{bracket_first, others_end, others_more}
use Rattle.yaml_standard.proofs.flow.after_entry.Goals as goal

pub returns-in-Some : goal.returns-in-Some
returns-in-Some c = λ end s. others_more _ _ _ _ _ _ c.behind_separation-end.ensures c.in-Some.ensures s

pub returns : goal.returns
returns c =
    others_end _ _ _ _ _ c.behind_separation-end.ensures (bracket_first _ _ _ _ c.closing.ensures c.in_ok-strip.ensures)
