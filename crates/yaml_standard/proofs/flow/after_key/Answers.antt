use Rattle.yaml_standard.proofs.FlowValues.{blanks_and_colon, no_value, separation_and_colon}
use Rattle.yaml_standard.proofs.flow.after_key.Goals as goal

pub returns-in-Some : goal.returns-in-Some
returns-in-Some c = λ end s. blanks_and_colon _ _ _ _ _ c.behind_blanks.ensures c.in-Some.ensures s

pub returns-in-Some-strip : goal.returns-in-Some-strip
returns-in-Some-strip c =
    λ end s. separation_and_colon _ _ _ _ _ c.behind_separation.ensures c.in-Some-strip.ensures s

pub returns : goal.returns
returns c = no_value _ _
