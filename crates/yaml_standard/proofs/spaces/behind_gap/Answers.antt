use Rattle.std.proofs.lemmas.Option.{IfSome_then}
use Rattle.yaml_standard.proofs.Separation.{blank_gap, line_gap}
use Rattle.yaml_standard.proofs.spaces.behind_gap.Goals as goal

pub returns-in-None : goal.returns-in-None
returns-in-None c = IfSome_then c.behind_some_blanks.result c.behind_some_blanks.ensures (λ x h. blank_gap _ _ _ h)

pub returns-in-Some : goal.returns-in-Some
returns-in-Some c = line_gap _ _ _ c.in-Some.ensures
