use Rattle.yaml_standard.proofs.Separation.{comment_filler}
use Rattle.yaml_standard.proofs.spaces.behind_filler_text.Goals as goal

pub returns-in-Some : goal.returns-in-Some
returns-in-Some c = comment_filler _ _ _ c.behind_blanks-rest.ensures c.in-Some.ensures
