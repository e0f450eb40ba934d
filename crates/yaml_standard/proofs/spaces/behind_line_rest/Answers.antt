use Rattle.yaml_standard.proofs.Separation.{comment_ends}
use Rattle.yaml_standard.proofs.spaces.behind_line_rest.Goals as goal

pub returns-in-Some-behind_comment : goal.returns-in-Some-behind_comment
returns-in-Some-behind_comment c = comment_ends _ _ _ c.in-Some.ensures c.in-Some-behind_comment.ensures
