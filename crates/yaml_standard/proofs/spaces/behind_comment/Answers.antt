use Rattle.yaml_standard.proofs.Separation.{comment_taken}
use Rattle.yaml_standard.proofs.spaces.behind_comment.Goals as goal

pub returns : goal.returns
returns c = comment_taken _ _ _ c.in_ok-words.ensures c.behind_run.ensures
