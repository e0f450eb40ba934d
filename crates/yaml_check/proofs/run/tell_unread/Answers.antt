use Rattle.yaml_check.proofs.Judging.{unread_want}
use Rattle.yaml_check.proofs.run.tell_unread.Goals as goal

pub returns-in_err-message : goal.returns-in_err-message
returns-in_err-message g c = unread_want _ _ _ _ c.from_residual.ensures.1

pub returns-in_err-told : goal.returns-in_err-told
returns-in_err-told g c = unread_want _ _ _ _ c.from_residual-in_err-told.ensures.1
