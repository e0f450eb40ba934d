use Rattle.yaml_standard.proofs.HandleNames.{primary_handle, named_handle}
use Rattle.yaml_standard.proofs.names.behind_handle.Goals as goal

pub returns-in-None : goal.returns-in-None
returns-in-None c = primary_handle _ _ c.in_ok-word.ensures

pub returns-in-Some : goal.returns-in-Some
returns-in-Some c = named_handle _ _ _ _ c.in_ok-word.ensures c.behind_run.ensures c.in-Some.ensures
