use Rattle.yaml_standard.proofs.FlowPairs.{colon_taken, key_taken}
use Rattle.yaml_standard.proofs.flow.behind_key.Goals as goal

pub returns-then-is_left_out : goal.returns-then-is_left_out
returns-then-is_left_out c = colon_taken _ _ _ _ _ c.in_ok-rest.ensures

pub returns : goal.returns
returns c = key_taken _ _ _ _ _ _ c.in_ok-key.ensures
