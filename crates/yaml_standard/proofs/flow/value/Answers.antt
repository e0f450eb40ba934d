use Rattle.yaml_standard.proofs.FlowValues.{adjacent_value, separate_value, value_left_out}
use Rattle.yaml_standard.proofs.flow.value.Goals as goal

pub returns-then-is_left_out : goal.returns-then-is_left_out
returns-then-is_left_out c = value_left_out _ _ _

pub returns-then-adjacent : goal.returns-then-adjacent
returns-then-adjacent c = λ end s. adjacent_value _ _ _ _ _ c.behind_separation-rest.ensures c.if-adjacent.true s

pub returns-then-is_past : goal.returns-then-is_past
returns-then-is_past c = λ end s.
    separate_value _ _ _ _ _ c.behind_separation-rest.ensures (c.is_past.ensures c.if-is_past.true) s
