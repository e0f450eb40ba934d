use Rattle.yaml_standard.proofs.Leaves.{no_front, front_taken}
use Rattle.yaml_standard.proofs.leaf.behind_front.Goals as goal

pub returns-in_default : goal.returns-in_default
returns-in_default c = no_front _ _

pub returns-then-is_past : goal.returns-then-is_past
returns-then-is_past c =
    front_taken _ _ _ _ c.in-Some.ensures c.behind_separation-content.ensures (c.is_past.ensures c.if-is_past.true)

pub returns-else-is_past : goal.returns-else-is_past
returns-else-is_past c = no_front _ _
