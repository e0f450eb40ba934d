use Rattle.yaml_standard.proofs.block_scalar.behind_empty_scalar.Goals as goal

pub returns-then-may_follow_empty : goal.returns-then-may_follow_empty
returns-then-may_follow_empty c = (
  _,
  c.behind_empty_body-rest.ensures _ _ (c.may_follow_empty.ensures c.if-may_follow_empty.true),
  c.in_ok-column.ensures,
)
