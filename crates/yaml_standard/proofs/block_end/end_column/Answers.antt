use Rattle.yaml_standard.proofs.BlockEnds.{spaced_ends}
use Rattle.yaml_standard.proofs.block_end.end_column.Goals as goal

pub returns-then-may_end : goal.returns-then-may_end
returns-then-may_end c =
    spaced_ends _ _ _ _ _ _ c.split_spaces-column.ensures c.if-column-indentation.true c.first.ensures
    (c.may_end.ensures c.if-may_end.true)
