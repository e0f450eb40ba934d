use Rattle.yaml_standard.proofs.BlockBodies.{empty_before, empty_up_to_end}
use Rattle.yaml_standard.proofs.block_body.behind_empty_body.Goals as goal

pub returns-then-is_end : goal.returns-then-is_end
returns-then-is_end c =
    empty_up_to_end _ _ _ _ _ c.behind_empty_lines-rest.ensures c.split_spaces-count.ensures
    (c.is_end.ensures c.if-is_end.true)

pub returns-else-is_end : goal.returns-else-is_end
returns-else-is_end c = empty_before _ _ _ c.behind_empty_lines-rest.ensures
