use Rattle.yaml_standard.proofs.BlockBodies.{body_of_one, body_of_lines}
use Rattle.yaml_standard.proofs.block_body.behind_content_body.Goals as goal

pub returns-then-is_end : goal.returns-then-is_end
returns-then-is_end c =
    body_of_one _ _ _ _ _ c.behind_empty_lines-line.ensures c.in_ok-rest.ensures (c.is_end.ensures c.if-is_end.true)

pub returns : goal.returns
returns c =
    body_of_lines _ _ _ _ _ _ _ c.behind_empty_lines-line.ensures c.in_ok-rest.ensures c.in_ok-next.ensures
    c.behind_lines.ensures
