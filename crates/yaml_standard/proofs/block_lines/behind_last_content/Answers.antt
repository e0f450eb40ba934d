use Rattle.yaml_standard.proofs.BlockLines.{last_content}
use Rattle.yaml_standard.proofs.block_lines.behind_last_content.Goals as goal

pub returns-then-is_end : goal.returns-then-is_end
returns-then-is_end c = last_content _ _ _ _ c.in_ok-rest.ensures (c.is_end.ensures c.if-is_end.true)
