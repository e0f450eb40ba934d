use Rattle.yaml_standard.proofs.BlockLines.{last_spaces, no_line}
use Rattle.yaml_standard.proofs.block_lines.behind_last_line.Goals as goal

pub returns-then-is_end : goal.returns-then-is_end
returns-then-is_end c = last_spaces _ _ _ _ c.split_spaces-count.ensures (c.is_end.ensures c.if-is_end.true)

pub returns-in-None : goal.returns-in-None
returns-in-None c = no_line _ _
