use Rattle.yaml_standard.proofs.BlockLines.{passes_empty}
use Rattle.yaml_standard.proofs.block_lines.behind_line.Goals as goal

pub returns-in-Some : goal.returns-in-Some
returns-in-Some c = passes_empty _ _ _ c.in-Some.ensures
