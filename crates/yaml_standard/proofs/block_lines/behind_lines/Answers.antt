use Rattle.std.proofs.Common.{rules}
use Rattle.yaml_standard.proofs.BlockLines.{nothing_passed, line_passed}
use Rattle.yaml_standard.proofs.block_lines.behind_lines.Goals as goal

pub loop-line-init : goal.loop-line-init
loop-line-init c = record { text = search rules; passed = nothing_passed _ _ }

pub loop-line-preserved : goal.loop-line-preserved
loop-line-preserved c =
    record { text = search rules; passed = line_passed _ _ _ _ c.loop-line.invariant.passed c.in-Some.ensures }

pub loop-line-smaller : goal.loop-line-smaller
loop-line-smaller c = c.in-Some.ensures.shorter

pub returns : goal.returns
returns c = c.loop-line.invariant.passed _ c.behind_last_line.ensures
