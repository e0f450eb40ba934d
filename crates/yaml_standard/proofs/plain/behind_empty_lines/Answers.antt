use Rattle.std.proofs.Common.{rules}
use Rattle.yaml_standard.proofs.Pieces.{none_of_many, one_of_many}
use Rattle.yaml_standard.proofs.PlainScalars.{line_shorter}
use Rattle.yaml_standard.proofs.plain.behind_empty_lines.Goals as goal

pub loop-line-init : goal.loop-line-init
loop-line-init c = record { text = search rules; taken = none_of_many _ _ }

pub loop-line-preserved : goal.loop-line-preserved
loop-line-preserved c =
    record { text = search rules; taken = one_of_many _ _ _ _ c.loop-line.invariant.taken c.in-Some.ensures }

pub loop-line-smaller : goal.loop-line-smaller
loop-line-smaller c = line_shorter _ _ _ c.in-Some.ensures
