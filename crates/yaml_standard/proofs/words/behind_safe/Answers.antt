use Rattle.std.proofs.Common.{rules}
use Rattle.yaml_standard.proofs.PlainWords.{nothing_safe, one_more_part, part_shorter}
use Rattle.yaml_standard.proofs.words.behind_safe.Goals as goal

pub loop-part-init : goal.loop-part-init
loop-part-init c = record { text = search rules; taken = nothing_safe _ _ }

pub loop-part-preserved : goal.loop-part-preserved
loop-part-preserved c =
    record { text = search rules; taken = one_more_part _ _ _ _ c.loop-part.invariant.taken c.in-Some.ensures }

pub loop-part-smaller : goal.loop-part-smaller
loop-part-smaller c = part_shorter _ _ _ c.in-Some.ensures
