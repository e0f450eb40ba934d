use Rattle.std.proofs.Common.{rules}
use Rattle.yaml_standard.proofs.Documents.{mark_shorter}
use Rattle.yaml_standard.proofs.Pieces.{none_of_many, one_of_many}
use Rattle.yaml_standard.proofs.document.behind_marks.Goals as goal

pub loop-behind-init : goal.loop-behind-init
loop-behind-init c = record { text = search rules; taken = none_of_many _ _ }

pub loop-behind-preserved : goal.loop-behind-preserved
loop-behind-preserved c =
    record { text = search rules; taken = one_of_many _ _ _ _ c.loop-behind.invariant.taken c.in-Some.ensures }

pub loop-behind-smaller : goal.loop-behind-smaller
loop-behind-smaller c = mark_shorter _ _ c.in-Some.ensures
