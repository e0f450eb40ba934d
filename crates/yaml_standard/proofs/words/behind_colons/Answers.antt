use Rattle.std.proofs.Common.{rules}
use Rattle.yaml_standard.proofs.Separation.{one_shorter}
use Rattle.yaml_standard.proofs.PlainWords.{no_colons, one_more_colon}
use Rattle.yaml_standard.proofs.words.behind_colons.Goals as goal

pub loop-behind-init : goal.loop-behind-init
loop-behind-init c = record { text = search rules; taken = no_colons _ }

pub loop-behind-preserved : goal.loop-behind-preserved
loop-behind-preserved c =
    record { text = search rules; taken = one_more_colon _ _ _ c.loop-behind.invariant.taken c.in-Some.ensures }

pub loop-behind-smaller : goal.loop-behind-smaller
loop-behind-smaller c = one_shorter _ _ _ c.in-Some.ensures
