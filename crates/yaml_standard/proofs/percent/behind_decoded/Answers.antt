use Rattle.std.proofs.Common.{rules}
use Rattle.yaml_standard.proofs.Escapes.{none_decoded, more_decoded}
use Rattle.yaml_standard.proofs.percent.behind_decoded.Goals as goal

pub loop-init : goal.loop-init
loop-init g c =
    record { text = search rules; taken = none_decoded g.C.CharSet.test _ }

pub loop-preserved : goal.loop-preserved
loop-preserved g c =
    record { text = search rules; taken = more_decoded g.C.CharSet.test _ _ _ c.loop.invariant.taken c.in-Some.ensures }
