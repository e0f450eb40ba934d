use Rattle.std.proofs.Common.{rules}
use Rattle.yaml_standard.proofs.Pieces.{none_of_many, one_of_many}
use Rattle.yaml_standard.proofs.PlainScalars.{dash_shorter}
use Rattle.yaml_standard.proofs.plain.behind_dashes.Goals as goal

pub loop-dash-init : goal.loop-dash-init
loop-dash-init c = record { text = search rules; taken = none_of_many _ _ }

pub loop-dash-preserved : goal.loop-dash-preserved
loop-dash-preserved c =
    record { text = search rules; taken = one_of_many _ _ _ _ c.loop-dash.invariant.taken c.in-Some.ensures }

pub loop-dash-smaller : goal.loop-dash-smaller
loop-dash-smaller c = dash_shorter _ _ _ c.in-Some.ensures
