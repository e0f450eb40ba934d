use Rattle.std.proofs.Common.{◌<◌}
use Rattle.yaml_check.specs.Helps.{BeginsContent}
use Rattle.yaml_check.proofs.lines.line_above.Given as goal

abbrev pub invariant-loop-above : goal.invariant-loop-above
invariant-loop-above l = record {
  before : l.above < l.at;
  begins : BeginsContent l.text l.at l.above;
}

abbrev pub decreases-loop-above : goal.decreases-loop-above
decreases-loop-above l = l.above
