use Rattle.std.proofs.Common.{◌<◌}
use Rattle.yaml_check.proofs.lines.block_scalar_above.Given as goal

abbrev pub invariant-loop-least : goal.invariant-loop-least
invariant-loop-least l = record {
  line : l.line < l.at;
  first : l.first < l.at;
}

abbrev pub decreases-loop-least : goal.decreases-loop-least
decreases-loop-least l = l.line
