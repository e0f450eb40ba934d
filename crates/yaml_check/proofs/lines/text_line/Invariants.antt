use Rattle.std.proofs.Common.{◌<◌}
use Rattle.yaml_check.specs.Helps.{BeginsContent}
use Rattle.yaml_check.proofs.lines.text_line.Given as goal

abbrev pub invariant-loop-found : goal.invariant-loop-found
invariant-loop-found l = record {
  found_before : l.found < l.end;
  found : BeginsContent l.text l.end l.found;
  at_before : l.at < l.end;
  at : BeginsContent l.text l.end l.at;
}

abbrev pub decreases-loop-found : goal.decreases-loop-found
decreases-loop-found l = l.at
