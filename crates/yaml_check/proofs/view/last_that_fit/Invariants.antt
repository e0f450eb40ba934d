use Rattle.std.proofs.Common.{◌≡◌, ◌+◌, ◌≤◌, length, drop}
use Rattle.yaml_check.specs.Shown.{shown_columns}
use Rattle.yaml_check.proofs.view.last_that_fit.Given as goal

abbrev pub invariant-loop-start : goal.invariant-loop-start
invariant-loop-start l = record {
  within : l.start ≤ length l.characters;
  left : l.left + shown_columns (drop l.start l.characters) ≡ l.most;
  few : length l.characters ≤ 200 + l.start;
}

abbrev pub decreases-loop-start : goal.decreases-loop-start
decreases-loop-start l = l.start
