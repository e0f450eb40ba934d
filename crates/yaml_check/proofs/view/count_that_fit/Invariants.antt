use Rattle.std.proofs.Common.{◌≡◌, ◌+◌, ◌-◌, ◌≤◌, length, take}
use Rattle.yaml_check.specs.Shown.{shown_columns, StaysOnLine}
use Rattle.yaml_check.proofs.view.count_that_fit.Given as goal

abbrev pub invariant-loop-left : goal.invariant-loop-left
invariant-loop-left l = record {
  within : l.count ≤ length l.characters;
  left : l.left + shown_columns (take l.count l.characters) ≡ l.most;
  line : StaysOnLine (take l.count l.characters);
  few : l.count ≤ 200;
}

abbrev pub decreases-loop-left : goal.decreases-loop-left
decreases-loop-left l = length l.characters - l.count
