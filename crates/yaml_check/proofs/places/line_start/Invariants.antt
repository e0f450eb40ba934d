use Rattle.std.proofs.Common.{◌≡◌, ℕ, ◌<◌, ◌≤◌, false, slice_index}
use Rattle.yaml_check.specs.Shown.{is_end_of_line}
use Rattle.yaml_check.proofs.places.line_start.Given as goal

abbrev pub invariant-loop-start : goal.invariant-loop-start
invariant-loop-start l = record {
  before : l.start ≤ l.at;
  same : (k : ℕ) → l.start ≤ k → k < l.at → is_end_of_line (slice_index l.text k) ≡ false;
}

abbrev pub decreases-loop-start : goal.decreases-loop-start
decreases-loop-start l = l.start
