use Rattle.std.proofs.Common.{◌≡◌, ◌==◌, ◌||◌, ℕ, ◌<◌, ◌≤◌, true, slice_index}
use Rattle.yaml_check.specs.Places.{is_space_or_tab}
use Rattle.yaml_check.proofs.lines.behind_dashes.Given as goal

abbrev pub invariant-loop-at : goal.invariant-loop-at
invariant-loop-at l = (k : ℕ) → l.start ≤ k → k < l.at
    → ((slice_index l.text k == 45) || is_space_or_tab (slice_index l.text k)) ≡ true
