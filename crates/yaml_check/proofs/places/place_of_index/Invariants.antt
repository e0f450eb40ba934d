use Rattle.std.proofs.Common.{◌≡◌, ◌+◌, ◌≤◌}
use Rattle.yaml_check.specs.Places.{line_number, line_begin}
use Rattle.yaml_check.proofs.places.place_of_index.Given as goal

abbrev pub invariant-loop-at : goal.invariant-loop-at
invariant-loop-at l = record {
  line : l.line ≡ line_number l.text l.at;
  few : l.line ≤ l.at + 1;
  start : l.start ≡ line_begin l.text l.at;
  before : l.start ≤ l.at;
}
