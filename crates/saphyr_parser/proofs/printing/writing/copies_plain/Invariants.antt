use Rattle.std.proofs.Common.{◌≡◌, ◌≤◌, ◌-◌, length, take}
use Rattle.saphyr_parser.specs.Printed.{printed_bytes}
use Rattle.saphyr_parser.proofs.printing.writing.copies_plain.Given as goal

abbrev pub invariant-loop-count : goal.invariant-loop-count
invariant-loop-count l = record {
  room : length l.room ≡ length l.text;
  within : l.count ≤ length l.text;
  plain : printed_bytes (take l.count l.text) ≡ take l.count l.text;
  copied : take l.count l.room ≡ take l.count l.text;
}

abbrev pub decreases-loop-count : goal.decreases-loop-count
decreases-loop-count l = length l.text - l.count
