use Rattle.std.proofs.Common.{◌≡◌, ◌≤◌, ◌-◌, length, take}
use Rattle.saphyr_parser.specs.Printed.{ArePlain, printed_bytes}
use Rattle.saphyr_parser.proofs.printing.writing.split_plain.Given as goal

abbrev pub invariant-loop-count : goal.invariant-loop-count
invariant-loop-count l = record { within : l.count ≤ length l.text; plain : ArePlain l.text 0 l.count }

abbrev pub decreases-loop-count : goal.decreases-loop-count
decreases-loop-count l = length l.text - l.count

abbrev pub invariant-loop-count-2 : goal.invariant-loop-count-2
invariant-loop-count-2 l =
    record { within : l.count ≤ length l.text; plain : printed_bytes (take l.count l.text) ≡ take l.count l.text }

abbrev pub decreases-loop-count-2 : goal.decreases-loop-count-2
decreases-loop-count-2 l = length l.text - l.count
