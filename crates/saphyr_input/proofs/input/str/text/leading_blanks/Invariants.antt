use Rattle.std.proofs.Common.{◌≡◌, ◌+◌, ◌-◌, ◌≤◌, length, take, drop}
use Rattle.std.specs.Prelude.{◌==◌}
use Rattle.std.specs.List.{prefix_len, list_any}
use Rattle.saphyr_input.specs.Fronts as spec
use Rattle.saphyr_input.proofs.input.str.text.leading_blanks.Given as goal

abbrev pub invariant-loop-count : goal.invariant-loop-count
invariant-loop-count l = record {
  within : l.count ≤ length l.bytes;
  run : l.count + prefix_len (spec.is_passed_blank l.with_tabs) (drop l.count l.bytes)
      ≡ prefix_len (spec.is_passed_blank l.with_tabs) l.bytes;
  tabs : l.tabs ≡ list_any (λ c. c == 9) (take l.count l.bytes);
  spaces : l.spaces ≡ list_any (λ c. c == 32) (take l.count l.bytes);
}

abbrev pub decreases-loop-count : goal.decreases-loop-count
decreases-loop-count l = length l.bytes - l.count
