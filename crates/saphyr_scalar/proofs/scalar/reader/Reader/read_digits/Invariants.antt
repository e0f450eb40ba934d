use Rattle.saphyr_scalar.proofs.Common.{◌≡◌, ◌+◌, ◌<◌, ◌≤◌, ◌-◌, ◌^◌, length, along, cursor_of}
use Rattle.saphyr_scalar.specs.Steps.Quoted.{digits, mid_line}
use Rattle.saphyr_scalar.proofs.scalar.reader.Reader.read_digits.Given as goal

abbrev pub invariant-loop : goal.invariant-loop
invariant-loop g l = record {
  same : digits l.fn.start (l.fn.count - l.counter) l.value
      (mid_line (along l.fn.self.mark l.counter) (cursor_of l.self).rest)
      ≡ digits l.fn.start l.fn.count 0 (cursor_of l.fn.self);
  below : l.value < 16 ^ l.counter;
  mark : l.self.mark ≡ l.fn.self.mark;
  line : l.self.blank_so_far ≡ l.fn.self.blank_so_far;
  counted : l.counter + length (cursor_of l.self).rest ≤ length (cursor_of l.fn.self).rest;
}
