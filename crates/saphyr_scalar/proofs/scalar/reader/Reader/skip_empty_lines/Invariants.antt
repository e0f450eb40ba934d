use Rattle.saphyr_scalar.proofs.Common.{◌≡◌, true, false, length, string_bytes, cursor_of}
use Rattle.saphyr_scalar.specs.Steps.Plain.{lines}
use Rattle.saphyr_scalar.proofs.scalar.reader.Reader.skip_empty_lines.Given as goal

abbrev pub invariant-loop-c : goal.invariant-loop-c
invariant-loop-c g l = record {
  blank : (cursor_of l.self).blank_so_far ≡ true;
  same : lines l.indent l.start l.tabbed (string_bytes l.feeds) (cursor_of l.self).mark (cursor_of l.self).rest
      ≡ lines l.indent l.start false (string_bytes l.fn.feeds) (cursor_of l.fn.self).mark (cursor_of l.fn.self).rest;
}

abbrev pub decreases-loop-c : goal.decreases-loop-c
decreases-loop-c g l = length (cursor_of l.self).rest
