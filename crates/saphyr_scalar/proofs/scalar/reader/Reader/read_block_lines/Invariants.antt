use Rattle.saphyr_scalar.proofs.Common.{◌≡◌, ◌≤◌, length, string_bytes, None, cursor_of}
use Rattle.saphyr_scalar.specs.Steps.Block.{with_lines, between_at}
use Rattle.saphyr_scalar.proofs.scalar.reader.Reader.read_block_lines.Given as goal

abbrev pub invariant-loop-style : goal.invariant-loop-style
invariant-loop-style g l = record {
  same : with_lines (string_bytes l.text) (between_at l.style l.indentation l.above l.lines.count (cursor_of l.self))
      ≡ with_lines (string_bytes l.fn.text) (between_at l.style l.indentation None l.leading (cursor_of l.fn.self));
  few : l.lines.count ≤ l.self.mark.index;
}

abbrev pub decreases-loop-style : goal.decreases-loop-style
decreases-loop-style g l = length (cursor_of l.self).rest
