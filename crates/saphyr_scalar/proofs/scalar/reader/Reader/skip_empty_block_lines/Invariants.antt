use Rattle.saphyr_scalar.proofs.Common.{◌≡◌, ◌≤◌, false, length, slice_index, cursor_of}
use Rattle.saphyr_scalar.specs.Steps.Block as spec
use Rattle.saphyr_scalar.proofs.scalar.reader.Reader.skip_empty_block_lines.Given as goal

abbrev pub invariant-loop-limit : goal.invariant-loop-limit
invariant-loop-limit g l = record {
  same : spec.pass_empty_lines_at l.limit l.lines (cursor_of l.self)
      ≡ spec.pass_empty_lines_at l.limit l.fn.before (cursor_of l.fn.self);
  few : l.lines.count ≤ l.self.mark.index;
  none : spec.is_indentation l.limit l.self.mark.col (slice_index (cursor_of l.self).rest 0) ≡ false;
}

abbrev pub decreases-loop-limit : goal.decreases-loop-limit
decreases-loop-limit g l = length (cursor_of l.self).rest
