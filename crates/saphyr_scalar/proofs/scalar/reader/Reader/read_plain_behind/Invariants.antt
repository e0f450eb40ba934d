use Rattle.saphyr_scalar.proofs.Common.{◌≡◌, length, string_bytes, IsSplitPoint, cursor_of}
use Rattle.saphyr_scalar.specs.Steps.Plain as spec
use Rattle.saphyr_scalar.proofs.scalar.reader.Reader.read_plain_behind.Given as goal

abbrev pub invariant-loop-text : goal.invariant-loop-text
invariant-loop-text g l = record {
  same : spec.scalar_behind_gap l.fn.in_flow l.fn.indent l.fn.start l.word_end.len l.word_end.mark l.word_end.tabbed
      (string_bytes l.text) (cursor_of l.self)
      ≡ spec.scalar_behind_gap l.fn.in_flow l.fn.indent l.fn.start l.fn.word_end.len l.fn.word_end.mark
      l.fn.word_end.tabbed (string_bytes l.fn.text) (cursor_of l.fn.self);
  cut : IsSplitPoint (string_bytes l.text) l.word_end.len;
}

abbrev pub decreases-loop-text : goal.decreases-loop-text
decreases-loop-text g l = length (cursor_of l.self).rest
