use Rattle.saphyr_scalar.proofs.Common.{◌≡◌, ℕ, ◌≤◌, length, slice_index, string_bytes, cursor_of, loaded}
use Rattle.saphyr_scalar.specs.Steps.Quoted.{with_front, inner_text_at, no_gap}
use Rattle.saphyr_scalar.proofs.scalar.reader.Reader.read_quoted_word.Given as goal

abbrev pub invariant-loop-next : goal.invariant-loop-next
invariant-loop-next g l = record {
  same : (indent : ℕ) → with_front (string_bytes l.text)
      (inner_text_at l.fn.quote indent l.fn.start no_gap (cursor_of l.self))
      ≡ with_front (string_bytes l.fn.text) (inner_text_at l.fn.quote indent l.fn.start no_gap (cursor_of l.fn.self));
  shorter : length (cursor_of l.self).rest ≤ length (cursor_of l.fn.self).rest;
  first : l.first ≡ slice_index (cursor_of l.self).rest 0;
  loaded : 1 ≤ loaded l.self;
}

abbrev pub decreases-loop-next : goal.decreases-loop-next
decreases-loop-next g l = length (cursor_of l.self).rest
