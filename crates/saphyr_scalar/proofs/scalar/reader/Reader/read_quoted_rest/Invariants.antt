use Rattle.saphyr_scalar.proofs.Common.{◌≡◌, ◌≤◌, length, slice_index, string_bytes, cursor_of, loaded}
use Rattle.saphyr_scalar.specs.Steps.Quoted.{with_front, inner_text_at, no_gap}
use Rattle.saphyr_scalar.proofs.scalar.reader.Reader.read_quoted_rest.Given as goal

abbrev pub invariant-loop-c : goal.invariant-loop-c
invariant-loop-c g l = record {
  same : with_front (string_bytes l.text)
      (inner_text_at g.Q.Quotes.quote l.fn.indent l.fn.start no_gap (cursor_of l.self))
      ≡ with_front (string_bytes l.fn.text)
      (inner_text_at g.Q.Quotes.quote l.fn.indent l.fn.start no_gap (cursor_of l.fn.self));
  next : l.next ≡ slice_index (cursor_of l.self).rest 0;
  loaded : 1 ≤ loaded l.self;
}

abbrev pub decreases-loop-c : goal.decreases-loop-c
decreases-loop-c g l = length (cursor_of l.self).rest
