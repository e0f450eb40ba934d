use Rattle.saphyr_scalar.proofs.Common.{◌≡◌, ◌+◌, ◌≤◌, Bool, length, cursor_of, Marker, Quote}
use Rattle.saphyr_scalar.specs.Steps.Quoted.{inner_text_at, over_lines}
use Rattle.saphyr_scalar.proofs.scalar.reader.Reader.skip_quoted_lines.Given as goal

abbrev pub invariant-loop-self : goal.invariant-loop-self
invariant-loop-self g l = record {
  same : (q : Quote) (start : Marker) (escaped : Bool)
      → inner_text_at q l.fn.indent start (over_lines escaped l.count) (cursor_of l.self)
      ≡ inner_text_at q l.fn.indent start (over_lines escaped 0) (cursor_of l.fn.self);
  counted : l.count + length (cursor_of l.self).rest ≤ length (cursor_of l.fn.self).rest;
}

abbrev pub decreases-loop-self : goal.decreases-loop-self
decreases-loop-self g l = length (cursor_of l.self).rest
