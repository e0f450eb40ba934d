use Rattle.saphyr_scalar.proofs.Common.{sym, ◌∙◌, arith, cursor_of}
use Rattle.saphyr_scalar.proofs.Properties.PercentEscapes.{trailing_on, trailing_refused, gives_refused, bits_below, bits_fit}
use Rattle.saphyr_scalar.proofs.scalar.reader.Reader.read_trailing_bytes.Goals as goal

pub read_trailing_byte-requires : goal.read_trailing_byte-requires
read_trailing_byte-requires g c = bits_fit c.loop.counter c.loop.value c.loop.invariant.below (omega arith)

pub returns-in_err-value : goal.returns-in_err-value
returns-in_err-value g c =
    gives_refused _ _ _ c.in_err-value.field-0.0 c.from_residual.ensures.1
    (sym c.loop.invariant.same
    ∙ trailing_refused c.args.start c.args.count c.loop.counter c.loop.value (cursor_of c.loop.self)
    c.in_err-value.field-0.0 (omega arith) c.in_err-value.ensures.value)

pub loop-preserved : goal.loop-preserved
loop-preserved g c = record {
  same = trailing_on c.args.start c.args.count c.loop.counter c.loop.value c.in_ok-value.value (cursor_of c.loop.self)
      (cursor_of c.read_trailing_byte.new.self) (omega arith) c.in_ok-value.ensures.value
      ∙ c.loop.invariant.same;
  below = bits_below c.loop.counter c.loop.value c.in_ok-value.value c.loop.invariant.below c.in_ok-value.ensures.small;
}
