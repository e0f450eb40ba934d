use Rattle.saphyr_scalar.proofs.Common.{sym, ap, ◌∙◌, is_hex, hex_value, cursor_of}
use Rattle.saphyr_scalar.proofs.Properties.ByteSteps.{byte_on, three_left, high_fits, byte_fits, byte_small}
use Rattle.saphyr_scalar.proofs.scalar.reader.Reader.read_escaped_byte.Goals as goal

pub skip_n_non_blank-requires-clause-some : goal.skip_n_non_blank-requires-clause-some
skip_n_non_blank-requires-clause-some g c =
    three_left (cursor_of c.load.new.self).rest
    (ap is_hex (sym c.peek_nth-low.ensures) ∙ sym c.is_hex-else-not-is_hex.ensures.test ∙ c.if-not-is_hex-2.false)

pub overflow_mul-result : goal.overflow_mul-result
overflow_mul-result g c = record { fits = high_fits c.as_hex.result c.as_hex.ensures.digit }

pub overflow_add-result : goal.overflow_add-result
overflow_add-result g c = record {
  fits = byte_fits c.as_hex.result c.as_hex-2.result c.as_hex.ensures.digit c.as_hex-2.ensures.digit;
}

pub returns : goal.returns
returns g c =
    let high = ap is_hex (sym c.peek_nth-high.ensures) ∙ sym c.is_hex.ensures.test ∙ c.if-not-is_hex.false in
    let low = ap is_hex (sym c.peek_nth-low.ensures) ∙ sym c.is_hex-else-not-is_hex.ensures.test
    ∙ c.if-not-is_hex-2.false in
    record {
      value = byte_on c.args.start (cursor_of c.args.self.now) (cursor_of c.load.new.self)
          (cursor_of c.skip_n_non_blank.new.self) c.as_hex.result c.as_hex-2.result (record {
            first = sym c.peek.ensures ∙ c.if-peek-ne37.false;
            high = high;
            low = low;
            high_is = c.as_hex.ensures.value ∙ ap hex_value c.peek_nth-high.ensures;
            low_is = c.as_hex-2.ensures.value ∙ ap hex_value c.peek_nth-low.ensures;
          }) c.load.ensures.same c.skip_n_non_blank.ensures;
      small = byte_small c.as_hex.result c.as_hex-2.result c.as_hex.ensures.digit c.as_hex-2.ensures.digit;
    }
