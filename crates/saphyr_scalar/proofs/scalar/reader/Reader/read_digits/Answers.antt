use Rattle.saphyr_scalar.proofs.Common.{◌≡◌, ◌+◌, true, drop, refl, sym, ap, ◌∙◌, arith, Cursor, along, cursor_of}
use Rattle.saphyr_input.specs.Classes as class
use Rattle.saphyr_scalar.specs.Steps.Quoted.{mid_line}
use Rattle.saphyr_scalar.proofs.Quoted.Escapes.{digits_begin, digits_done, digit_passed, digit_counted, digits_on, digits_stop, digits_below, digits_fit, shift_fits, below_eight, digit_is_left}
use Rattle.saphyr_scalar.proofs.scalar.reader.Reader.read_digits.Goals as goal

pub loop-init : goal.loop-init
loop-init g c = record {
  same = digits_begin c.args.start c.args.count (cursor_of c.args.self.now) c.requires.on_line;
  below = omega arith;
  mark = refl;
  line = refl;
  counted = omega arith;
}

pub overflow_mul-value : goal.overflow_mul-value
overflow_mul-value g c = record {
  fits = shift_fits c.loop.counter c.loop.value c.loop.invariant.below
      (below_eight c.loop.counter c.args.count c.loop-test.true c.requires.few);
}

pub overflow_add-value : goal.overflow_add-value
overflow_add-value g c = record {
  fits = digits_fit c.loop.counter c.loop.value c.as_hex.result c.loop.invariant.below c.as_hex.ensures.digit
      (below_eight c.loop.counter c.args.count c.loop-test.true c.requires.few);
}

pub returns-then-not-is_hex : goal.returns-then-not-is_hex
returns-then-not-is_hex g c = sym c.loop.invariant.same
    ∙ digits_stop c.args.start c.args.count c.loop.counter c.loop.value c.look-c.result
    (mid_line (along c.args.self.now.mark c.loop.counter) (cursor_of c.loop.self).rest) c.look-c.ensures.value
    (ap class.is_hex (sym c.look-c.ensures.value) ∙ sym c.is_hex.ensures.test ∙ c.if-not-is_hex.true)
    c.loop-test.true

pub loop-preserved : goal.loop-preserved
loop-preserved g c =
    let hex : class.is_hex c.look-c.result ≡ true = sym c.is_hex.ensures.test ∙ c.if-not-is_hex.false in
    let m = c.args.self.now.mark in
    let i = c.loop.counter in
    let here = mid_line (along m i) (cursor_of c.loop.self).rest in
    let taken = c.skip.ensures.rest ∙ ap (λ (s : Cursor). drop 1 s.rest) c.look-c.ensures.same in
    record {
      same = digits_on c.args.start c.args.count i c.loop.value c.look-c.result c.as_hex.result here here
          (mid_line (along m (i + 1)) (g.T.Input.rest c.skip.new.self)) c.loop-test.true c.look-c.ensures.value hex
          c.as_hex.ensures.value refl (digit_passed m i (cursor_of c.loop.self).rest _ taken)
          ∙ c.loop.invariant.same;
      below = digits_below _ _ _ c.loop.invariant.below c.as_hex.ensures.digit;
      mark = ap (λ (s : Cursor). s.mark) c.look-c.ensures.same ∙ c.loop.invariant.mark;
      line = ap (λ (s : Cursor). s.blank_so_far) c.look-c.ensures.same ∙ c.loop.invariant.line;
      counted = digit_counted i _ (cursor_of c.loop.self).rest _
          (digit_is_left c.look-c.result (cursor_of c.loop.self) (cursor_of c.loop.self) c.look-c.ensures.value
          refl hex)
          taken c.loop.invariant.counted;
    }

pub returns : goal.returns
returns g c =
    let all : c.loop.counter ≡ c.args.count = omega arith in
    sym c.loop.invariant.same
    ∙ digits_done c.args.start c.args.self.now.mark _ c.args.count c.loop.counter c.loop.value
    (cursor_of c.loop.self).rest _ all
    (c.along-self.ensures ∙ ap (λ m. along m c.args.count) c.loop.invariant.mark)
    (c.loop.invariant.line ∙ c.requires.on_line)
