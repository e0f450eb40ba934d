use Rattle.saphyr_scalar.proofs.Common.{◌≡◌, true, false, slice_index, sym, ap, ◌∙◌, Cursor, cursor_of}
use Rattle.saphyr_input.specs.Classes as class
use Rattle.saphyr_scalar.proofs.Directives.Numbers.{digit_on, digits_fit, digits_below, shifted_fits, below_nine, nine_at_most, counts_on, digit_left, digit_shorter, number_ends, number_read, number_long}
use Rattle.saphyr_scalar.proofs.scalar.reader.Reader.read_version_number.Goals as goal

pub overflow_add-count : goal.overflow_add-count
overflow_add-count g c = record { fits = counts_on c.loop-c.count c.loop-c.invariant.few }

pub overflow_mul-value : goal.overflow_mul-value
overflow_mul-value g c =
    let digit : class.is_digit c.loop-c.c ≡ true = sym c.is_digit.ensures.test ∙ c.loop-c-test.true in
    let few = below_nine c.loop-c.count c.loop-c.invariant.few c.if-count-eq9.false in
    record { fits = shifted_fits c.loop-c.count c.loop-c.value c.loop-c.c c.loop-c.invariant.below digit few }

pub overflow_add-value : goal.overflow_add-value
overflow_add-value g c =
    let digit : class.is_digit c.loop-c.c ≡ true = sym c.is_digit.ensures.test ∙ c.loop-c-test.true in
    let few = below_nine c.loop-c.count c.loop-c.invariant.few c.if-count-eq9.false in
    record { fits = digits_fit c.loop-c.count c.loop-c.value c.loop-c.c c.loop-c.invariant.below digit few }

pub skip_non_blank-requires : goal.skip_non_blank-requires
skip_non_blank-requires g c =
    let digit : class.is_digit c.loop-c.c ≡ true = sym c.is_digit.ensures.test ∙ c.loop-c-test.true in
    digit_left c.loop-c.c (cursor_of c.loop-c.self).rest c.loop-c.invariant.read digit

pub loop-c-smaller : goal.loop-c-smaller
loop-c-smaller g c =
    let digit : class.is_digit c.loop-c.c ≡ true = sym c.is_digit.ensures.test ∙ c.loop-c-test.true in
    digit_shorter c.loop-c.c (cursor_of c.loop-c.self) (cursor_of c.skip_non_blank.new.self)
    (cursor_of c.look-c-in-loop-c.new.self) c.loop-c.invariant.read digit c.skip_non_blank.ensures
    c.look-c-in-loop-c.ensures.same

pub loop-c-preserved : goal.loop-c-preserved
loop-c-preserved g c =
    let digit : class.is_digit c.loop-c.c ≡ true = sym c.is_digit.ensures.test ∙ c.loop-c-test.true in
    let same = c.look-c-in-loop-c.ensures.same in
    let few = below_nine c.loop-c.count c.loop-c.invariant.few c.if-count-eq9.false in
    record {
      same = digit_on c.args.start c.loop-c.count c.loop-c.value c.loop-c.c (cursor_of c.loop-c.self)
          (cursor_of c.skip_non_blank.new.self) (cursor_of c.look-c-in-loop-c.new.self)
          c.loop-c.invariant.read digit few c.skip_non_blank.ensures same
          ∙ c.loop-c.invariant.same;
      few = nine_at_most c.loop-c.count few;
      below = digits_below c.loop-c.count c.loop-c.value c.loop-c.c c.loop-c.invariant.below digit;
      read = c.look-c-in-loop-c.ensures.value ∙ sym (ap (λ (s : Cursor). slice_index s.rest 0) same);
    }

pub returns : goal.returns
returns g c =
    let ends : class.is_digit c.loop-c.c ≡ false = sym c.is_digit.ensures.test ∙ c.loop-c-test.false in
    sym c.loop-c.invariant.same
    ∙ number_ends c.args.start c.loop-c.count c.loop-c.value c.loop-c.c (cursor_of c.loop-c.self)
    c.loop-c.invariant.read ends
    ∙ number_read c.args.start c.loop-c.count c.loop-c.value _ c.if-count-eq0.false

pub returns-then-count-eq9 : goal.returns-then-count-eq9
returns-then-count-eq9 g c =
    let digit : class.is_digit c.loop-c.c ≡ true = sym c.is_digit.ensures.test ∙ c.loop-c-test.true in
    sym c.loop-c.invariant.same
    ∙ number_long c.args.start c.loop-c.count c.loop-c.value c.loop-c.c (cursor_of c.loop-c.self)
    c.loop-c.invariant.read digit c.if-count-eq9.true
