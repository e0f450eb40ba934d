use Rattle.saphyr_scalar.proofs.Common.{slice_index, sym, ap, ◌∙◌, Cursor, cursor_of}
use Rattle.saphyr_scalar.proofs.Directives.Numbers.{digit_left}
use Rattle.saphyr_scalar.proofs.scalar.reader.Reader.read_indentation_indicator.Goals as goal

pub skip_non_blank-requires : goal.skip_non_blank-requires
skip_non_blank-requires g c =
    digit_left c.look-c.result (cursor_of c.look-c.new.self).rest
    (c.look-c.ensures.value ∙ ap (λ (s : Cursor). slice_index s.rest 0) (sym c.look-c.ensures.same))
    (sym c.is_digit.ensures.test ∙ c.if-not-is_digit.false)
