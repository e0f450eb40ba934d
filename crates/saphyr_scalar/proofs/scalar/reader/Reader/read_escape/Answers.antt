use Rattle.saphyr_scalar.proofs.Common.{sym, ap, ◌∙◌, arith, cursor_of}
use Rattle.saphyr_scalar.specs.Values.Escapes.{digit_count}
use Rattle.saphyr_scalar.proofs.Quoted.Escapes.{digits_left, two_left}
use Rattle.saphyr_scalar.proofs.scalar.reader.Reader.read_escape.Goals as goal

pub skip_two_ascii-requires-clause-some : goal.skip_two_ascii-requires-clause-some
skip_two_ascii-requires-clause-some g c =
    two_left (cursor_of c.args.self.now).rest
    (λ nul. absurd (omega (arith, c.requires.first, nul)))
    (λ nul. absurd (omega (arith, c.requires.second, c.in-Some.ensures.ascii, nul)))

pub skip_n_non_blank-requires-clause-some : goal.skip_n_non_blank-requires-clause-some
skip_n_non_blank-requires-clause-some g c =
    digits_left (cursor_of c.args.self.now).rest c.in-Some-digit_count.count
    c.requires.first
    (ap digit_count (sym c.requires.second) ∙ sym c.digit_count.ensures.count ∙ c.in-Some-digit_count.is)
