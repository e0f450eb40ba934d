-- The table of bytes tells of each byte which sets it is of.
use Rattle.saphyr_scalar.proofs.Common.{◌≡◌, ℕ, ◌<◌, Bool, false, true, List, get_or, refl, sym, ap, ◌∙◌, arith, range_with_len, ascii_in}
use Rattle.std.specs.Prelude.{◌==◌, not, map, bit_and}
use Rattle.std.proofs.lemmas.List.FromFn.{get_or-map-range_with_len}
use Rattle.saphyr_scalar.specs.Steps.Quoted.{is_literal}
use Rattle.saphyr_scalar.specs.Steps.Sets.{in_single, in_double, in_plain}
use Rattle.saphyr_scalar.specs.declared.scalar.byte_sets.TheConstants.{SETS_OF_BYTES}

-- a byte's bit in the table
abbrev pub has_bit : ℕ → ℕ → Bool
has_bit bit b = not (bit_and (get_or SETS_OF_BYTES b 0) bit == 0)

abbrev AreAlikeOnBytes : (ℕ → Bool) → (ℕ → Bool) → Type 0
AreAlikeOnBytes f g = map f (range_with_len 0 256) ≡ map g (range_with_len 0 256)

alike_at : (f g : ℕ → Bool) (b : ℕ) → AreAlikeOnBytes f g → b < 256 → f b ≡ g b
alike_at f g b same less =
    sym (get_or-map-range_with_len f 0 256 b b false less (omega arith)) ∙ ap (λ (l : List Bool). get_or l b false) same
    ∙ get_or-map-range_with_len g 0 256 b b false less (omega arith)

single_bits : AreAlikeOnBytes (has_bit 1) (ascii_in in_single)
unfolding is_literal
single_bits = refl

double_bits : AreAlikeOnBytes (has_bit 2) (ascii_in in_double)
unfolding is_literal
double_bits = refl

outside_bits : AreAlikeOnBytes (has_bit 4) (ascii_in (in_plain false))
outside_bits = refl

in_flow_bits : AreAlikeOnBytes (has_bit 8) (ascii_in (in_plain true))
in_flow_bits = refl

pub single_bit : (b : ℕ) → b < 256 → has_bit 1 b ≡ ascii_in in_single b
single_bit b less = alike_at (has_bit 1) (ascii_in in_single) b single_bits less

pub double_bit : (b : ℕ) → b < 256 → has_bit 2 b ≡ ascii_in in_double b
double_bit b less = alike_at (has_bit 2) (ascii_in in_double) b double_bits less

pub outside_bit : (b : ℕ) → b < 256 → has_bit 4 b ≡ ascii_in (in_plain false) b
outside_bit b less = alike_at (has_bit 4) (ascii_in (in_plain false)) b outside_bits less

pub in_flow_bit : (b : ℕ) → b < 256 → has_bit 8 b ≡ ascii_in (in_plain true) b
in_flow_bit b less = alike_at (has_bit 8) (ascii_in (in_plain true)) b in_flow_bits less
