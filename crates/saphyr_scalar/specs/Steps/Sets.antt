-- Sets of characters whose runs scalars, names and tags take off in one piece.
use Rattle.std.specs.Prelude.{◌≡◌, ℕ, Bool, true, false, ◌&&◌, ◌||◌, ◌==◌, not, nat_lt, refl}
use Rattle.saphyr_input.specs.Classes.{is_blank_or_breakz, is_bom, is_flow, space}
use Rattle.saphyr_input.specs.Fronts.{ascii_in}
use Rattle.saphyr_input.specs.Indicators.{colon, hyphen, number_sign, percent_sign}
use Rattle.saphyr_scalar.specs.declared.scalar.tag.UriSet.{UriSet}
use Rattle.saphyr_scalar.specs.declared.scalar.tag.UriSet.TheVariants.{Uri, Suffix}
use Rattle.saphyr_scalar.specs.declared.values.Quote.TheVariants.{Single, Double}
use Rattle.saphyr_scalar.specs.Steps.Quoted.{is_literal}
use Rattle.saphyr_scalar.specs.Steps.Tag as tag

-- no blank, break or NUL
abbrev pub is_content : ℕ → Bool
is_content c = not (is_blank_or_breakz c)

-- with such a character a word of a plain scalar goes on wherever it is (YAML 1.2.2, 7.3.3): all but the colon
abbrev pub in_plain : Bool → ℕ → Bool
in_plain in_flow c = not (c == colon) && not (is_blank_or_breakz c) && not (is_bom c) && not (in_flow && is_flow c)

-- and with such a one after a space: neither a comment nor a lone `-` begins there
abbrev pub leads_plain : Bool → ℕ → Bool
leads_plain in_flow c = in_plain in_flow c && not (c == number_sign) && not (c == hyphen)

-- the first character joins words of a plain scalar, where the second follows: a single space before an ASCII character
-- that begins a word there, or a colon in a word
abbrev pub joins_plain : Bool → ℕ → ℕ → Bool
joins_plain in_flow c d =
    (ascii_in (leads_plain in_flow) d && (c == space))
    || (not (is_blank_or_breakz d || (in_flow && is_flow d)) && (c == colon))

-- and of a quoted scalar: a single space before what is on its line
abbrev pub joins_quoted : ℕ → ℕ → Bool
joins_quoted c d = is_content d && (c == space)

-- With such a one a word begins wherever it is, inside flow and outside: an ASCII character above `/`, where `#`, `-`
-- and `.` are not.
abbrev pub begins_any_plain : ℕ → Bool
begins_any_plain c = nat_lt 47 c && nat_lt c 128 && in_plain true c

-- a character of a URI, and of a tag's suffix, that begins no escape
abbrev pub is_bare : UriSet → ℕ → Bool
is_bare set c = not (c == percent_sign) && tag.is_in_set set c

abbrev pub is_bare_in_uri : ℕ → Bool
is_bare_in_uri = is_bare Uri

abbrev pub is_bare_in_suffix : ℕ → Bool
is_bare_in_suffix = is_bare Suffix

-- what stands for itself between single quotes, and between double ones
abbrev pub in_single : ℕ → Bool
in_single = is_literal Single

abbrev pub in_double : ℕ → Bool
in_double = is_literal Double

pub no_nul_in_single : in_single 0 ≡ false
unfolding is_literal
no_nul_in_single = refl

pub no_nul_in_double : in_double 0 ≡ false
unfolding is_literal
no_nul_in_double = refl
