-- What the calls of an input answer and take, over the list of its remaining characters.
-- Past the end of the list every place reads as NUL, as `slice_index` does.
use Rattle.std.specs.Prelude.{◌≡◌, ℕ, ◌+◌, ◌≤◌, min, Bool, ◌||◌, ◌&&◌, ◌==◌, not, List, [], ◌∷◌, ◌++◌, take, drop, slice_index, if◌then◌else◌, encode_utf8_all}
use Rattle.std.specs.List.{prefix_len}
use Rattle.saphyr_input.specs.Classes.{is_blank, is_break, is_blank_or_breakz, is_flow, byte_order_mark, space}
use Rattle.saphyr_input.specs.Indicators.{colon, full_stop, hyphen}

abbrev pub next_2_are : List ℕ → ℕ → ℕ → Bool
next_2_are xs a b = (slice_index xs 0 == a) && (slice_index xs 1 == b)

abbrev pub next_3_are : List ℕ → ℕ → ℕ → ℕ → Bool
next_3_are xs a b c = (slice_index xs 0 == a) && (slice_index xs 1 == b) && (slice_index xs 2 == c)

-- `---` before a blank, a break, NUL or the end (YAML 1.2.2, 9.1.4)
abbrev pub is_document_start : List ℕ → Bool
is_document_start xs = next_3_are xs hyphen hyphen hyphen && is_blank_or_breakz (slice_index xs 3)

-- `...` before a blank, a break, NUL or the end (YAML 1.2.2, 9.1.2)
abbrev pub is_document_end : List ℕ → Bool
is_document_end xs = next_3_are xs full_stop full_stop full_stop && is_blank_or_breakz (slice_index xs 3)

abbrev pub is_document_indicator : List ℕ → Bool
is_document_indicator xs = is_document_start xs || is_document_end xs

-- whether a plain scalar, inside flow or outside, goes on with the first character, which is no blank, break or NUL
-- (YAML 1.2.2, 7.3.3)
abbrev pub can_be_plain : Bool → List ℕ → Bool
can_be_plain in_flow xs =
    if slice_index xs 0 == colon then
    not (is_blank_or_breakz (slice_index xs 1) || (in_flow && is_flow (slice_index xs 1)))
    else not ((slice_index xs 0 == byte_order_mark) || (in_flow && is_flow (slice_index xs 0)))

abbrev pub is_blank_or_break : ℕ → Bool
is_blank_or_break c = is_blank c || is_break c

-- n characters were taken off, and their UTF-8 was appended to a text
pub record Transfers (n : ℕ) (before after text grown : List ℕ) : Type 0 where
  pub taken : after ≡ drop n before
  pub appended : grown ≡ text ++ encode_utf8_all (take n before)

-- the longest run of p was taken off and appended, and n is its length
pub record TransfersRun (p : ℕ → Bool) (n : ℕ) (before after text grown : List ℕ) : Type 0 where
  pub count : n ≡ prefix_len p before
  pub transfers : Transfers n before after text grown

-- a beginning of at most so many characters was taken off and appended
pub record TransfersPart (most : ℕ) (before after text grown : List ℕ) : Type 0 where
  pub count : ℕ
  pub within : count ≤ most
  pub transfers : Transfers count before after text grown

-- words go on with the first character: it is of a set, or joins a run of it to what follows
abbrev pub goes_on : (ℕ → Bool) → (ℕ → ℕ → Bool) → List ℕ → Bool
goes_on p q xs = p (slice_index xs 0) || q (slice_index xs 0) (slice_index xs 1)

-- how many characters come first with which words go on
unfoldable pub words_len : (ℕ → Bool) → (ℕ → ℕ → Bool) → List ℕ → ℕ
words_len p q [] = 0
words_len p q (c ∷ cs) = if goes_on p q (c ∷ cs) then 1 + words_len p q cs else 0

-- the longest beginning of words was taken off and appended, and n is its length
pub record TransfersWords (p : ℕ → Bool) (q : ℕ → ℕ → Bool) (n : ℕ) (before after text grown : List ℕ) : Type 0 where
  pub count : n ≡ words_len p q before
  pub transfers : Transfers n before after text grown

-- how many spaces come first, but no more than `most`
abbrev pub spaces_within : ℕ → List ℕ → ℕ
spaces_within most xs = min most (prefix_len (λ c. c == space) xs)
