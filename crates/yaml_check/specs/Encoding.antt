-- What is found in bytes that are not UTF-8.
use Rattle.std.specs.Prelude.{◌≡◌, ℕ, ◌==◌, ◌&&◌, ◌||◌, Bool, false, not, if◌then◌else◌, List, [], ◌∷◌, length, take, None}
use Rattle.std.specs.Str.{chars}
use Rattle.std.specs.Str.Lossy.{utf8_valid_len}
use Rattle.saphyr_parser.specs.Words.Marker.{Marker}
use Rattle.yaml_check.specs.declared.finding.Findings.{Findings}
use Rattle.yaml_check.specs.declared.finding.Problem.{Problem}
use Rattle.yaml_check.specs.declared.finding.Problem.TheVariants as problem
use Rattle.yaml_check.specs.declared.finding.Verdict.TheVariants as verdict
use Rattle.yaml_check.specs.Found.{at_place, no_notes}
use Rattle.yaml_check.specs.Places.{place_of_index}

-- a byte order mark of UTF-16 begins them
abbrev pub begins_utf16 : List ℕ → Bool
begins_utf16 (first ∷ second ∷ rest) = ((first == 0xfe) && (second == 0xff)) || ((first == 0xff) && (second == 0xfe))
begins_utf16 _ = false

-- one of UTF-32, which begins as that of UTF-16
abbrev pub begins_utf32 : List ℕ → Bool
begins_utf32 (first ∷ second ∷ third ∷ fourth ∷ rest) =
    (first == 0xff) && (second == 0xfe) && (third == 0) && (fourth == 0)
begins_utf32 _ = false

abbrev pub encoding_problem : List ℕ → Problem
encoding_problem bytes = if begins_utf16 bytes && not (begins_utf32 bytes) then problem.Utf16 else problem.NotUtf8

-- the place behind all characters of a text
abbrev pub place_behind : List ℕ → Marker
place_behind bytes = place_of_index (chars bytes) (length (chars bytes))

-- one error, at the first byte that begins no character
pub record IsFoundInOther (bytes : List ℕ) (found : Findings) : Type 0 where
  pub list : found.list.items
      ≡ (at_place (place_behind (take (utf8_valid_len bytes) bytes)) (encoding_problem bytes) ∷ [])
  pub notes : found.notes ≡ no_notes
  pub fault : found.fault ≡ None
  pub verdict : found.verdict ≡ verdict.Wrong
