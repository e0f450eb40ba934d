-- How directives are spelled (YAML 1.2.2, 6.8), and what may come after one on its line.
use Rattle.std.specs.Prelude.{◌≡◌, ◌≢◌, ℕ, ◌+◌, ◌-◌, ◌*◌, ◌≤◌, ◌||◌, ◌==◌, ◌⊎◌, List, [], ◌∷◌, ◌++◌, length, slice_index, IsTrue, IsFalse, codes, encode_utf8_all}
use Rattle.saphyr_input.specs.Classes.{is_alpha, is_blank, is_digit, is_yaml_non_space, is_yaml_non_break}
use Rattle.saphyr_input.specs.Indicators.{exclamation_mark}
use Rattle.saphyr_scalar.specs.Spelling.Tag.{AreIn, IsHandleText, IsPrefix}

-- what a directive says: its texts as their bytes
pub data ReadDirective : Type 0 where
  version : ℕ → ℕ → ReadDirective
  tag_prefix : List ℕ → List ℕ → ReadDirective
  reserved : List ℕ → ReadDirective

-- spaces and tabs, at least one
abbrev pub AreSomeBlanks : List ℕ → Type 0
AreSomeBlanks t = (t ≢ []) × AreIn is_blank t

-- what decimal digits stand for, after those that stand for v
abbrev pub decimal_from : ℕ → List ℕ → ℕ
decimal_from v [] = v
decimal_from v (d ∷ ds) = decimal_from (v * 10 + (d - 48)) ds

-- a number of one to nine digits
abbrev pub IsVersionNumber : ℕ → List ℕ → Type 0
IsVersionNumber v t = (t ≢ []) × (length t ≤ 9) × AreIn is_digit t × (decimal_from 0 t ≡ v)

-- 6.8.1
abbrev pub IsVersionDirective : ℕ → ℕ → List ℕ → Type 0
IsVersionDirective major minor t =
    (gap high low : List ℕ) × AreSomeBlanks gap × IsVersionNumber major high × IsVersionNumber minor low
    × (t ≡ codes "%YAML" ++ (gap ++ (high ++ (codes "." ++ low))))

-- 6.8.2
abbrev pub IsTagDirective : List ℕ → List ℕ → List ℕ → Type 0
IsTagDirective handle prefix t =
    (first second written : List ℕ) × AreSomeBlanks first × AreSomeBlanks second × IsHandleText handle
    × IsPrefix prefix written
    × (t ≡ codes "%TAG" ++ (first ++ (handle ++ (second ++ written))))

-- 6.8.2.1: A handle goes on as far as it can. So it is not `!` alone before a text that begins with a word's character,
-- or with another `!`.
abbrev pub IsWholeHandle : List ℕ → List ℕ → Type 0
IsWholeHandle handle behind =
    handle ≡ codes "!" → IsFalse (is_alpha (slice_index behind 0) || (slice_index behind 0 == exclamation_mark))

-- A tag directive as it is read: no blank has to be between a handle and its prefix.
abbrev pub IsReadTagDirective : List ℕ → List ℕ → List ℕ → Type 0
IsReadTagDirective handle prefix t =
    (first second written : List ℕ) × AreSomeBlanks first × AreIn is_blank second × IsHandleText handle
    × IsWholeHandle handle (second ++ written) × IsPrefix prefix written
    × (t ≡ codes "%TAG" ++ (first ++ (handle ++ (second ++ written))))

-- what a directive says, and the directive as it is written: a version directive, or a tag directive
abbrev pub IsDirectiveText : ReadDirective → List ℕ → Type 0
IsDirectiveText (version major minor) t = IsVersionDirective major minor t
IsDirectiveText (tag_prefix handle prefix) t =
    (h p : List ℕ) × IsTagDirective h p t × (handle ≡ encode_utf8_all h) × (prefix ≡ encode_utf8_all p)
IsDirectiveText (reserved name) t = ⊥

-- 6.8: a directive of another name, with its parameters, up to the end of its line
abbrev pub IsReservedDirective : List ℕ → List ℕ → Type 0
IsReservedDirective name t =
    (more : List ℕ) × (name ≢ []) × (name ≢ codes "YAML") × (name ≢ codes "TAG") × AreIn is_yaml_non_space name
    × AreIn is_yaml_non_break more × ((more ≡ []) ⊎ IsTrue (is_blank (slice_index more 0)))
    × (t ≡ codes "%" ++ (name ++ more))

-- 6.6: a comment, which has a blank before it
abbrev pub IsTailComment : List ℕ → List ℕ → Type 0
IsTailComment blanks t = (words : List ℕ) × (blanks ≢ []) × AreIn is_yaml_non_break words × (t ≡ codes "#" ++ words)

-- the blanks and the comment after a directive
abbrev pub IsLineTail : List ℕ → Type 0
IsLineTail t = (blanks comment : List ℕ) × AreIn is_blank blanks × ((comment ≡ []) ⊎ IsTailComment blanks comment)
    × (t ≡ blanks ++ comment)

-- what a directive says, and the directive as it is read
abbrev pub IsReadDirective : ReadDirective → List ℕ → Type 0
IsReadDirective (version major minor) t = IsVersionDirective major minor t
IsReadDirective (tag_prefix handle prefix) t =
    (h p : List ℕ) × IsReadTagDirective h p t × (handle ≡ encode_utf8_all h) × (prefix ≡ encode_utf8_all p)
IsReadDirective (reserved name) t = (n : List ℕ) × IsReservedDirective n t × (name ≡ encode_utf8_all n)
