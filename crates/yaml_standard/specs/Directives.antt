-- Directives (YAML 1.2.2, 6.8), whatever they say.
use Rattle.std.specs.Prelude.{◌≡◌, ◌≢◌, ℕ, ◌≤◌, ◌⊎◌, List, [], ◌∷◌, ◌++◌, length, slice_index, IsTrue, codes, encode_utf8_all}
use Rattle.saphyr_input.specs.Classes.{is_blank, is_digit, is_yaml_non_break, is_yaml_non_space}
use Rattle.saphyr_scalar.specs.Spelling.Directive.{IsVersionNumber, IsVersionDirective, IsTagDirective, IsReservedDirective}
use Rattle.saphyr_scalar.specs.Spelling.Tag.{AreIn, IsPrefix}
use Rattle.scalar_laws.specs.Spelling.Spaces.{IsFiller}
use Rattle.saphyr_scanner.specs.Grammar.Forest.{Directive, Version, TagPrefix, Reserved, handle_bytes, AreCompatible}
use Rattle.yaml_laws.specs.Grammar.Yaml.{IsDirective, AreDirectives}
use Rattle.yaml_standard.specs.declared.directive.DirectiveKind.{DirectiveKind}
use Rattle.yaml_standard.specs.declared.directive.DirectiveKind.TheVariants as kinds

abbrev pub IsSomePrefix : List ℕ → Type 0
IsSomePrefix t = (prefix : List ℕ) × IsPrefix prefix t

-- ## Versions

abbrev pub BeginsWithDigit : List ℕ → List ℕ → Type 0
BeginsWithDigit before after = (d : ℕ) × IsTrue (is_digit d) × (before ≡ d ∷ after)

-- digits, one at least and so many at most
abbrev pub AreDigitsUpTo : ℕ → List ℕ → Type 0
AreDigitsUpTo most t = (t ≢ []) × (length t ≤ most) × AreIn is_digit t

abbrev pub IsSomeNumber : List ℕ → Type 0
IsSomeNumber t = (v : ℕ) × IsVersionNumber v t

abbrev pub IsSomeVersion : List ℕ → Type 0
IsSomeVersion t = (major minor : ℕ) × IsVersionDirective major minor t

-- ## Tag directives with their handle

-- a tag directive, the bytes of whose handle these are
abbrev pub IsTagPrefixOf : List ℕ → List ℕ → Type 0
IsTagPrefixOf bytes t =
    (handle prefix : List ℕ) × (bytes ≡ encode_utf8_all handle) × IsTagDirective handle prefix t

-- ## Reserved directives

abbrev pub IsReservedName : List ℕ → Type 0
IsReservedName name =
    (name ≢ []) × (name ≢ codes "YAML") × (name ≢ codes "TAG") × AreIn is_yaml_non_space name

abbrev pub AreParameters : List ℕ → Type 0
AreParameters t = AreIn is_yaml_non_break t × ((t ≡ []) ⊎ IsTrue (is_blank (slice_index t 0)))

abbrev pub IsSomeReserved : List ℕ → Type 0
IsSomeReserved t = (name : List ℕ) × IsReservedDirective name t

-- ## Any directive

-- a directive of this kind
abbrev pub IsOfKind : DirectiveKind → Directive → Type 0
IsOfKind kinds.Version (Version major minor) = Unit {0}
IsOfKind (kinds.TagPrefix bytes) (TagPrefix handle prefix) = handle_bytes handle ≡ bytes.now
IsOfKind kinds.Reserved (Reserved name) = Unit {0}
IsOfKind _ _ = ⊥

abbrev pub IsDirectiveOf : DirectiveKind → List ℕ → Type 0
IsDirectiveOf kind t = (d : Directive) × IsOfKind kind d × IsDirective d t

-- the same with its break, and filler
abbrev pub IsLineOf : DirectiveKind → List ℕ → Type 0
IsLineOf kind t =
    (directive filler : List ℕ) × IsDirectiveOf kind directive × IsFiller filler
    × (t ≡ directive ++ (codes "\n" ++ filler))

abbrev pub AreSomeDirectives : List ℕ → Type 0
AreSomeDirectives t = (ds : List Directive) × AreCompatible ds × AreDirectives ds t
