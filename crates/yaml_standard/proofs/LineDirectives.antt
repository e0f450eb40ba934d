-- The parts of directives, and directives with their lines.
use Rattle.std.proofs.Common.{◌≡◌, ◌≢◌, ℕ, ◌+◌, ◌<◌, ◌≤◌, Bool, true≢false, List, [], ◌∷◌, ◌++◌, refl, sym, ap, ◌∙◌, arith, length, length-append, inl, inr, encode_utf8_all}
use denote.Ref.{Bor}
use Rattle.std.specs.Prelude.{IsTrue, IsFalse, slice_index, codes}
use Rattle.std.specs.Str.{bytes_eq}
use Rattle.std.proofs.lemmas.Slice.Eq.{bytes_eq-Decides}
use Rattle.saphyr_input.specs.Classes.{is_blank, is_digit, is_yaml_non_break, is_yaml_non_space}
use Rattle.saphyr_input.proofs.Basics.Lists.{cons_not_empty}
use Rattle.saphyr_scalar.specs.Spelling.Directive.{AreSomeBlanks, IsLineTail, decimal_from}
use Rattle.saphyr_scalar.specs.Spelling.Tag.{AreIn}
use Rattle.scalar_laws.specs.Spelling.Spaces.{IsLineRest, IsFiller}
use Rattle.scalar_laws.proofs.Beginnings.{both_in}
use Rattle.saphyr_scanner.specs.Grammar.Forest.{Handle, Primary, Secondary, Named, Version, TagPrefix, Reserved, handle_text}
use Rattle.yaml_laws.specs.Grammar.TagSpelling.{IsHandle}
use Rattle.yaml_standard.specs.declared.directive.DirectiveKind.{DirectiveKind}
use Rattle.yaml_standard.specs.declared.directive.DirectiveKind.TheVariants as kinds
use Rattle.yaml_standard.specs.Directives.{BeginsWithDigit, AreDigitsUpTo, IsSomeNumber, IsSomeVersion, IsTagPrefixOf, IsReservedName, AreParameters, IsSomeReserved, IsDirectiveOf, IsLineOf}
use Rattle.yaml_standard.specs.Takes.{TakesOff}
use Rattle.yaml_standard.proofs.NodeProperties.{handle_of}
use Rattle.yaml_standard.proofs.Pieces.{taken_so, then, known_then, then_known}
use Rattle.yaml_standard.proofs.PlainWords.{more_end}
use Rattle.yaml_standard.proofs.Separation.{shorter_by}

-- ## Versions

pub one_digit : (a b : List ℕ) → BeginsWithDigit a b → TakesOff (AreDigitsUpTo 1) a b
one_digit a b (d, is, cut) =
    record { piece = d ∷ []; is = (cons_not_empty d [], omega arith, (is, tt)); cut = cut }

pub one_more_digit : (k : ℕ) (a b c : List ℕ) → TakesOff (AreDigitsUpTo k) a b → BeginsWithDigit b c
    → TakesOff (AreDigitsUpTo (k + 1)) a c
one_more_digit k a b c t (d, is, cut) =
    then_known {P = AreDigitsUpTo k} (d ∷ [])
    (λ p h.
    let l = length-append p (d ∷ []) in let m = h.1 in
    (more_end p d, omega (arith, l, m), both_in is_digit p (d ∷ []) h.2 (is, tt))) t cut

pub number_taken : (k : ℕ) (a b : List ℕ) → k ≤ 9 → TakesOff (AreDigitsUpTo k) a b → TakesOff IsSomeNumber a b
number_taken k a b few t =
    taken_so {P = AreDigitsUpTo k}
    (λ p h. let m = h.1 in (decimal_from 0 p, (h.0, omega (arith, m, few), h.2, refl))) t

pub version_name : (a b c d e f : List ℕ) → a ≡ 37 ∷ b → b ≡ 89 ∷ c → c ≡ 65 ∷ d → d ≡ 77 ∷ e → e ≡ 76 ∷ f
    → a ≡ codes "%YAML" ++ f
version_name a b c d e f g h i j k =
    g ∙ ap (λ x. 37 ∷ x) (h ∙ ap (λ x. 89 ∷ x) (i ∙ ap (λ x. 65 ∷ x) (j ∙ ap (λ x. 77 ∷ x) k)))

abbrev IsDotAndNumber : List ℕ → Type 0
IsDotAndNumber t = (low : List ℕ) × IsSomeNumber low × (t ≡ 46 ∷ low)

abbrev AreNumbers : List ℕ → Type 0
AreNumbers t = (high others : List ℕ) × IsSomeNumber high × IsDotAndNumber others × (t ≡ high ++ others)

abbrev AreBlanksAndNumbers : List ℕ → Type 0
AreBlanksAndNumbers t = (gap others : List ℕ) × AreSomeBlanks gap × AreNumbers others × (t ≡ gap ++ others)

pub version : (a b c d e f : List ℕ) → a ≡ codes "%YAML" ++ b → TakesOff AreSomeBlanks b c → TakesOff IsSomeNumber c d
    → d ≡ 46 ∷ e → TakesOff IsSomeNumber e f → TakesOff IsSomeVersion a f
version a b c d e f name s t dot u =
    known_then {Q = AreBlanksAndNumbers} (codes "%YAML")
    (λ q k. let numbers = k.3 in let low = numbers.3 in (
      numbers.2.0,
      low.1.0,
      (
        k.0,
        numbers.0,
        low.0,
        k.2,
        numbers.2.1,
        low.1.1,
        ap (λ x. codes "%YAML" ++ x) (k.4 ∙ ap (λ x. k.0 ++ x) (numbers.4 ∙ ap (λ x. numbers.0 ++ x) low.2)),
      ),
    )) name
    (then {P = AreSomeBlanks} {Q = AreNumbers} (λ p q h k. (p, q, h, k, refl)) s
    (then {P = IsSomeNumber} {Q = IsDotAndNumber} (λ p q h k. (p, q, h, k, refl)) t
    (known_then {Q = IsSomeNumber} (46 ∷ []) (λ q k. (q, k, refl)) dot u)))

-- ## Reserved directives

pub other_name : (xs ys : List ℕ) (same : Bool) → same ≡ bytes_eq xs ys → IsFalse same → xs ≢ ys
other_name xs ys same is differs e = true≢false (sym ((bytes_eq-Decides xs ys).1 e) ∙ sym is ∙ differs)

pub reserved_name : (bytes a b : List ℕ) (t : TakesOff (λ x. (x ≢ []) × AreIn is_yaml_non_space x) a b)
    → bytes ≡ encode_utf8_all t.piece → bytes ≢ encode_utf8_all (codes "YAML")
    → bytes ≢ encode_utf8_all (codes "TAG") → TakesOff IsReservedName a b
reserved_name bytes a b t same no_version no_tag = record {
  piece = t.piece;
  is = (
    t.is.0,
    λ e. no_version (same ∙ ap encode_utf8_all e),
    λ e. no_tag (same ∙ ap encode_utf8_all e),
    t.is.1,
  );
  cut = t.cut;
}

blanks_non_break : (t : List ℕ) → AreIn is_blank t → AreIn is_yaml_non_break t
blanks_non_break [] h = tt
blanks_non_break (c ∷ cs) h = (blank_non_break c h.0, blanks_non_break cs h.1)
  where
    blank_non_break : (c : ℕ) → IsTrue (is_blank c) → IsTrue (is_yaml_non_break c)
    blank_non_break c h = grind arith

first_blank : (p q : List ℕ) → AreSomeBlanks p → IsTrue (is_blank (slice_index (p ++ q) 0))
first_blank [] q h = absurd (h.0 refl)
first_blank (c ∷ cs) q h = h.1.0

pub parameters : (a b c : List ℕ) → TakesOff AreSomeBlanks a b → TakesOff (AreIn is_yaml_non_break) b c
    → TakesOff AreParameters a c
parameters a b c s t =
    then {P = AreSomeBlanks} {Q = AreIn is_yaml_non_break}
    (λ p q h k. (both_in is_yaml_non_break p q (blanks_non_break p h.1) k, inr (first_blank p q h))) s t

pub no_parameters : (a : List ℕ) → TakesOff AreParameters a a
no_parameters a = record { piece = []; is = (tt, inl refl); cut = refl }

abbrev IsNameAndMore : List ℕ → Type 0
IsNameAndMore t = (name more : List ℕ) × IsReservedName name × AreParameters more × (t ≡ name ++ more)

pub reserved : (a b c d : List ℕ) → a ≡ 37 ∷ b → TakesOff IsReservedName b c → TakesOff AreParameters c d
    → TakesOff IsSomeReserved a d
reserved a b c d e s t =
    known_then {Q = IsNameAndMore} (37 ∷ [])
    (λ q k. let name = k.2 in (
      k.0,
      (k.1, name.0, name.1, name.2, name.3, k.3.0, k.3.1, ap (λ x. 37 ∷ x) k.4),
    )) e
    (then {P = IsReservedName} {Q = AreParameters} (λ p q h k. (p, q, h, k, refl)) s t)

-- ## Lines

line_tail : (t : List ℕ) → IsLineRest t → IsLineTail t
line_tail t (blanks, comment, h, inl none, e) = (blanks, comment, h, inl none, e)
line_tail t (blanks, comment, h, inr (some, (words, w, is)), e) = (blanks, comment, h, inr (words, some, w, is), e)

handle_is : (handle : Handle) (t : List ℕ) → IsHandle handle t → t ≡ handle_text handle
handle_is Primary t h = h
handle_is Secondary t h = h
handle_is (Named word) t h = h.2

pub version_line : (a b c : List ℕ) → TakesOff IsSomeVersion a b → TakesOff IsLineRest b c
    → TakesOff (IsDirectiveOf kinds.Version) a c
version_line a b c s t =
    then {P = IsSomeVersion} {Q = IsLineRest}
    (λ p q h k. (Version h.0 h.1, tt, (p, q, h.2, line_tail q k, refl))) s t

pub tag_prefix_line : (bytes : Bor (List ℕ)) (a b c : List ℕ) → TakesOff (IsTagPrefixOf bytes.now) a b
    → TakesOff IsLineRest b c → TakesOff (IsDirectiveOf (kinds.TagPrefix bytes)) a c
tag_prefix_line bytes a b c s t =
    then {P = IsTagPrefixOf bytes.now} {Q = IsLineRest}
    (λ p q h k.
    let x = handle_of h.0 h.3.5 in
    let same = ap encode_utf8_all (sym (handle_is x.0 h.0 x.1)) ∙ sym h.2 in
    (TagPrefix x.0 h.1, same, (h.0, p, q, x.1, h.3, line_tail q k, refl))) s t

pub reserved_line : (a b : List ℕ) → TakesOff IsSomeReserved a b → TakesOff (IsDirectiveOf kinds.Reserved) a b
reserved_line a b t = taken_so {P = IsSomeReserved} (λ p h. (Reserved h.0, tt, h.1)) t

pub line_taken : (kind : DirectiveKind) (a b c d : List ℕ) → TakesOff (IsDirectiveOf kind) a b → b ≡ 10 ∷ c
    → TakesOff IsFiller c d → TakesOff (IsLineOf kind) a d
line_taken kind a b c d s e t =
    then {P = IsDirectiveOf kind} {Q = λ x. (filler : List ℕ) × IsFiller filler × (x ≡ 10 ∷ filler)}
    (λ p q h k. (p, k.0, h, k.1, ap (λ x. p ++ x) k.2)) s
    (known_then {Q = IsFiller} (10 ∷ []) (λ q k. (q, k, refl)) e t)

pub line_shorter : (kind : DirectiveKind) (a b : List ℕ) → TakesOff (IsLineOf kind) a b → length b < length a
line_shorter kind a b t =
    let l = length-append t.is.0 (10 ∷ t.is.1) in
    shorter_by a b t.piece t.cut (rw (ap length t.is.4) (omega (arith, l)))
