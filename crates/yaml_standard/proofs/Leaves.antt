-- Leaves in flow style, and their colons.
use Rattle.std.proofs.Common.{◌≡◌, ◌≢◌, ℕ, ◌+◌, ◌<◌, Bool, true, false, List, [], ◌∷◌, ◌++◌, refl, sym, ap, ◌∙◌, arith, append_assoc, length, length-append, inl, inr}
use Rattle.std.specs.Prelude.{IsTrue, not, ◌==◌}
use Rattle.std.proofs.lemmas.List.{append-nil}
use Rattle.std.proofs.lemmas.Bool.Decides.{nat_tests}
use Rattle.saphyr_input.specs.Classes.{is_blank}
use Rattle.saphyr_scalar.specs.Spelling.Tag.{AreIn}
use Rattle.saphyr_scalar.specs.Values.Folding.{folded}
use Rattle.saphyr_scalar.specs.Values.Flow.{plain_value}
use Rattle.saphyr_scalar.specs.declared.values.Quote.{Quote}
use Rattle.saphyr_scalar.specs.declared.values.Quote.TheVariants.{Single, Double}
use Rattle.scalar_laws.specs.Spelling.Spaces.{IsSeparation}
use Rattle.scalar_laws.proofs.Beginnings.{both_in, front_in}
use Rattle.saphyr_scanner.specs.Grammar.Forest.{Plain, SingleQuoted, DoubleQuoted, Node, Alias, Scalar, Properties, no_properties}
use Rattle.yaml_laws.specs.Grammar.FlowScalars.{IsPlain, IsPlainKey}
use Rattle.yaml_laws.specs.Grammar.FlowNodes.{IsBeforeContent, IsBeforeColon, IsOnLine, allows_adjacent, needs_separation}
use Rattle.yaml_laws.proofs.InFlow.OnLine.{separation_of_blanks}
use Rattle.yaml_standard.specs.declared.leaf.Class.{Class}
use Rattle.yaml_standard.specs.declared.leaf.Class.TheVariants as class
use Rattle.yaml_standard.specs.Leaves.{IsSomeFront, IsSomeQuoted, HasClass, IsLeafOf, IsLeaf, IsShortLine, IsKeySeparation, SeparatesFrom, IsBehindLeaf, IsKeyAndColon}
use Rattle.yaml_standard.specs.NodeProperties.{IsSomeAlias, IsSomeProperties}
use Rattle.yaml_standard.specs.Quotes.{IsQuotedScalar}
use Rattle.yaml_standard.specs.Takes.{TakesOff}
use Rattle.yaml_standard.proofs.PlainValues.{plain_value_some, key_value_some}
use Rattle.yaml_standard.proofs.Pieces.{nothing_taken, taken_so, then, then_known}

-- ## Leaves

pub no_front : (indent : ℕ) (a : List ℕ) → TakesOff (IsSomeFront indent) a a
no_front indent a = nothing_taken (IsSomeFront indent) a (no_properties, inl (refl, refl))

pub front_taken : (indent : ℕ) (a b c : List ℕ) → TakesOff (IsSomeProperties indent) a b
    → TakesOff (IsSeparation indent) b c → ((n : List ℕ) → b ≡ n ++ c → n ≢ []) → TakesOff (IsSomeFront indent) a c
front_taken indent a b c s t past =
    let some : t.piece ≢ [] = past t.piece t.cut in record {
      piece = s.piece ++ t.piece;
      is = (s.is.0, inr (s.piece, t.piece, s.is.1, some, t.is, refl));
      cut = s.cut ∙ ap (λ x. s.piece ++ x) t.cut ∙ sym (append_assoc s.piece t.piece c);
    }

pub alias_leaf : (in_flow : Bool) (indent : ℕ) (a b : List ℕ) → TakesOff IsSomeAlias a b
    → TakesOff (IsLeafOf class.Named in_flow indent) a b
alias_leaf in_flow indent a b s = taken_so {P = IsSomeAlias} (λ p h. (Alias h.0, (λ room. h.1), tt)) s

pub properties_leaf : (in_flow : Bool) (indent : ℕ) (a b : List ℕ) → TakesOff (IsSomeProperties indent) a b
    → TakesOff (IsLeafOf class.Named in_flow indent) a b
properties_leaf in_flow indent a b s =
    taken_so {P = IsSomeProperties indent} (λ p h. (Scalar h.0 Plain [], (λ room. inl (refl, refl, h.1)), tt)) s

quoted_node : (in_flow : Bool) (indent : ℕ) (p : Properties) (front t : List ℕ) (q : Quote)
    → IsBeforeContent p indent front → IsQuotedScalar q indent t → IsLeafOf class.Quoted in_flow indent (front ++ t)
quoted_node in_flow indent p front t Single h k = (
  Scalar p SingleQuoted (folded k.1.0),
  (λ room. inr (front, t, h, (k.0, k.1.0, k.1.1, k.1.2, refl, k.2), refl)),
  (refl, λ s. refl),
)
quoted_node in_flow indent p front t Double h k = (
  Scalar p DoubleQuoted (folded k.1.0),
  (λ room. inr (front, t, h, (k.0, k.1.0, k.1.1, k.1.2, refl, k.2), refl)),
  (refl, λ s. refl),
)

pub quoted_leaf : (in_flow : Bool) (indent : ℕ) (a b c : List ℕ) → TakesOff (IsSomeFront indent) a b
    → TakesOff (IsSomeQuoted indent) b c → TakesOff (IsLeafOf class.Quoted in_flow indent) a c
quoted_leaf in_flow indent a b c s t =
    then {P = IsSomeFront indent} {Q = IsSomeQuoted indent}
    (λ p q h k. quoted_node in_flow indent h.0 p q k.0 h.1 k.1) s t

plain_needs_none : (p : Properties) (value : List ℕ) → value ≢ []
    → IsTrue (not (needs_separation (Scalar p Plain value)))
plain_needs_none p [] some = absurd (some refl)
plain_needs_none p (c ∷ cs) some = refl

pub plain_leaf : (in_flow : Bool) (indent : ℕ) (a b c : List ℕ) → TakesOff (IsSomeFront indent) a b
    → TakesOff (IsPlain in_flow indent) b c → TakesOff (IsLeafOf class.Plain in_flow indent) a c
plain_leaf in_flow indent a b c s t =
    then {P = IsSomeFront indent} {Q = IsPlain in_flow indent}
    (λ p q h k. (
      Scalar h.0 Plain (plain_value q),
      (λ room. inr (p, q, h.1, (k, refl), refl)),
      plain_needs_none h.0 (plain_value q) (plain_value_some in_flow indent q k),
    )) s t

pub leaf_of : (c : Class) (in_flow : Bool) (indent : ℕ) (a b : List ℕ) → TakesOff (IsLeafOf c in_flow indent) a b
    → TakesOff (IsLeaf in_flow indent) a b
leaf_of c in_flow indent a b s = taken_so {P = IsLeafOf c in_flow indent} (λ p h. (h.0, h.1)) s

-- ## Lines

no_feed : (x : ℕ) → x ≢ 10 → IsTrue (not (x == 10))
no_feed x other = grind (arith, nat_tests)

abbrev pub IsLineOf : ℕ → List ℕ → Type 0
IsLineOf count t = IsOnLine t × (length t ≡ count)

pub no_line : (a : List ℕ) → TakesOff (IsLineOf 0) a a
no_line a = nothing_taken (IsLineOf 0) a (tt, refl)

pub line_more : (k x : ℕ) (a b c : List ℕ) → TakesOff (IsLineOf k) a b → b ≡ x ∷ c → x ≢ 10
    → TakesOff (IsLineOf (k + 1)) a c
line_more k x a b c s e other =
    then_known {P = IsLineOf k} (x ∷ [])
    (λ p h. (
      both_in (λ y. not (y == 10)) p (x ∷ []) h.0 (no_feed x other, tt),
      length-append p (x ∷ []) ∙ ap (λ n. n + 1) h.1,
    )) s e

pub line_whole : (k : ℕ) (a b : List ℕ) → TakesOff (IsLineOf k) a b → b ≡ [] → k < 1025 → IsShortLine a
line_whole k a b s e low =
    let same : a ≡ s.piece = s.cut ∙ ap (λ x. s.piece ++ x) e ∙ append-nil s.piece in
    rw same (s.is.0, rw s.is.1 (omega (arith, low)))

-- ## Keys

pub key_blanks : (on_line : Bool) (indent : ℕ) (a b : List ℕ) → TakesOff (AreIn is_blank) a b
    → TakesOff (IsKeySeparation on_line indent) a b
key_blanks on_line indent a b s = taken_so {P = AreIn is_blank} (λ p h. (separation_of_blanks indent p h, λ e. h)) s

pub key_separation : (on_line : Bool) (indent : ℕ) (a b : List ℕ) → on_line ≡ false
    → TakesOff (IsSeparation indent) a b → TakesOff (IsKeySeparation on_line indent) a b
key_separation on_line indent a b off s = taken_so {P = IsSeparation indent} (λ p h. (h, λ e. absurd (cc))) s

before_colon : (c : Class) (node : Node) (t : List ℕ) → HasClass c node → SeparatesFrom c t → IsBeforeColon node t
before_colon class.Named node t h k = inl k
before_colon class.Plain node t h k = inr h
before_colon class.Quoted node t h k = inr h.0

quoted_adjacent : (c : Class) (node : Node) (t : List ℕ) → c ≡ class.Quoted → HasClass c node
    → IsTrue (allows_adjacent node t)
quoted_adjacent class.Named node t e h = absurd (cc)
quoted_adjacent class.Plain node t e h = absurd (cc)
quoted_adjacent class.Quoted node t e h = h.1 t

-- what comes before a colon, cut at the key's end
with_colon : (a p q x y : List ℕ) → a ≡ (p ++ q) ++ x → x ≡ 58 ∷ y → a ≡ (p ++ (q ++ 58 ∷ [])) ++ y
with_colon a p q x y e f =
    e ∙ ap (λ z. (p ++ q) ++ z) f ∙ sym (append_assoc (p ++ q) (58 ∷ []) y)
    ∙ ap (λ z. z ++ y) (append_assoc p q (58 ∷ []))

pub key_and_colon : (c : Class) (in_flow on_line quoted : Bool) (indent : ℕ) (a b x y : List ℕ)
    → TakesOff (IsLeafOf c in_flow indent) a b → TakesOff (IsBehindLeaf c on_line indent) b x
    → (on_line ≡ true → (n : List ℕ) → a ≡ n ++ x → IsShortLine n) → x ≡ 58 ∷ y → (IsTrue quoted → c ≡ class.Quoted)
    → TakesOff (IsKeyAndColon in_flow indent on_line quoted) a y
key_and_colon c in_flow on_line quoted indent a b x y s t short e is_quoted =
    let cut : a ≡ (s.piece ++ t.piece) ++ x =
    s.cut ∙ ap (λ z. s.piece ++ z) t.cut ∙ sym (append_assoc s.piece t.piece x) in
    let fits : on_line ≡ true → IsShortLine (s.piece ++ t.piece) = λ h. short h (s.piece ++ t.piece) cut in
    record {
      piece = s.piece ++ (t.piece ++ 58 ∷ []);
      is = record {
        key = s.is.0;
        node = s.piece;
        separation = t.piece;
        is = λ room. inl (s.is.1 room);
        before_colon = before_colon c s.is.0 t.piece s.is.2 t.is.1;
        separates = t.is.0.0;
        line = λ h. (front_in (λ y. not (y == 10)) s.piece t.piece (fits h).0, t.is.0.1 h);
        short = λ h. (fits h).1;
        adjacent_so = λ h. quoted_adjacent c s.is.0 t.piece (is_quoted h) s.is.2;
        cut = refl;
      };
      cut = with_colon a s.piece t.piece x y cut e;
    }

pub plain_key_and_colon : (in_flow on_line : Bool) (indent : ℕ) (a b x y : List ℕ) → TakesOff (IsSomeFront indent) a b
    → TakesOff (IsPlainKey in_flow indent) b x → (on_line ≡ true → (n : List ℕ) → a ≡ n ++ x → IsShortLine n)
    → x ≡ 58 ∷ y → TakesOff (IsKeyAndColon in_flow indent on_line false) a y
plain_key_and_colon in_flow on_line indent a b x y s t short e =
    let node = s.piece ++ t.piece in
    let cut : a ≡ node ++ x = s.cut ∙ ap (λ z. s.piece ++ z) t.cut ∙ sym (append_assoc s.piece t.piece x) in
    let value = plain_value t.piece in
    let fits : on_line ≡ true → IsShortLine (node ++ []) = λ h. rw append-nil (short h node cut) in
    record {
      piece = node ++ 58 ∷ [];
      is = record {
        key = Scalar s.is.0 Plain value;
        node = node;
        separation = [];
        is = λ room. inr ((s.piece, t.piece, refl, s.is.1, t.is, refl, refl), refl);
        before_colon = inr (plain_needs_none s.is.0 value (key_value_some in_flow indent t.piece t.is));
        separates = separation_of_blanks indent [] tt;
        line = λ h. (front_in (λ y. not (y == 10)) node [] (fits h).0, tt);
        short = λ h. (fits h).1;
        adjacent_so = λ h. absurd (cc);
        cut = refl;
      };
      cut = cut ∙ ap (λ z. node ++ z) e ∙ sym (append_assoc node (58 ∷ []) y);
    }
