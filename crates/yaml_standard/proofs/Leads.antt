-- What comes before nodes and entries in block style.
use Rattle.std.proofs.Common.{◌≡◌, ◌≢◌, ℕ, ◌+◌, ◌≤◌, arith, Bool, true, false, List, [], ◌∷◌, ◌++◌, refl, sym, ap, ◌∙◌, append_assoc, subst, inl, inr}
use Rattle.std.specs.Prelude.{codes, ◌&&◌, ◌==◌, slice_index}
use Rattle.std.specs.List.{list_all}
use Rattle.saphyr_input.specs.Classes.{is_alpha, tab}
use Rattle.saphyr_scalar.specs.Reading.BlockLines.{spaces}
use Rattle.scalar_laws.specs.Spelling.Spaces.{IsFiller, IsGap, IsLineEnd}
use Rattle.saphyr_scanner.specs.Grammar.Forest.{no_properties}
use Rattle.yaml_laws.specs.Grammar.BlockNodes.{Position, indent_at, is_behind_colon, IsCompactLead, IsEntryIndentation, IsGapAt, IsValueMark}
use Rattle.yaml_standard.specs.Leads.{IsCompact, IsFlowGap, IsFrontLine, IsPropertiesLine, IsSomeLead, is_word_behind_tabs}
use Rattle.yaml_standard.specs.NodeProperties.{IsSomeProperties}
use Rattle.yaml_standard.specs.Takes.{TakesOff}
use Rattle.yaml_standard.proofs.Pieces.{taken_so, then, then_known}

-- ## Gaps

gap_at_place : (place : Position) (t : List ℕ) → IsGap (indent_at place) t → IsGapAt place t
gap_at_place place t (inl blanks) = inl blanks
gap_at_place place t (inr line) = inr (inl line)

pub gap_taken : (place : Position) (indent : ℕ) (a b : List ℕ) → indent ≡ indent_at place → TakesOff (IsGap indent) a b
    → TakesOff (IsGapAt place) a b
gap_taken place indent a b e t =
    taken_so (λ p h. gap_at_place place p (subst (λ n. IsGap n p) e h)) t

-- ## Lone tabs

lone_tab_is_word : (gap node behind : List ℕ) → is_word_behind_tabs (gap ++ (node ++ behind)) ≡ false
    → (list_all (λ c. c == tab) gap && is_alpha (slice_index node 0)) ≡ false
lone_tab_is_word [] [] behind h = refl
lone_tab_is_word [] (c ∷ cs) behind h = grind arith
lone_tab_is_word (c ∷ cs) node behind h = grind (arith, lone_tab_is_word cs node behind)

and_also : (x y z : Bool) → (x && y) ≡ false → (y ≡ false → z ≡ false) → (x && z) ≡ false
and_also true y z h f = f h
and_also false y z h f = refl

pub flow_gap : (place : Position) (a b : List ℕ) → (is_behind_colon place && is_word_behind_tabs a) ≡ false
    → TakesOff (IsGapAt place) a b → TakesOff (IsFlowGap place a) a b
flow_gap place a b h t = record {
  piece = t.piece;
  is = (
    t.is,
    λ node behind e. and_also (is_behind_colon place) (is_word_behind_tabs a) _ h
        (λ no_word. lone_tab_is_word t.piece node behind (ap is_word_behind_tabs (sym e) ∙ no_word)),
  );
  cut = t.cut;
}

-- ## Indentation

pub entry_indentation : (m : ℕ) (a b c : List ℕ) → TakesOff IsFiller a b → b ≡ spaces m ++ c
    → TakesOff (IsEntryIndentation m) a c
entry_indentation m a b c t e = then_known (spaces m) (λ p k. (p, k, refl)) t e

pub value_mark : (m : ℕ) (a b c d : List ℕ) → TakesOff IsFiller a b → b ≡ spaces m ++ c → c ≡ 58 ∷ d
    → TakesOff (IsValueMark m) a d
value_mark m a b c d t e f =
    then_known (spaces m ++ codes ":") (λ p k. (p, k, refl)) t
    (e ∙ ap (λ x. spaces m ++ x) f ∙ sym (append_assoc (spaces m) (codes ":") d))

-- ## Leads

pub properties_line : (indent : ℕ) (a b c : List ℕ) → TakesOff (IsSomeProperties indent) a b → TakesOff IsLineEnd b c
    → TakesOff (IsPropertiesLine indent) a c
properties_line indent a b c s t =
    then {P = IsSomeProperties indent} {Q = IsLineEnd} (λ p q h k. (p, q, h, k, refl)) s t

pub line_without : (place : Position) (a b : List ℕ) → TakesOff IsLineEnd a b → TakesOff (IsFrontLine place) a b
line_without place a b t =
    taken_so {P = IsLineEnd} (λ p h. (no_properties, [], p, inl (refl, refl), h, refl)) t

pub line_with : (place : Position) (indent : ℕ) (a b c : List ℕ) → indent ≡ indent_at place
    → TakesOff (IsGapAt place) a b → TakesOff (IsPropertiesLine indent) b c → TakesOff (IsFrontLine place) a c
line_with place indent a b c e s t =
    then {P = IsGapAt place} {Q = IsPropertiesLine (indent_at place)}
    (λ p q h k. (
      k.2.0,
      p ++ k.0,
      k.1,
      inr (p, k.0, h, k.2.1, refl),
      k.3,
      ap (λ x. p ++ x) k.4 ∙ sym (append_assoc p k.0 k.1),
    ))
    s (subst (λ (n : ℕ). TakesOff (IsPropertiesLine n) b c) e t)

pub next_line_lead : (place : Position) (least m : ℕ) (a b c d : List ℕ) → TakesOff (IsFrontLine place) a b
    → TakesOff IsFiller b c → c ≡ spaces m ++ d → least ≤ m → TakesOff (IsSomeLead place least m) a d
next_line_lead place least m a b c d s t e far =
    then {P = IsFrontLine place} {Q = IsEntryIndentation m}
    (λ p q h k. (
      h.0,
      inl (
        h.1,
        h.2,
        k.0,
        far,
        h.3,
        h.4,
        k.1,
        ap (λ x. x ++ q) h.5 ∙ append_assoc h.1 h.2 q ∙ ap (λ x. h.1 ++ (h.2 ++ x)) k.2,
      ),
    ))
    s (entry_indentation m b c d t e)

pub compact_lead : (place : Position) (least m : ℕ) (a b : List ℕ) → TakesOff (IsCompactLead place m) a b
    → TakesOff (IsSomeLead place least m) a b
compact_lead place least m a b t = taken_so {P = IsCompactLead place m} (λ p k. (no_properties, inr (refl, k))) t

pub compact : (column m k : ℕ) (a b : List ℕ) → a ≡ spaces k ++ b → k ≢ 0 → m ≡ column + 1 + k
    → TakesOff (IsCompact column m) a b
compact column m k a b e some is = record { piece = spaces k; is = (k, omega (arith, some), is, refl); cut = e }
