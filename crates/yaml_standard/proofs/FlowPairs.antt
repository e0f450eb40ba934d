-- The productions of pairs in flow style, from their parts.
use Rattle.std.proofs.Common.{◌≡◌, ◌≢◌, ℕ, Bool, true, false, List, [], ◌∷◌, ◌++◌, refl, sym, ap, ◌∙◌, subst, append_assoc, inl, inr}
use Rattle.std.specs.Prelude.{◌==◌, IsTrue, IsFalse, codes, not}
use Rattle.std.specs.Borrow.{Bor}
use Rattle.std.specs.List.{list_all}
use Rattle.std.proofs.lemmas.List.{append-nil}
use Rattle.std.specs.Str.{chars}
use Rattle.saphyr_input.specs.Classes.{is_blank}
use Rattle.saphyr_scalar.specs.Spelling.Tag.{AreIn}
use Rattle.scalar_laws.specs.Spelling.Spaces.{IsSeparation}
use Rattle.scalar_laws.proofs.Beginnings.{front_in}
use Rattle.saphyr_scanner.specs.Grammar.Forest.{Node, Alias, Scalar, Seq, Map, left_out}
use Rattle.yaml_laws.specs.Grammar.FlowNodes.{IsColonAndValue, IsExplicitPair, IsKeyOnLineAndValue, IsOnLine, allows_adjacent, has_tab_outside, needs_separation}
use Rattle.yaml_standard.specs.declared.goal.Flow.{Flow}
use Rattle.yaml_standard.specs.declared.goal.Goal.TheVariants as goal
use Rattle.yaml_standard.specs.FlowParts.{IsColonOrKey, IsQuestionInFlow}
use Rattle.yaml_standard.specs.Goals.{Closes, Derives, EndsEntry, IsAfterKey, IsCollection, IsKeyOrValue, IsNodeIn, IsPairIn, IsSomeCollection}
use Rattle.yaml_standard.specs.Leaves.{IsKeyAndColon, IsLeaf}
use Rattle.yaml_standard.specs.Takes.{TakesOff}
use Rattle.yaml_standard.proofs.FlowValues.{all_blank, colon_so}
use Rattle.yaml_standard.proofs.Pieces.{joined, taken_so}

-- ## Behind a `?`

pub mark_taken : (indent : ℕ) (a b c front : List ℕ) → a ≡ 63 ∷ b → TakesOff (IsSeparation indent) b c
    → ((n : List ℕ) → b ≡ n ++ c → front ≡ n) → ((n : List ℕ) → b ≡ n ++ c → n ≢ [])
    → IsFalse (has_tab_outside false front) → TakesOff (IsQuestionInFlow indent) a c
mark_taken indent a b c front e s is_front past none =
    let no_tab : IsFalse (has_tab_outside false s.piece) =
    subst (λ (x : List ℕ). IsFalse (has_tab_outside false x)) (is_front s.piece s.cut) none in
    record {
      piece = 63 ∷ s.piece;
      is = (s.piece, (past s.piece s.cut, s.is, no_tab), refl);
      cut = e ∙ ap (λ x. 63 ∷ x) s.cut;
    }

pub entry_ends : (c : ℕ) (a b : List ℕ) → a ≡ c ∷ b → IsFalse (is_blank c) → c ≢ 10 → EndsEntry a
entry_ends c a b e no_blank no_feed = (c, b, no_blank, no_feed, e)

pub lone_mark : (in_brackets : Bool) (at : Flow) (a b : List ℕ)
    → TakesOff (IsQuestionInFlow at.indent) a b → EndsEntry b
    → Closes (goal.Pair at in_brackets) a b
lone_mark in_brackets at a b s ends =
    taken_so {P = IsQuestionInFlow at.indent}
    (λ p h. (left_out, left_out, inr ((h.0, refl, refl, h.1, h.2), ends))) s

explicit : (in_brackets : Bool) (at : Flow) (key value : Node) (t : List ℕ)
    → IsExplicitPair key value (IsNodeIn at key) (IsNodeIn at value) at.indent t → IsPairIn in_brackets at key value t
explicit true at key value t h = inr (inr h)
explicit false at key value t h = inr (inr (inr h))

pub marked_pair : (in_brackets : Bool) (at : Flow) (a b c : List ℕ) → TakesOff (IsQuestionInFlow at.indent) a b
    → Closes (goal.KeyOrValue at false) b c → Closes (goal.Pair at in_brackets) a c
marked_pair in_brackets at a b c s t =
    joined s t
    (λ p q h k. (
      k.0,
      k.1,
      inl (explicit in_brackets at k.0 k.1 (p ++ q) (h.0, q, h.1, k.2, ap (λ x. x ++ q) h.2)),
    ))

unmarked : (in_brackets : Bool) (at : Flow) (key value : Node) (t : List ℕ) → IsKeyOrValue in_brackets at key value t
    → IsPairIn in_brackets at key value t
unmarked true at key value t (inl h) = inl h
unmarked true at key value t (inr h) = inr (inl h)
unmarked false at key value t (inl h) = inl h
unmarked false at key value t (inr (inl h)) = inr (inr (inl h))
unmarked false at key value t (inr (inr h)) = inr (inl h)

pub unmarked_pair : (in_brackets : Bool) (at : Flow) (a b : List ℕ) → Closes (goal.KeyOrValue at in_brackets) a b
    → Closes (goal.Pair at in_brackets) a b
unmarked_pair in_brackets at a b s =
    taken_so {P = λ t. Derives (goal.KeyOrValue at in_brackets) t b}
    (λ p h. (h.0, h.1, inl (unmarked in_brackets at h.0 h.1 p h.2))) s

needs_none : (node : Node) → IsCollection node → IsTrue (not (needs_separation node))
needs_none (Alias name) h = absurd h
needs_none (Scalar p style value) h = absurd h
needs_none (Seq p nodes) h = refl
needs_none (Map p pairs) h = refl

adjacent_so : (node : Node) (t : List ℕ) → IsCollection node → IsTrue (list_all is_blank t)
    → IsTrue (allows_adjacent node t)
adjacent_so (Alias name) t h k = absurd h
adjacent_so (Scalar p style value) t h k = absurd h
adjacent_so (Seq p nodes) t h k = k
adjacent_so (Map p pairs) t h k = k

-- ## Keys

with_colon : (p q node separation : List ℕ) → p ≡ node ++ (separation ++ codes ":")
    → p ++ q ≡ node ++ (separation ++ (codes ":" ++ q))
with_colon p q node separation e =
    ap (λ x. x ++ q) e ∙ append_assoc node (separation ++ codes ":") q
    ∙ ap (λ x. node ++ x) (append_assoc separation (codes ":") q)

colon_first : (at : Flow) (adjacent : Bool) (value : Node) (p q : List ℕ) → p ≡ codes ":" → adjacent ≡ false
    → IsColonAndValue adjacent value (IsNodeIn at value) at.indent (codes ":" ++ q)
    → IsColonAndValue false value (IsNodeIn at value) at.indent (p ++ q)
colon_first at adjacent value p q e off v =
    subst (λ (x : List ℕ). IsColonAndValue false value (IsNodeIn at value) at.indent (x ++ q)) (sym e)
    (subst (λ (x : Bool). IsColonAndValue x value (IsNodeIn at value) at.indent (codes ":" ++ q)) off v)

-- A pair whose colon was found is a pair of the grammar. In brackets and in braces there are two spellings each: with
-- a key, or with a colon first and the key left out.
keyed : (in_brackets : Bool) (at : Flow) (adjacent : Bool) (value : Node) (p q : List ℕ)
    → IsColonOrKey true at.indent in_brackets adjacent p
    → IsColonAndValue adjacent value (IsNodeIn at value) at.indent (codes ":" ++ q)
    → (key : Node) × IsKeyOrValue in_brackets at key value (p ++ q)
keyed true at adjacent value p q (inl (e, off)) v =
    (left_out, inr (refl, colon_first at adjacent value p q e off v))
keyed false at adjacent value p q (inl (e, off)) v =
    (left_out, inr (inl (refl, colon_first at adjacent value p q e off v)))
keyed true at adjacent value p q (inr k) v = (
  k.key,
  inl (
    k.node,
    k.separation,
    codes ":" ++ q,
    k.is at.room,
    (k.line refl).0,
    (k.line refl).1,
    k.before_colon,
    colon_so adjacent _ value _ at.indent _ k.adjacent_so v,
    with_colon p q k.node k.separation k.cut,
  ),
)
keyed false at adjacent value p q (inr k) v = (
  k.key,
  inr (inr (
    k.node,
    k.separation,
    codes ":" ++ q,
    k.is at.room,
    k.separates,
    k.before_colon,
    colon_so adjacent _ value _ at.indent _ k.adjacent_so v,
    with_colon p q k.node k.separation k.cut,
  )),
)

pub colon_taken : (in_flow : Bool) (indent : ℕ) (on_line : Bool) (a b : List ℕ) → a ≡ 58 ∷ b
    → TakesOff (IsColonOrKey in_flow indent on_line false) a b
colon_taken in_flow indent on_line a b e = record { piece = 58 ∷ []; is = inl (refl, refl); cut = e }

pub key_taken : (in_flow : Bool) (indent : ℕ) (on_line adjacent : Bool) (a b : List ℕ)
    → TakesOff (IsKeyAndColon in_flow indent on_line adjacent) a b
    → TakesOff (IsColonOrKey in_flow indent on_line adjacent) a b
key_taken in_flow indent on_line adjacent a b s =
    taken_so {P = IsKeyAndColon in_flow indent on_line adjacent} (λ p h. inr h) s

pub key_and_value : (in_brackets : Bool) (at : Flow) (adjacent : Bool) (a b c : List ℕ)
    → TakesOff (IsColonOrKey true at.indent in_brackets adjacent) a b → Closes (goal.Value at adjacent) b c
    → Closes (goal.KeyOrValue at in_brackets) a c
key_and_value in_brackets at adjacent a b c s t =
    joined s t (λ p q h k. let x = keyed in_brackets at adjacent k.0 p q h k.1 in (x.0, k.0, x.1))

pub key_alone : (in_brackets : Bool) (at : Flow) (a b : List ℕ) → in_brackets ≡ false
    → TakesOff (IsLeaf true at.indent) a b
    → Closes (goal.KeyOrValue at in_brackets) a b
key_alone in_brackets at a b is s =
    subst (λ (x : Bool). Closes (goal.KeyOrValue at x) a b) (sym is)
    (taken_so {P = IsLeaf true at.indent} (λ p h. (h.0, left_out, inl (refl, h.1 at.room))) s)

-- ## Collections that are keys

collection_keyed : (at : Flow) (key value : Node) (p q : List ℕ) → IsCollection key → IsNodeIn at key p
    → IsAfterKey at value q → IsKeyOrValue false at key value (p ++ q)
collection_keyed at key value p q is h (inl (e, none)) =
    inl (e, subst (λ (x : List ℕ). IsNodeIn at key x) (sym (ap (λ x. p ++ x) none ∙ append-nil p)) h)
collection_keyed at key value p q is h (inr (separation, colon, s, v, e)) =
    inr (inr (
      p,
      separation,
      colon,
      inl h,
      s,
      inr (needs_none key is),
      colon_so _ _ value _ at.indent colon (adjacent_so key separation is) v,
      ap (λ x. p ++ x) e,
    ))

pub collection_key : (in_brackets : Bool) (at : Flow) (a b c : List ℕ) → in_brackets ≡ false
    → TakesOff (IsSomeCollection at) a b → Closes (goal.AfterKey at) b c → Closes (goal.KeyOrValue at in_brackets) a c
collection_key in_brackets at a b c is s t =
    subst (λ (x : Bool). Closes (goal.KeyOrValue at x) a c) (sym is)
    (joined s t (λ p q h k. (h.0, k.0, collection_keyed at h.0 k.0 p q h.1 h.2 k.1)))

-- what is on one line with its colon
pub key_line : (key blanks start left : List ℕ) → ((n : List ℕ) → start ≡ n ++ left → IsOnLine n)
    → start ≡ key ++ (blanks ++ left) → IsOnLine key
key_line key blanks start left line e =
    front_in (λ c. not (c == 10)) key blanks (line (key ++ blanks) (e ∙ sym (append_assoc key blanks left)))

line_keyed : (at : Flow) (key value : Node) (p blanks q : List ℕ) → IsCollection key → IsNodeIn at key p → IsOnLine p
    → AreIn is_blank blanks → IsColonAndValue true value (IsNodeIn at value) at.indent (codes ":" ++ q)
    → IsKeyOnLineAndValue key value (IsNodeIn at key) (IsNodeIn at value) at.indent (p ++ ((blanks ++ codes ":") ++ q))
line_keyed at key value p blanks q is h line are v = (
  p,
  blanks,
  codes ":" ++ q,
  inl h,
  line,
  are,
  inr (needs_none key is),
  colon_so true _ value _ at.indent _ (λ so. adjacent_so key blanks is (all_blank blanks are)) v,
  ap (λ x. p ++ x) (append_assoc blanks (codes ":") q),
)

on_line : (at : Flow) (start : Bor (List ℕ)) (a b c : List ℕ)
    → TakesOff (IsSomeCollection at) (chars start.now) a → Closes (goal.Colon start) a b
    → Closes (goal.Value at true) b c
    → Closes (goal.KeyOrValue at true) (chars start.now) c
on_line at start a b c s t u =
    let blanks = t.is.0 in
    let cut : chars start.now ≡ s.piece ++ (blanks ++ (58 ∷ b)) =
    s.cut ∙ ap (λ x. s.piece ++ x) (t.cut ∙ ap (λ x. x ++ b) t.is.3 ∙ append_assoc blanks (codes ":") b) in
    let line = key_line s.piece blanks (chars start.now) (58 ∷ b) (λ n e. (t.is.2 n e).0) cut in
    record {
      piece = s.piece ++ ((blanks ++ codes ":") ++ u.piece);
      is = (s.is.0, u.is.0, inl (line_keyed at s.is.0 u.is.0 s.piece blanks u.piece s.is.1 s.is.2 line t.is.1 u.is.1));
      cut = s.cut ∙ ap (λ x. s.piece ++ x) (t.cut ∙ ap (λ x. x ++ b) t.is.3
          ∙ ap (λ x. (blanks ++ codes ":") ++ x) u.cut ∙ sym (append_assoc (blanks ++ codes ":") u.piece c))
          ∙ sym (append_assoc s.piece ((blanks ++ codes ":") ++ u.piece) c);
    }

pub collection_on_line : (in_brackets : Bool) (at : Flow) (start : Bor (List ℕ)) (a b c : List ℕ) → in_brackets ≡ true
    → TakesOff (IsSomeCollection at) (chars start.now) a → Closes (goal.Colon start) a b
    → Closes (goal.Value at true) b c
    → Closes (goal.KeyOrValue at in_brackets) (chars start.now) c
collection_on_line in_brackets at start a b c is s t u =
    subst (λ (x : Bool). Closes (goal.KeyOrValue at x) (chars start.now) c) (sym is) (on_line at start a b c s t u)
