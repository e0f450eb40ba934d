-- What each step of anchors, aliases and tags does, by the laws of the readers.
use Rattle.saphyr_scanner.proofs.Common.{◌≡◌, ℕ, ◌+◌, ◌<◌, Bool, true, false, List, ◌∷◌, ◌++◌, length, Some, refl, sym, ap, ◌∙◌, arith, subst, inl, inr, IsTrue, ◌==◌, slice_index, not, codes, colon, exclamation_mark, Span, IsHandleText, IsTagText, EndsTag, Cursor, along}
use Rattle.saphyr_input.specs.Classes.{is_one_of}
use Rattle.saphyr_scalar.specs.Steps.Anchor as anchors
use Rattle.saphyr_scalar.specs.Steps.Tag as tags
use Rattle.saphyr_scalar.proofs.TakingMore.{tag_some}
use Rattle.saphyr_scanner.specs.Grammar.Tokens as tokens
use Rattle.saphyr_scanner.specs.Grammar.Tokens.{Kind}
use Rattle.saphyr_scanner.specs.Steps.Core.{Core, in_block}
use Rattle.saphyr_scanner.specs.Steps.Passing.{with_cursor}
use Rattle.saphyr_scanner.specs.Steps.Property as property
use Rattle.saphyr_scanner.specs.Steps.Scalar as scalar
use Rattle.saphyr_scanner.specs.TokensTaken as taken
use Rattle.saphyr_scanner.specs.TokensTaken.{Surroundings, IsToken, begins_text}
use Rattle.saphyr_scanner.specs.TokensInPlace.{is_of_flow_node}
use Rattle.saphyr_scanner.proofs.Added.Queue.{IsNoEnd}
use Rattle.saphyr_scanner.proofs.Counted.{Ahead}
use Rattle.saphyr_scanner.proofs.Effects.Puts.{saving, saved, saved_free, same_block, same_flow, Reading}
use Rattle.saphyr_scanner.proofs.Effects.Walked.{Premises, Walked, walked_then, Doing, read_walked}
use Rattle.saphyr_scanner.proofs.Effects.QuotedScalars.{Starts}
use Rattle.saphyr_scanner.proofs.Effects.Readers.{Readers, ReaderEnds, Less, TextLaws}
use Rattle.saphyr_scanner.proofs.Taken.Bare.{HasFreeEntry, KeepsFronts, plain_fronts, property_fronts}
use Rattle.saphyr_scanner.proofs.Taken.Cores.{surroundings}
use Rattle.saphyr_scanner.proofs.Taken.Indented.{other_than_colon}
use Rattle.saphyr_scanner.proofs.Taken.Neutral.{Neutral, neutral}
use Rattle.saphyr_scanner.proofs.Taken.Parts.{is_quiet}
use Rattle.saphyr_scanner.proofs.Taken.Places.{here_at}

-- a reader that takes a text off, and ends its token there
token_read : (c : Core) (kind : Kind) (u : Cursor) → (Readers → Less u c.cursor) → (ReaderEnds → Ahead c.cursor u)
    → (TextLaws → (b : Bool)
    → IsToken (surroundings b c) kind (record { start = c.cursor.mark; end = u.mark }) c.cursor u)
    → Reading 1 c (record { span = record { start = c.cursor.mark; end = u.mark }; kind = kind }) u
token_read c kind u less ahead is = record {
  less = λ laws. let z = less laws in omega (arith, z);
  span = λ laws. let z = ahead laws in
      record { ahead = z; begins = omega arith; inside = z.later; ends = omega arith };
  token = λ laws. (u, (λ b _. is laws b), taken.nothing u.mark u.rest);
}

pub record Named (token_of : List ℕ → Kind) (x : ℕ) : Type 0 where
  pub other : (x == colon) ≡ false
  pub no_end : (name : List ℕ) → IsNoEnd (token_of name)
  pub quiet : (name : List ℕ) → is_quiet (token_of name) ≡ true
  pub keeps : (name : List ℕ) (span : Span) → Neutral (record { span = span; kind = token_of name })
  pub of_node : (name : List ℕ) (span : Span) → IsTrue (is_of_flow_node (token_of name) span)
  pub is : (i : Surroundings) (name : List ℕ) (span : Span) (s t : Cursor) → taken.IsNameToken x name span s t
      → IsToken i (token_of name) span s t
  pub of : (i : Surroundings) (name : List ℕ) (span : Span) (s t : Cursor) → IsToken i (token_of name) span s t
      → Starts span s

pub an_alias : Named tokens.Alias 42
an_alias = grind arith

pub an_anchor : Named tokens.Anchor 38
an_anchor = grind arith

-- a tag begins with `!`
pub tag_first : (text behind handle suffix : List ℕ) → IsTagText text handle suffix
    → slice_index (text ++ behind) 0 ≡ exclamation_mark
tag_first text behind handle suffix (inl h) = ap (λ t. slice_index (t ++ behind) 0) h.0
tag_first text behind handle suffix (inr (inl h)) = ap (λ t. slice_index (t ++ behind) 0) h.3
tag_first text behind handle suffix (inr (inr h)) = ap (λ t. slice_index (t ++ behind) 0) h.4 ∙ by h.1
  where
    by : IsHandleText handle → slice_index ((handle ++ h.0) ++ behind) 0 ≡ exclamation_mark
    by h = grind arith

-- what a name's token leaves known of an entry of brackets
abbrev pub NameKeeps : (List ℕ → Kind) → ℕ → Type 0
NameKeeps token_of x = (name : List ℕ) (span : Span) (c d : Core)
    → (HasFreeEntry d → HasFreeEntry c × (c.key_allowed ≡ false)) → slice_index c.cursor.rest 0 ≡ x
    → KeepsFronts (record { span = span; kind = token_of name }) c d

pub alias_keeps : NameKeeps tokens.Alias 42
alias_keeps name span c d free first = plain_fronts (record { span = span; kind = tokens.Alias name }) c d refl

pub anchor_keeps : NameKeeps tokens.Anchor 38
anchor_keeps name span c d free first =
    property_fronts (tokens.Anchor name) span c d refl free (ap (is_one_of (codes ":&!")) first)

-- An anchor or an alias puts its token, which may begin a key (`saved`). All that has to be known of the token comes
-- from the law on names that were read: how long it is, where it ends, and how it is spelled.
pub name_does : (token_of : List ℕ → Kind) (x : ℕ) → Named token_of x → NameKeeps token_of x → (n : ℕ) (c : Core)
    → 0 < length c.cursor.rest
    → slice_index c.cursor.rest 0 ≡ x
    → Walked (Premises c) (Doing (Some n) c) c.cursor (property.name_steps token_of n c)
unfolding property.name_steps property.read_name
name_does token_of x named keeps n c some f =
    let here = c.cursor in
    let Q = Doing (Some n) c in
    saving n c (λ d. Walked (Premises c) Q here (property.read_name token_of (scalar.disallow_key d))) (λ l r s.
    let d : Core = scalar.disallow_key (record c { level = l; required = r }) in
    walked_then (Premises c) _ Q here (anchors.anchor here) _
    (read_walked (Premises c) here (anchors.anchor here) (λ e q laws. here_at here e.mark (laws.0.name here e q)))
    (λ y e.
    let span : Span = record { start = here.mark; end = y.1.mark } in
    let kind : Kind = token_of y.0 in
    saved n c (with_cursor y.1 d) (record { span = span; kind = kind }) s refl (inl refl) (λ m. inl m) (named.quiet y.0)
    (named.keeps y.0 span) (named.of_node y.0 span) (named.no_end y.0)
    (keeps y.0 span c (with_cursor y.1 d) (saved_free n c l r s) f)
    (λ i. named.of i y.0 span) refl (other_than_colon x here.rest named.other f) (λ a laws.
    let place = ap (λ (u : Cursor). u.mark.col) (laws.name here y.1 y.0 some e).5 in (
      λ no. absurd (cc),
      λ b _ _. let deep = a.0 (sym (same_block n c l r s) ∙ b) in inl (omega (arith, place, deep)),
      λ _ allowed. absurd (cc),
    ))
    (token_read c kind y.1 (λ laws. laws.name here y.1 y.0 some e) (λ laws. laws.name here y.1 y.0 some e) (λ laws b.
    let w = laws.name here y.1 y.0 some e in
    let first : w.0 ≡ x = sym (ap (λ t. slice_index t 0) w.2) ∙ f in
    let P : ℕ → Type 0 = λ k. here.rest ≡ k ∷ (w.1 ++ y.1.rest) in
    let m : 1 + length w.1 ≡ length (x ∷ w.1) = omega arith in
    let goes : y.1.mark ≡ along here.mark (length (x ∷ w.1)) = cc in
    named.is (surroundings b c) y.0 span here y.1
    (w.1, w.3, sym w.6, record { is = subst P first w.2; start = refl; end = refl; goes_on = goes }, w.4)))))

-- The same of a tag, by the law on tags. What may end it depends on whether flow is open, which saving a candidate
-- leaves as it is (`same_flow`).
pub tag_does : (n : ℕ) (c : Core) → slice_index c.cursor.rest 0 ≡ exclamation_mark
    → Walked (Premises c) (Doing (Some n) c) c.cursor (property.tag_steps n c)
unfolding property.tag_steps property.read_tag
tag_does n c first =
    let here = c.cursor in
    let Q = Doing (Some n) c in
    saving n c (λ d. Walked (Premises c) Q here (property.read_tag (scalar.disallow_key d))) (λ l r s.
    let d : Core = scalar.disallow_key (record c { level = l; required = r }) in
    let f = not (in_block d) in
    walked_then (Premises c) _ Q here (tags.tag f here) _
    (read_walked (Premises c) here (tags.tag f here) (λ e q laws. here_at here e.mark (laws.0.tag f here e q))) (λ y e.
    let span : Span = record { start = here.mark; end = y.2.mark } in
    saved n c (with_cursor y.2 d) (record { span = span; kind = tokens.Tag y.0 y.1 }) s refl (inl refl) (λ m. inl m)
    refl (neutral _ span refl) refl (λ i. absurd (cc))
    (property_fronts (tokens.Tag y.0 y.1) span c (with_cursor y.2 d) refl (saved_free n c l r s)
    (ap (is_one_of (codes ":&!")) first))
    (λ i a b k. (
      k.6.start,
      ap (λ t. begins_text (slice_index t 0)) k.6.is ∙ ap begins_text (tag_first k.0 b.rest k.1 k.2 k.3),
    )) refl (other_than_colon 33 here.rest refl first) (λ a laws.
    let w = laws.tag f here y.2 y.0 y.1 first e in
    let place = ap (λ (u : Cursor). u.mark.col) w.6 in
    let some = tag_some w.0 w.1 w.2 w.4 in (
      λ no. absurd (cc),
      λ b _ _. let deep = a.0 (sym (same_block n c l r s) ∙ b) in inl (omega (arith, place, deep, some)),
      λ _ allowed. absurd (cc),
    ))
    (token_read c (tokens.Tag y.0 y.1) y.2 (λ laws. laws.tag f here y.2 y.0 y.1 first e)
    (λ laws. laws.tag f here y.2 y.0 y.1 first e) (λ laws _.
    let w = laws.tag f here y.2 y.0 y.1 first e in
    let E : Bool → Type 0 = λ g. EndsTag g y.2.rest in (
      w.0,
      w.1,
      w.2,
      w.4,
      sym w.7,
      sym w.8,
      record { is = w.3; start = refl; end = refl; goes_on = ap (λ (u : Cursor). u.mark) w.6 },
      subst E (same_flow n c l r s) w.5,
    )))))
