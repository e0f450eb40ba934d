-- What is held after a document's content and at the stream's end, and which texts are tokens of markers and
-- directives.
use Rattle.saphyr_scanner.proofs.Common.{◌≡◌, ℕ, Bool, true, false, List, [], ◌∷◌, ◌++◌, length, drop, None, refl, ap, ◌∙◌, arith, inl, inr, IsTrue, ◌&&◌, ◌==◌, nat_lt, slice_index, codes, nat_tests, is_break, is_z, is_document_start, is_document_end, is_document_indicator, next_2_are, next_3_are, Marker, Span, Cursor, pass_break, ReadDirective, break_len, eqb-true, and_parts, by_test, Given}
use Rattle.saphyr_input.specs.Classes.{is_one_of}
use Rattle.saphyr_scanner.specs.Grammar.Tokens as tokens
use Rattle.saphyr_scanner.specs.Grammar.Tokens.{Kind}
use Rattle.saphyr_scanner.specs.Steps.Queue.{next, empty_piece}
use Rattle.saphyr_scanner.specs.Steps.Core.{in_block, forget_key}
use Rattle.saphyr_scanner.specs.Steps.Level.{Level, is_block}
use Rattle.saphyr_scanner.specs.Steps.State.{State, with_core}
use Rattle.saphyr_scanner.specs.Steps.Unrolling.{unroll, end_blocks, end_block, with_outer_indent, go_less_deep}
use Rattle.saphyr_scanner.specs.Steps.Document as document
use Rattle.saphyr_scanner.specs.TokensInPlace.{is_of_flow_node}
use Rattle.saphyr_scanner.specs.TokensTaken as taken
use Rattle.saphyr_scanner.specs.TokensTaken.{Surroundings, AreApart, IsToken, IsPlaceOrEnd, begins_text, BeginsNoContent, IsContentEnd}
use Rattle.saphyr_scanner.proofs.Blocks.{unrolled_cursor}
use Rattle.saphyr_scanner.proofs.Taken.Parts.{is_quiet}
use Rattle.saphyr_scanner.proofs.Taken.Bare.{BeginsOther, other_begins, entry_closed, block_no_pair, is_plain, plain_fronts}
use Rattle.saphyr_scanner.proofs.Taken.Held.{enclosures_of, Setting, taken_further, is_unbound, unbound_parted, taken_put}
use Rattle.saphyr_scanner.proofs.Taken.Cores.{HoldsTaken, holds_forgotten, forget_requires, no_keys, outermost}
use Rattle.saphyr_scanner.proofs.Taken.Indented.{no_node_fits, indented_put}
use Rattle.saphyr_scanner.proofs.Taken.Neutral.{Neutral}
use Rattle.saphyr_scanner.proofs.Taken.States.{Fetched, TakenState, unroll_taken, blocks_levels, BlocksEnd}

abbrev pub HoldsState : Setting → Cursor → State → Type 0
HoldsState opened from s = HoldsTaken opened from s.core s.queue

-- a text begins where no content does
no_content_begins : (xs : List ℕ) → BeginsNoContent xs → IsTrue (begins_text (slice_index xs 0))
no_content_begins xs u0 = grind arith

pub content_ends : (s : Cursor) → IsContentEnd s → BlocksEnd None s.mark s
content_ends s (inl e) = (inl refl, ap (λ l. begins_text (slice_index l 0)) e, inl e)
content_ends s (inr e) = (inl refl, no_content_begins s.rest e.1, inr e)

no_content_other : (xs : List ℕ) → BeginsNoContent xs → is_one_of (codes ":&!") (slice_index xs 0) ≡ false
no_content_other xs u0 = grind arith

content_other : (s : Cursor) → IsContentEnd s → BeginsOther s
content_other s (inl e) = other_begins 0 s (ap (λ l. slice_index l 0) e) refl refl
content_other s (inr e) =
    other_begins (slice_index s.rest 0) s refl (no_content_begins s.rest e.1) (no_content_other s.rest e.1)

-- all block collections end
pub unrolled_indent : (m : Marker) (s : State) → in_block (unroll None m s).core ≡ true
    → (unroll None m s).core.indent ≡ 0
unfolding unroll
unrolled_indent m s = by_test (in_block s.core) _ _ (λ (t : State). in_block t.core ≡ true → t.core.indent ≡ 0)
    (λ _ _. all_end s.core.outer_indents (with_core (go_less_deep None s.core) s) refl) (λ e b. absurd (cc))
  where
    none_open : (n : ℕ) → nat_lt 0 n ≡ false → n ≡ 0
    none_open n e = grind (arith, nat_tests)

    all_end : (is : List ℕ) (t : State) → t.core.outer_indents ≡ is → (end_blocks None m is t).core.indent ≡ 0
    all_end [] t o = by_test (nat_lt 0 t.core.indent) _ _ (λ (u : State). u.core.indent ≡ 0)
        (λ _. ap (λ l. (with_outer_indent l t.core).indent) o) (λ e. none_open t.core.indent e)
    all_end (i ∷ is) t o = by_test (nat_lt 0 t.core.indent) _ _ (λ (u : State). u.core.indent ≡ 0)
        (λ _. all_end is (end_block m t) (ap (λ l. (with_outer_indent l t.core).outer_indents) o))
        (λ e. none_open t.core.indent e)

-- all block collections end, and no key is left
pub forgotten_unrolled : (opened : Setting) (from : Cursor) (s : State) → IsContentEnd s.core.cursor
    → (in_block (unroll None s.core.cursor.mark s).core && (unroll None s.core.cursor.mark s).core.required) ≡ false
    → HoldsState opened from s
    → HoldsTaken opened from (forget_key (unroll None s.core.cursor.mark s).core)
    (unroll None s.core.cursor.mark s).queue
unfolding unroll
forgotten_unrolled opened from s end free h =
    let m = s.core.cursor.mark in
    by_test (in_block s.core) (end_blocks None m s.core.outer_indents (with_core (go_less_deep None s.core) s)) s
    (λ t. (in_block t.core && t.core.required) ≡ false → TakenState opened from t
    → HoldsTaken opened from (forget_key t.core) t.queue) (λ e f k.
    let t : State = end_blocks None m s.core.outer_indents (with_core (go_less_deep None s.core) s) in
    let l = blocks_levels None m s.core.outer_indents (with_core (go_less_deep None s.core) s) in
    record {
      taken = taken_further (enclosures_of t.core) opened from t.core (forget_key t.core) t.queue (taken.nothing _ _)
          refl refl refl refl (
            (λ a. inl a),
            (λ r. r),
            entry_closed t.core (forget_key t.core) (block_no_pair
                t.core.level.context (ap (λ (y : Level). is_block y.context) l.level ∙ e)),
          ) (record {
            required = (forget_requires t.core f).required;
            root = λ r. absurd (let b = ap (λ (y : Level). is_block y.context) l.level ∙ e in cc);
            block = refl;
          }) k;
      keys = no_keys opened.enclosures (next t.queue) t.queue t.core.indent (forget_key t.core).level t.core.outer refl
          (l.outer ∙ outermost (enclosures_of s.core) opened from s.core s.queue h e)
          (ap (λ (y : Level). is_block y.context) l.level ∙ e);
    })
    (λ _ f k. holds_forgotten opened from s.core s.queue f (content_other s.core.cursor end) h) free
    (unroll_taken opened from None m s (content_ends s.core.cursor end) h.taken)

-- ## Markers

pub three_at : (x : ℕ) (xs : List ℕ) → (0 == x) ≡ false → next_3_are xs x x x ≡ true → xs ≡ x ∷ x ∷ x ∷ drop 3 xs
three_at x xs z e = grind arith

-- a document marker's token, with what has to come after it
pub record Marking (stands : List ℕ → Bool) (text : List ℕ) (kind : Kind) (Behind : List ℕ → Type 0) : Type 0 where
  pub quiet : is_quiet kind ≡ true
  pub keeps : (span : Span) → Neutral (record { span = span; kind = kind })
  pub is : (i : Surroundings) (span : Span) (s t : Cursor) → taken.IsMarker stands text span s t → Behind t.rest
      → IsToken i kind span s t
  pub three : (xs : List ℕ) → stands xs ≡ true → xs ≡ text ++ drop 3 xs
  pub ends : (xs : List ℕ) → stands xs ≡ true → is_document_indicator xs ≡ true
  pub count : length text ≡ 3
  pub no_node : (span : Span) → is_of_flow_node kind span ≡ false
  pub unbound : (span : Span) → is_unbound kind span ≡ true
  pub plain : is_plain kind ≡ true

pub start_marking : Marking is_document_start (codes "---") tokens.DocumentStart (λ _. Unit {0})
start_marking = grind arith

pub end_marking : Marking is_document_end (codes "...") tokens.DocumentEnd taken.EndsLine
end_marking = grind arith

-- ## Directives

pub break_apart : (s : Cursor) → AreApart s (pass_break s)
break_apart s = by_test (next_2_are s.rest 13 10) _ _ (AreApart s) (λ n. let two : break_len s.rest ≡ 2 = rw n refl in
    let c = ap is_break (eqb-true (slice_index s.rest 0) 13
    (and_parts (slice_index s.rest 0 == 13) (slice_index s.rest 1 == 10) n).0) in
    taken.line_break s.mark s.rest _ _ c (rw two (taken.nothing _ _)))
    (λ n. let one : break_len s.rest ≡ 1 = rw n refl in
    by_test (is_break (slice_index s.rest 0)) _ _ (AreApart s)
    (λ c. taken.line_break s.mark s.rest _ _ c (rw one (taken.nothing _ _))) (λ c. taken.nothing s.mark s.rest))

pub directive_is_token : (d : ReadDirective) (i : Surroundings) (span : Span) (s t : Cursor)
    → taken.IsDirectiveToken d span s t → IsToken i (document.directive_kind d) span s t
directive_is_token d i span s t h = grind arith

pub quiet_directive : (d : ReadDirective) → is_quiet (document.directive_kind d) ≡ true
quiet_directive d = grind arith

pub unbound_directive : (d : ReadDirective) (span : Span) → is_unbound (document.directive_kind d) span ≡ true
unbound_directive d span = grind arith

pub plain_directive : (d : ReadDirective) → is_plain (document.directive_kind d) ≡ true
plain_directive d = grind arith

pub no_node_directive : (d : ReadDirective) (span : Span) → is_of_flow_node (document.directive_kind d) span ≡ false
no_node_directive d span = grind arith

pub directive_keeps : (d : ReadDirective) (span : Span)
    → Neutral (record { span = span; kind = document.directive_kind d })
directive_keeps u0 span = grind arith

-- ## The end of the stream

pub end_place : (s : Cursor) → s.rest ≡ [] → IsPlaceOrEnd s (document.end_mark s.mark)
end_place s e = by_test (s.mark.col == 0) _ _ (IsPlaceOrEnd s) (λ _. inl refl) (λ _. inr (e, refl))

pub no_length : (xs : List ℕ) → (length xs == 0) ≡ true → xs ≡ []
no_length [] e = refl
no_length (c ∷ cs) e = absurd (let h : length (c ∷ cs) ≡ 0 = eqb-true (length (c ∷ cs)) 0 e in omega (arith, h))

-- The token of the stream's end. What is open in the block is ended first (`unroll_taken`), and a key that is
-- required is refused. The token has no text and stands at the text's end, or on the line behind it (`end_place`).
pub end_fetched : (opened : Setting) (from : Cursor) (s : State) → TakenState opened from s
    → Given (λ (t : State). Fetched opened from t.core t.queue) (document.state_behind_end s)
unfolding document.state_behind_end document.end_at
end_fetched opened from s h =
    let P : State → Type 0 = λ t. Fetched opened from t.core t.queue in
    let m : Marker = document.end_mark s.core.cursor.mark in
    let t : State = unroll None m s in
    by_test (length s.core.cursor.rest == 0) _ _ (Given P) (λ e.
    let empty = no_length s.core.cursor.rest e in
    let place = end_place s.core.cursor empty in
    let first = ap (λ l. begins_text (slice_index l 0)) empty in
    let same : t.core.cursor ≡ s.core.cursor = unrolled_cursor None m s in
    let there : IsPlaceOrEnd t.core.cursor m = rw same place in
    let over = ap (λ (c : Cursor). is_z (slice_index c.rest 0)) same ∙ ap (λ l. is_z (slice_index l 0)) empty in
    by_test s.core.required _ _ (Given P) (λ _. tt)
    (λ _. record {
      taken = taken_put (enclosures_of t.core) opened from t.core (document.core_at_end t.core) t.queue
          (empty_piece m tokens.StreamEnd) t.core.cursor (λ _ _.
          (ap (λ (c : Cursor). c.rest) same ∙ empty, (refl, there, refl))) (taken.nothing _ _)
          (λ cs k. k) (inl refl) refl
          (unbound_parted (empty_piece m tokens.StreamEnd) t.core (document.core_at_end t.core) refl
          (plain_fronts (empty_piece m tokens.StreamEnd) t.core (document.core_at_end t.core) refl))
          (λ _ _ _. inr (inl over)) (indented_put opened.enclosures t.core (document.core_at_end t.core) t.queue
          (empty_piece m tokens.StreamEnd)
          (no_node_fits opened.enclosures t.queue (empty_piece m tokens.StreamEnd) refl)
          (record { required = refl; root = λ _. refl; block = refl }) (λ _ _ _ _. inr over))
          (unroll_taken opened from None m s (place, first, inl empty) h);
      live = λ f. absurd (cc);
    }))
    (λ _. tt)
