-- What is known between tokens: after a block scalar a candidate is too far in front to be a key.
use Rattle.saphyr_scanner.proofs.Common.{◌≡◌, ℕ, ◌^◌, ◌≤◌, ◌<◌, ◌⊎◌, Bool, true, false, List, [], ◌∷◌, length, Option, Ok, Some, None, refl, sym, ap, ◌∙◌, arith, subst, inl, inr, IsTrue, is_z, BlockStyle, Marker, Span, Cursor, start_cursor, Piece, by_test, lt-ltb}
use Rattle.std.specs.Prelude.{◌&&◌, slice_index}
use Rattle.saphyr_scalar.specs.Steps.Block as blocks
use Rattle.saphyr_scanner.specs.Grammar.Tokens as tokens
use Rattle.saphyr_scanner.specs.Steps.Queue.{Place, Queue, bare_place, with_piece, next, empty_piece}
use Rattle.saphyr_scanner.specs.Steps.Core.{Core, Step, perform, in_block, is_too_far}
use Rattle.saphyr_scanner.specs.Steps.Level.{Candidate, Level, is_block}
use Rattle.saphyr_scanner.specs.Steps.Passing.{with_cursor}
use Rattle.saphyr_scanner.specs.Steps.Scalar as scalar
use Rattle.saphyr_scanner.specs.Steps.State.{State, with_core}
use Rattle.saphyr_scanner.specs.Steps.Unrolling.{unroll, end_blocks, end_block, is_right_of, with_outer_indent, go_less_deep}
use Rattle.saphyr_scanner.specs.TokensTaken as taken
use Rattle.saphyr_scanner.specs.TokensTaken.{AreTokens, IsToken, IsBlockScalarToken, IsPlaceOrEnd, begins_text, IsContentEnd, IsBlockEnd}
use Rattle.saphyr_scanner.specs.TokensInPlace as place
use Rattle.saphyr_scanner.specs.TokensInPlace.{Enclosures, with_begun, enclosures_behind, is_flow_style, without_innermost, block_ended}
use Rattle.saphyr_scanner.proofs.Taken.KeysInPlace.{calm}
use Rattle.saphyr_scanner.proofs.Blocks.{block_cursor, go_less_deep_cursor}
use Rattle.saphyr_scanner.proofs.Leads.{flat}
use Rattle.saphyr_scanner.proofs.Taken.Later.{top, Later, LaterThan, later_later, apart_later}
use Rattle.saphyr_scanner.proofs.Taken.Places.{token_later, tokens_later}
use Rattle.saphyr_scanner.proofs.Taken.Parts.{tokens_part}
use Rattle.saphyr_scanner.proofs.Taken.Bare.{plain_fronts, entry_same}
use Rattle.saphyr_scanner.proofs.Taken.Held.{Stack, stands_same, enclosures_of, Setting, Taken, taken_within, taken_further, unbound_parted, taken_put}
use Rattle.saphyr_scanner.proofs.Taken.Indented.{IsRight, IsPastLine, KeepsRequired, no_node_fits, indented_put}
use Rattle.saphyr_scanner.proofs.Taken.Keys.{Key, Keys, IsArrival}
use Rattle.saphyr_scanner.proofs.Taken.Cores.{HoldsTaken, no_keys, outermost}
use Rattle.saphyr_scanner.proofs.Taken.SavedKeys.{IsSaved, Saved, saved_indented, saved_enclosures, apart_same, key_known}
use Rattle.saphyr_scanner.proofs.Effects.Readers.{TextLaws}
use Rattle.saphyr_scanner.proofs.Queues.{flat_append}

-- ## Lines

-- no text has as many lines as can't be counted
pub line_small : (text : List ℕ) (s : Cursor) → length text < 2 ^ 63 → LaterThan (start_cursor text) s
    → s.mark.line < top
line_small text s h l = omega (arith, l.slow, l.counted)

-- where a candidate is
pub record CandidateStands (k : Candidate) (c : Core) : Type 0 where
  pub text : List ℕ
  pub small : k.mark.line ≤ top
  pub later : Later k.mark text c.cursor.mark c.cursor.rest

pub taken_later : (opened : Setting) (from : Cursor) (c : Core) (q : Queue) → Taken opened from c q
    → LaterThan from c.cursor
taken_later opened from c q h = grind (arith, later_later, tokens_later, flat, apart_later)

pub key_stands : (opened : Setting) (from : Cursor) (c : Core) (q : Queue) (b : ℕ) (block : Bool) (i : ℕ)
    (k : Candidate) → from.mark.line ≤ top → Taken opened from c q → Key opened.enclosures 0 b q block i k
    → CandidateStands k c
key_stands opened from c q b block i k l h x =
    let P : List Place → Type 0 = λ ps. AreTokens opened.collections (flat ps) from h.last in
    let Q : List Piece → Type 0 = λ ps. AreTokens opened.collections ps from h.last in
    let r = tokens_part opened.collections (flat x.front) (x.token ∷ flat x.back) from h.last
    (subst Q (flat_append x.front (bare_place x.token ∷ x.back)) (subst P x.places h.tokens)) in
    let here = r.back.0 in
    let behind = r.back.1 in
    let same : here.mark ≡ k.mark = sym (x.begins _ here behind r.back.3).0 ∙ x.marked in
    let first = later_later from.mark from.rest r.between.mark r.between.rest here.mark here.rest
    (tokens_later opened.collections (flat x.front) from r.between r.front)
    (apart_later r.between.mark r.between.rest here.mark here.rest r.back.2) in
    let one = token_later _ x.token.kind x.token.span here behind r.back.3 in
    let others = tokens_later _ (flat x.back) behind h.last r.back.4 in
    let last = apart_later h.last.mark h.last.rest c.cursor.mark c.cursor.rest h.apart in
    let all = later_later here.mark here.rest behind.mark behind.rest c.cursor.mark c.cursor.rest one
    (later_later behind.mark behind.rest h.last.mark h.last.rest c.cursor.mark c.cursor.rest others last) in
    let M : Marker → Type 0 = λ m. m.line ≤ top in
    let N : Marker → Type 0 = λ m. Later m here.rest c.cursor.mark c.cursor.rest in
    record { text = here.rest; small = subst M same (first.lines l).1; later = subst N same all }

-- ## What is known after a token

-- at NUL and the end of the text no candidate counts
abbrev pub Live : Enclosures → Core → Queue → Type 0
Live all c q = is_z (slice_index c.cursor.rest 0) ≡ false → Keys all (next q) q c.indent (c.level ∷ c.outer)

abbrev pub IsFar : Core → Type 0
IsFar c = ((in_block c && is_too_far c.level.key c.cursor.mark) ≡ true) × (c.outer ≡ [])

pub record Fetched (opened : Setting) (from : Cursor) (c : Core) (q : Queue) : Type 0 where
  pub taken : Taken opened from c q
  pub live : c.ended ≡ false → Live opened.enclosures c q ⊎ IsFar c

pub holds_fetched : (opened : Setting) (from : Cursor) (c : Core) (q : Queue) → HoldsTaken opened from c q
    → Fetched opened from c q
holds_fetched opened from c q h = record { taken = h.taken; live = λ e. inl (λ f. h.keys) }

abbrev pub FetchedStep : Setting → Cursor → Queue → Step → Type 0
FetchedStep opened from q x = Fetched opened from x.core (perform x.actions q)

-- ## Block scalars

block_token : (style : BlockStyle) (i : ℕ) (b : Bool) (value : List ℕ) (span : Span) (s t : Cursor)
    → IsBlockScalarToken style i value span s t
    → IsToken (record { in_flow = false; indent = i; ends_json = b }) (tokens.Scalar (scalar.style_of style) value) span
    s t
block_token style i b value span s t h = grind arith

pub too_far : (k : Candidate) (m : Marker) → k.mark.line < m.line → is_too_far (Some k) m ≡ true
too_far k m h = let e = lt-ltb k.mark.line m.line h in rw e refl

far_of : (c : Core) (o : Option Candidate) → c.level.key ≡ o → in_block c ≡ true → (k : Candidate) → o ≡ Some k
    → k.mark.line < c.cursor.mark.line → (in_block c && is_too_far c.level.key c.cursor.mark) ≡ true
far_of c o e b k f l = rw b (ap (λ x. is_too_far x c.cursor.mark) (e ∙ f) ∙ too_far k c.cursor.mark l)

-- a saved key is here or before
key_line : (opened : Setting) (from : Cursor) (q : Queue) (c d : Core) → from.mark.line ≤ top → Saved (next q) c d
    → HoldsTaken opened from c q → (k : Candidate) → d.level.key ≡ Some k → k.mark.line ≤ d.cursor.mark.line
key_line opened from q c d l s h k i = by s.level
  where
    same : d.cursor.mark.line ≡ c.cursor.mark.line
    same = ap (λ (y : Cursor). y.mark.line) s.cursor

    old : (o : Option Candidate) → c.level.key ≡ o → o ≡ Some k → k.mark.line ≤ d.cursor.mark.line
    old o e f =
        let known = key_known opened.enclosures (next q) q (is_block c.level.context) c.indent c.level.key k c.outer
        (e ∙ f) h.keys.1 h.keys.2 in
        let stands = key_stands opened from c q (next q) (is_block c.level.context) c.indent k l h.taken known.0 in
        let u = same in omega (arith, (stands.later.lines stands.small).0, u)

    by : IsSaved (next q) c d.level d.required → k.mark.line ≤ d.cursor.mark.line
    by (inl (g, _, _)) = old d.level.key (ap (λ (y : Level). y.key) (sym g)) i
    by (inr (g, _, _)) =
        let m : Some (record { mark = c.cursor.mark; place = next q }) ≡ Some k =
        sym (ap (λ (y : Level). y.key) g) ∙ i in
        let line : Option Candidate → ℕ = λ o. elim o [ None ↦ 0 | Some y ↦ y.mark.line ] in
        let n : c.cursor.mark.line ≡ k.mark.line = ap line m in
        let u = same in omega (arith, n, u)

no_flow_style : (style : BlockStyle) → is_flow_style (scalar.style_of style) ≡ false
no_flow_style style = grind arith

-- behind a block scalar a key may begin
block_calm : (style : BlockStyle) (value : List ℕ) (span : Span) (all : Enclosures)
    → calm (enclosures_behind (tokens.Scalar (scalar.style_of style) value) span all) ≡ with_begun place.Nothing all
block_calm style value span all = grind arith

-- A block scalar's token. The reader's two promises give its spelling and the places that it passes. It is read
-- outside brackets alone, so no level is around (`outermost`). A candidate that it leaves behind is too far, as the
-- scalar goes over a line's end (`far_of`), or else the text is at its end.
pub block_fetched : TextLaws → (text : List ℕ) → length text < 2 ^ 63
    → {opened : Setting} {from : Cursor} {q : Queue} {c d : Core} (style : BlockStyle)
    → LaterThan (start_cursor text) from → Saved (next q) c d → d.adjacent ≡ c.adjacent → d.key_allowed ≡ true
    → IsArrival c → HoldsTaken opened from c q → in_block c ≡ true → in_block d ≡ true
    → slice_index c.cursor.rest 0 ≡ taken.block_indicator style → (x : List ℕ × Span × Cursor)
    → blocks.block_scalar style c.indent c.cursor ≡ Ok x
    → Fetched opened from (with_cursor x.2 d) (with_piece (record {
      span = record { start = x.1.start; end = x.1.end };
      kind = tokens.Scalar (scalar.style_of style) x.0;
    }) q)
block_fetched laws text small {opened} {from} {q} {c} {d} style l s stays allowed arrival h b bd first x e =
    let p = laws.block_place style c.indent c.cursor x.2 x.0 x.1 first e in
    let piece : Piece = record {
      span = record { start = x.1.start; end = x.1.end };
      kind = tokens.Scalar (scalar.style_of style) x.0;
    } in
    let is : IsBlockScalarToken style c.indent x.0 x.1 c.cursor x.2 =
    record {
      begins = first;
      reading = laws.block_text style c.indent c.cursor x.2 x.0 x.1 first e;
      passes = p.passes;
      end = p.end;
    } in
    let e2 : Core = with_cursor x.2 d in
    let from_small : from.mark.line ≤ top = (l.lines (omega arith)).1 in
    let none : c.outer ≡ [] = outermost (enclosures_of c) opened from c q h b in
    let by : (o : Option Candidate) → d.level.key ≡ o → c.cursor.mark.line < x.2.mark.line
    → (Live opened.enclosures e2 (with_piece piece q)) ⊎ (IsFar e2) =
    λ o g less. elim o as (λ y. d.level.key ≡ y → (Live opened.enclosures e2 (with_piece piece q)) ⊎ (IsFar e2)) [
      | None ↦ λ i. inl (λ nz. no_keys opened.enclosures (next (with_piece piece q)) (with_piece piece q) d.indent
          d.level d.outer i (s.outer ∙ none) bd)
      | Some k ↦ λ i. inr (
        far_of e2 (Some k) i bd k refl
            (let w = key_line opened from q c d from_small s h k i in
            let line = ap (λ (u : Cursor). u.mark.line) s.cursor in omega (arith, w, line, less)),
        s.outer ∙ none,
      )
    ] g in
    record {
      taken = taken_within (calm (enclosures_behind piece.kind piece.span (enclosures_of c))) (enclosures_of e2) opened
          from e2 (with_piece piece q)
          (saved_enclosures (next q) c d s ∙ sym (block_calm style x.0 piece.span (enclosures_of c)))
          (taken_put (enclosures_of c) opened from c e2 q piece x.2
          (λ i _. rw none (block_token style c.indent i x.0 x.1 c.cursor x.2 is)) (taken.nothing _ _)
          (λ cs k. stands_same cs c e2 s.indent s.outer_indents (ap length s.outer) k) (inl stays) refl
          (unbound_parted piece c e2 (rw (no_flow_style style) refl) (plain_fronts piece c e2 refl))
          (λ _ f. absurd (cc))
          (saved_indented opened from c d e2 q piece s refl refl arrival
          (λ n. absurd (let f = no_flow_style style in cc)) (λ _ _ _. p.line arrival.2) h) h.taken);
      live = λ _. elim (p.line arrival.2) [ inl less ↦ by d.level.key refl less | inr z ↦ inl (λ nz. absurd (cc)) ];
    }

-- ## Block collections end

-- the levels stay, and whether a key has to be one
pub record Levels (c d : Core) : Type 0 where
  pub level : d.level ≡ c.level
  pub outer : d.outer ≡ c.outer
  pub required : d.required ≡ c.required

outer_indent_levels : (is : List ℕ) (c : Core) → Levels c (with_outer_indent is c)
outer_indent_levels [] c = record { level = refl; outer = refl; required = refl }
outer_indent_levels (i ∷ is) c = record { level = refl; outer = refl; required = refl }

outer_indent_stays : (is : List ℕ) (c : Core) → (with_outer_indent is c).adjacent ≡ c.adjacent
outer_indent_stays is c = grind arith

outer_indent_stack : (is columns : List ℕ) (c : Core) → Stack columns c.indent is
    → Stack (without_innermost columns) (with_outer_indent is c).indent (with_outer_indent is c).outer_indents
outer_indent_stack u0 u1 c h = grind arith

-- what encloses the tokens after an end
ended_enclosures : (column : Option ℕ) (m : Marker) (s : State) → is_right_of column s.core.indent ≡ true
    → enclosures_of (end_block m s).core ≡ block_ended (enclosures_of s.core)
ended_enclosures column m s e = grind arith

abbrev pub TakenState : Setting → Cursor → State → Type 0
TakenState opened from s = Taken opened from s.core s.queue

-- why block collections end here: what is here is at the column that is given, or no content
abbrev pub EndsBlocks : Option ℕ → Cursor → Type 0
EndsBlocks None s = IsContentEnd s
EndsBlocks (Some column) s = column ≡ s.mark.col

-- at a place after separation
abbrev pub BlocksEnd : Option ℕ → Marker → Cursor → Type 0
BlocksEnd column m s = IsPlaceOrEnd s m × IsTrue (begins_text (slice_index s.rest 0)) × EndsBlocks column s

blocks_end_same : (column : Option ℕ) (m : Marker) (s t : Cursor) → t ≡ s → BlocksEnd column m s → BlocksEnd column m t
blocks_end_same column m s t e p = let P : Cursor → Type 0 = λ u. BlocksEnd column m u in subst P (sym e) p

block_end : (column : Option ℕ) (m : Marker) (i : ℕ) (s : Cursor) → is_right_of column i ≡ true
    → BlocksEnd column m s → IsBlockEnd i (record { start = m; end = m }) s s
block_end u0 m i s e u1 = grind arith

levels_kept : (c d : Core) → Levels c d → KeepsRequired c d
levels_kept c d l = grind arith

outer_indent_past : (n : ℕ) (is : List ℕ) (c : Core) → IsPastLine n c → IsPastLine n (with_outer_indent is c)
outer_indent_past n [] c h = h
outer_indent_past n (i ∷ is) c h = h

-- where a block collection ends the text doesn't go on right of its column
block_ends_right : (column : Option ℕ) (m : Marker) (is : List ℕ) (c : Core) → is_right_of column c.indent ≡ true
    → BlocksEnd column m c.cursor → IsRight c → IsRight (with_outer_indent is c)
block_ends_right column m is c e u0 h = grind arith

block_taken : (opened : Setting) (from : Cursor) (column : Option ℕ) (m : Marker) (s : State)
    → is_right_of column s.core.indent ≡ true → BlocksEnd column m s.core.cursor → TakenState opened from s
    → TakenState opened from (end_block m s)
block_taken opened from column m s e p h =
    taken_within (block_ended (enclosures_of s.core)) (enclosures_of (end_block m s).core) opened from
    (end_block m s).core (end_block m s).queue (ended_enclosures column m s e)
    (taken_put (enclosures_of s.core) opened from s.core (end_block m s).core s.queue (empty_piece m tokens.BlockEnd)
    s.core.cursor (λ _ _. block_end column m s.core.indent s.core.cursor e p)
    (apart_same s.core.cursor (end_block m s).core.cursor (block_cursor m s))
    (λ x k. (
      outer_indent_stack s.core.outer_indents x.columns s.core k.0,
      k.1 ∙ sym (ap length (outer_indent_levels s.core.outer_indents s.core).outer),
    )) (inl (outer_indent_stays s.core.outer_indents s.core)) refl
    (unbound_parted (empty_piece m tokens.BlockEnd) s.core (end_block m s).core refl
    (plain_fronts (empty_piece m tokens.BlockEnd) s.core (end_block m s).core refl))
    (block_ends_right column m s.core.outer_indents s.core e p h.right)
    (indented_put opened.enclosures s.core (end_block m s).core s.queue (empty_piece m tokens.BlockEnd)
    (no_node_fits opened.enclosures s.queue (empty_piece m tokens.BlockEnd) refl)
    (levels_kept s.core (end_block m s).core (outer_indent_levels s.core.outer_indents s.core))
    (λ w. outer_indent_past w.key.mark.line s.core.outer_indents s.core w.past)) h)

blocks_taken : (opened : Setting) (from : Cursor) (column : Option ℕ) (m : Marker) (is : List ℕ) (s : State)
    → BlocksEnd column m s.core.cursor → TakenState opened from s → TakenState opened from (end_blocks column m is s)
blocks_taken opened from column m [] s p h = by_test (is_right_of column s.core.indent) _ _ (TakenState opened from)
    (λ e. block_taken opened from column m s e p h) (λ _. h)
blocks_taken opened from column m (i ∷ is) s p h =
    by_test (is_right_of column s.core.indent) _ _ (TakenState opened from)
    (λ e. blocks_taken opened from column m is (end_block m s)
    (blocks_end_same column m s.core.cursor (end_block m s).core.cursor (block_cursor m s) p)
    (block_taken opened from column m s e p h)) (λ _. h)

go_less_deep_taken : (opened : Setting) (from : Cursor) (column : Option ℕ) (s : State) → TakenState opened from s
    → TakenState opened from (with_core (go_less_deep column s.core) s)
go_less_deep_taken opened from None s h =
    taken_further (enclosures_of s.core) opened from s.core (go_less_deep None s.core) s.queue
    (taken.nothing _ _) refl refl refl refl (
      (λ a. inl a),
      (λ k. k),
      entry_same s.core (go_less_deep None s.core) refl (λ a. a) (taken.nothing _ _),
    )
    (record { required = refl; root = λ _. refl; block = refl }) h
go_less_deep_taken opened from (Some column) s h =
    taken_further (enclosures_of s.core) opened from s.core (go_less_deep (Some column) s.core) s.queue
    (taken.nothing _ _) refl refl refl refl (
      (λ a. inl a),
      (λ k. k),
      entry_same s.core (go_less_deep (Some column) s.core) refl (λ a. a) (taken.nothing _ _),
    )
    (record { required = refl; root = λ _. refl; block = refl }) h

pub unroll_taken : (opened : Setting) (from : Cursor) (column : Option ℕ) (m : Marker) (s : State)
    → BlocksEnd column m s.core.cursor → TakenState opened from s → TakenState opened from (unroll column m s)
unfolding unroll
unroll_taken opened from column m s p h =
    let t : State = with_core (go_less_deep column s.core) s in
    by_test (in_block s.core) _ _ (TakenState opened from)
    (λ _. blocks_taken opened from column m s.core.outer_indents t
    (blocks_end_same column m s.core.cursor t.core.cursor (go_less_deep_cursor column s.core) p)
    (go_less_deep_taken opened from column s h)) (λ _. h)

levels_levels : (c d e : Core) → Levels c d → Levels d e → Levels c e
levels_levels c d e a b =
    record { level = b.level ∙ a.level; outer = b.outer ∙ a.outer; required = b.required ∙ a.required }

pub blocks_levels : (column : Option ℕ) (m : Marker) (is : List ℕ) (s : State)
    → Levels s.core (end_blocks column m is s).core
blocks_levels column m [] s = by_test (is_right_of column s.core.indent) _ _ (λ (t : State). Levels s.core t.core)
    (λ _. outer_indent_levels s.core.outer_indents s.core) (λ _. record { level = refl; outer = refl; required = refl })
blocks_levels column m (i ∷ is) s = by_test (is_right_of column s.core.indent) _ _ (λ (t : State). Levels s.core t.core)
    (λ _. levels_levels s.core (end_block m s).core (end_blocks column m is (end_block m s)).core
    (outer_indent_levels s.core.outer_indents s.core) (blocks_levels column m is (end_block m s)))
    (λ _. record { level = refl; outer = refl; required = refl })

pub unrolled_required : (column : Option ℕ) (m : Marker) (s : State)
    → (unroll column m s).core.required ≡ s.core.required
unfolding unroll
unrolled_required column m s = grind (arith, blocks_levels)
