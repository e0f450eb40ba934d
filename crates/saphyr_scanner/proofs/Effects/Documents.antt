-- What each step of documents does: markers, byte order marks and directives.
use Rattle.saphyr_scanner.proofs.Common.{◌≡◌, ℕ, ◌+◌, ◌<◌, Bool, true, false, List, [], ◌∷◌, ◌++◌, length, drop, None, Result, Ok, Err, refl, sym, ap, ◌∙◌, arith, subst, inl, inr, ◌&&◌, ◌||◌, ◌==◌, slice_index, not, nat_lt, codes, is_bom, is_break, is_breakz, is_blank_or_breakz, byte_order_mark, is_document_start, is_document_end, next_3_are, SkipTabs, Marker, Span, Refusal, Cursor, ◌>>=◌, along, pass, pass_break, ReadDirective, mid_line, along_more, cut_at, by_test, or_false_left, breakz_no_non_break, Given, eqb-true, and_parts, nat_tests, percent_sign}
use Rattle.saphyr_scalar.specs.Steps.Directive as directives
use Rattle.saphyr_scanner.specs.Grammar.Tokens as tokens
use Rattle.saphyr_scanner.specs.Grammar.Tokens.{Kind}
use Rattle.saphyr_scanner.specs.Steps.Core.{Core, Step, from_to, up_to_here, perform, in_block, forget_key, remove_key, completed_step}
use Rattle.saphyr_scanner.specs.Steps.Passing.{separate, with_cursor}
use Rattle.saphyr_scanner.specs.Steps.State.{State, on_core, on_core_with, after_step}
use Rattle.saphyr_scanner.specs.Steps.Unrolling.{unroll}
use Rattle.saphyr_scanner.specs.Steps.Document as document
use Rattle.saphyr_scanner.specs.TokensInPlace.{is_of_flow_node}
use Rattle.saphyr_scanner.specs.TokensTaken as taken
use Rattle.saphyr_scanner.specs.TokensTaken.{AreApart, IsReached, IsToken, IsContentEnd, EndsLine}
use Rattle.saphyr_scanner.proofs.Added.Queue.{IsNoEnd}
use Rattle.saphyr_scanner.proofs.Blocks.{unrolled_cursor, unrolled_comment}
use Rattle.saphyr_scanner.proofs.Counted.{stays, text_passed}
use Rattle.saphyr_scanner.proofs.Effects.Moves.{Does, and_then, NoComment, Same, right_before, still, further}
use Rattle.saphyr_scanner.proofs.Effects.Puts.{Reading, quiet}
use Rattle.saphyr_scanner.proofs.Effects.Walked.{Premises, Walked, walked_then, at_most, resting, unsaved_step, at_reach, at_inside, read_walked, separate_walked}
use Rattle.saphyr_scanner.proofs.Effects.Readers.{TextLaws}
use Rattle.saphyr_scanner.proofs.Effects.States.{FetchesTokens, advances_advances, on_core_fetches, after_step_fetches, unroll_advances}
use Rattle.saphyr_scanner.proofs.Effects.Steps.{begins_none, begins_forgotten}
use Rattle.saphyr_scanner.proofs.LineTails.{OnLine, tail_apart}
use Rattle.saphyr_scanner.proofs.Reached.{along_reached, apart_reached}
use Rattle.saphyr_scanner.proofs.Taken.Documents.{HoldsState, unrolled_indent, forgotten_unrolled, three_at, Marking, start_marking, end_marking, break_apart, directive_is_token, directive_keeps, quiet_directive, no_node_directive, unbound_directive, plain_directive}
use Rattle.saphyr_scanner.proofs.Taken.Bare.{is_plain, entry_same}
use Rattle.saphyr_scanner.proofs.Taken.Cores.{surroundings}
use Rattle.saphyr_scanner.proofs.Taken.Neutral.{Neutral, neutral}
use Rattle.saphyr_scanner.proofs.Taken.Held.{Setting, is_unbound}
use Rattle.saphyr_scanner.proofs.Taken.Later.{apart_later}
use Rattle.saphyr_scanner.proofs.Taken.Indented.{IsRight, stays_no_node}
use Rattle.saphyr_scanner.proofs.Taken.Parts.{is_quiet}
use Rattle.saphyr_scanner.proofs.Taken.Places.{Reaches, reaches_reaches, At, at_here}
use Rattle.saphyr_scanner.proofs.Taken.Separated.{apart_apart}

-- from s to t, at the same place, the content of a document ends
record Content (s t : State) : Type 0 where
  advances : FetchesTokens 0 s t
  cursor : t.core.cursor ≡ s.core.cursor
  comment : NoComment s.core t.core
  no_key : t.core.level.key ≡ None
  indent : in_block t.core ≡ true → t.core.indent ≡ 0
  holds : (opened : Setting) (from : Cursor) → HoldsState opened from s → HoldsState opened from t

content_walked : (s : State) → IsContentEnd s.core.cursor
    → Walked (Premises s.core) (Content s) s.core.cursor (document.end_content s)
unfolding document.end_content remove_key
content_walked s end =
    let u : State = unroll None s.core.cursor.mark s in
    let there = unrolled_cursor None s.core.cursor.mark s in
    by_test (in_block u.core && u.core.required) _ _
    (λ r. Walked (Premises s.core) (Content s) s.core.cursor (on_core r u.queue))
    (λ _ _. let P : Cursor → Type 0 = λ v. At s.core.cursor v.mark in subst P (sym there) (at_here s.core.cursor))
    (λ free. record {
      advances = advances_advances 0 0 s u _ (unroll_advances None s.core.cursor.mark s refl)
          (on_core_fetches u (Ok (forget_key u.core))
          (stays u.core.cursor u.core.cursor refl, begins_forgotten 0 u.core u.core (begins_none u.core)));
      cursor = there;
      comment = λ n. unrolled_comment None s.core.cursor.mark s ∙ n;
      no_key = refl;
      indent = unrolled_indent s.core.cursor.mark s;
      holds = λ opened from h. forgotten_unrolled opened from s end free h;
    })

-- from s to t a token is put, which is taken from the text
pub record Documented (s t : State) : Type 0 where
  pub advances : FetchesTokens 1 s t
  pub holds : TextLaws → (opened : Setting) (from : Cursor) → HoldsState opened from s → HoldsState opened from t
  pub comment : NoComment s.core t.core

-- after the content, a step that saves no key
documented : (s t : State) (x : Step) → Content s t → NoComment t.core x.core
    → Does (Unit {0}) None 1 5 t.core x.core x.actions
    → Documented s (record { core = x.core; queue = perform x.actions t.queue })
documented s t x c m d = record {
  advances = advances_advances 0 1 s t _ c.advances
      (after_step_fetches _ t (Ok x) (unsaved_step (Unit {0}) 0 t.core t.core.cursor (Ok x) (resting d)).effect);
  holds = λ laws opened from h. d.holds tt laws opened from t.queue tt (c.holds opened from h);
  comment = λ n. m (c.comment n);
}

-- the token of a text that is here
spelled : {A : Type 0} (c d : Core) → c.level.key ≡ None → (kind : Kind) (text : List ℕ)
    → c.cursor.rest ≡ text ++ d.cursor.rest
    → d.cursor.mark.index ≡ c.cursor.mark.index + length text → 0 < length text → is_quiet kind ≡ true
    → ((span : Span) → Neutral (record { span = span; kind = kind }))
    → ((span : Span) → is_of_flow_node kind span ≡ false) → IsNoEnd kind
    → ((span : Span) → is_unbound kind span ≡ true) → is_plain kind ≡ true
    → Same c d → IsRight d → ((b : Bool)
    → IsToken (surroundings b c) kind (record { start = c.cursor.mark; end = d.cursor.mark }) c.cursor d.cursor)
    → Does A None 1 5 c d (up_to_here c.cursor.mark kind d ∷ [])
spelled c d none kind text is i some q b node e unbound plain s right token =
    let u = d.cursor in
    let a = text_passed c.cursor u text is i in
    at_most (omega arith) (and_then (λ n. n)
    (quiet 1 c (record { span = record { start = c.cursor.mark; end = u.mark }; kind = kind }) u d.key_allowed q
    (b (record { start = c.cursor.mark; end = u.mark })) (node (record { start = c.cursor.mark; end = u.mark })) none e
    (unbound (record { start = c.cursor.mark; end = u.mark })) plain (λ _. right_before c d u s refl right)
    (record {
      less = λ _. omega (arith, a.counted, i, some);
      span = λ _. record { ahead = a; begins = omega arith; inside = a.later; ends = omega arith };
      token = λ _. (u, (λ b _. token b), taken.nothing u.mark u.rest);
    }))
    (still (record c { cursor = u; key_allowed = d.key_allowed }) d s refl (λ _. (
      (λ a. inl a),
      (λ _. right),
      entry_same (record c { cursor = u; key_allowed = d.key_allowed }) d s.0 (λ a. a) (taken.nothing u.mark u.rest),
    ))))

-- after blanks and a comment the text goes on as far right, or there is no node still
tail_right : (c d : Core) → Same c d → OnLine c.cursor d.cursor → d.key_allowed ≡ c.key_allowed → IsRight c → IsRight d
tail_right c d s o allowed h b f small = grind (arith, stays_no_node)

-- ## Markers

-- from s to t a marker was passed, whose token is put if what comes after it allows that
abbrev Marked : (List ℕ → Type 0) → State → State → Type 0
Marked After s t = (After t.core.cursor.rest → Documented s t) × (t.core.cursor ≡ pass 3 s.core.cursor)

-- The token of `---` or `...`, which `marking` tells apart. First the content ends (`content_walked`), so what is
-- shown of the marker is shown of the state that is left. There the marker still stands, its three characters end no
-- line, and its token is put behind those of the content. What has to follow it is left open (`After`), since a line
-- may end in more than one way behind it.
pub marker_walked : (stands : List ℕ → Bool) (text : List ℕ) (kind : Kind) (After : List ℕ → Type 0)
    → Marking stands text kind After → IsNoEnd kind → (s : State) → s.core.cursor.mark.col ≡ 0
    → stands s.core.cursor.rest ≡ true
    → Walked (Premises s.core) (Marked After s) s.core.cursor (document.state_behind_marker kind s)
unfolding document.state_behind_marker
marker_walked stands text kind After marking no_end s col e = walked_then (Premises s.core) (Content s)
    (Marked After s) s.core.cursor (document.end_content s) _
    (content_walked s (inr (col, inl (marking.ends s.core.cursor.rest e)))) (λ t c.
    let d : Core = document.pass_marker t.core in
    let stand : stands t.core.cursor.rest ≡ true = ap (λ (u : Cursor). stands u.rest) c.cursor ∙ e in
    let three = marking.three t.core.cursor.rest stand in
    let goes : d.cursor.mark ≡ along t.core.cursor.mark (length text) = cc in
    let token : taken.IsMarker stands text (record { start = t.core.cursor.mark; end = d.cursor.mark }) t.core.cursor
    d.cursor = (
      ap (λ (u : Cursor). u.mark.col) c.cursor ∙ col,
      stand,
      record { is = three; start = refl; end = refl; goes_on = goes },
    ) in (
      λ after. documented s t (record { core = d; actions = up_to_here t.core.cursor.mark kind d ∷ [] }) c (λ n. n)
          (spelled t.core d c.no_key kind text three (let k = marking.count in omega (arith, k))
          (let k = marking.count in omega (arith, k)) marking.quiet marking.keeps marking.no_node no_end marking.unbound
          marking.plain
          (refl, refl, (λ n. n), refl) (λ i _ _. inl (let left = c.indent i in omega (arith, left)))
          (λ b. marking.is (surroundings b t.core) _ t.core.cursor d.cursor token after)),
      ap (pass 3) c.cursor,
    ))

pub start_walked : (s : State) → s.core.cursor.mark.col ≡ 0 → is_document_start s.core.cursor.rest ≡ true
    → Walked (Premises s.core) (Documented s) s.core.cursor (document.state_behind_marker tokens.DocumentStart s)
start_walked s col e = weaker (document.state_behind_marker tokens.DocumentStart s)
    (marker_walked is_document_start (codes "---") tokens.DocumentStart (λ _. Unit {0}) start_marking
    (λ i. absurd (cc)) s col e)
  where
    weaker : (r : Result State Refusal) → Walked (Premises s.core) (Marked (λ _. Unit {0}) s) s.core.cursor r
        → Walked (Premises s.core) (Documented s) s.core.cursor r
    weaker (Ok t) h = h.0 tt
    weaker (Err x) h = h

three_reached : (x : ℕ) (s : Cursor) → (0 == x) ≡ false → is_break x ≡ false → next_3_are s.rest x x x ≡ true
    → Reaches s (pass 3 s)
three_reached x s z b e =
    let three = three_at x s.rest z e in
    let P : List ℕ → Type 0 = λ l. IsReached s.mark l (along s.mark 3) (drop 3 s.rest) in
    subst P (sym three) (along_reached s.mark (x ∷ x ∷ x ∷ []) (drop 3 s.rest) (b, (b, (b, tt))))

-- The end of a document, and the rest of its line. The marker's token is put by a move that it shares with `---`
-- (`marker_walked`). What comes behind it only moves the place (`further`), and is refused if the line doesn't end
-- there.
pub end_marker_walked : (s : State) → s.core.cursor.mark.col ≡ 0 → is_document_end s.core.cursor.rest ≡ true
    → Walked (Premises s.core) (Documented s) s.core.cursor (document.state_behind_document_end s)
unfolding document.state_behind_document_end document.end_line
end_marker_walked s col e =
    let here = s.core.cursor in
    walked_then (Premises s.core) (Marked EndsLine s) (Documented s) here
    (document.state_behind_marker tokens.DocumentEnd s) _
    (marker_walked is_document_end (codes "...") tokens.DocumentEnd EndsLine end_marking (λ i. absurd (cc)) s col e)
    (λ t g. by t g.0 (there t g.1) (separate t.core) (separate_walked s.core here t.core (λ _. there t g.1)))
  where
    there : (t : State) → t.core.cursor ≡ pass 3 s.core.cursor → Reaches s.core.cursor t.core.cursor
    there t q =
        let P : Cursor → Type 0 = λ u. Reaches s.core.cursor u in
        subst P (sym q) (three_reached 46 s.core.cursor refl refl
        (and_parts (next_3_are s.core.cursor.rest 46 46 46) (is_blank_or_breakz (slice_index s.core.cursor.rest 3))
        e).0)

    by : (t : State) → (EndsLine t.core.cursor.rest → Documented s t) → Reaches s.core.cursor t.core.cursor
        → (r : Result (SkipTabs × Core) Refusal)
        → Walked (Premises s.core)
        (λ (x : SkipTabs × Core). Same t.core x.1 × OnLine t.core.cursor x.1.cursor
        × (x.1.key_allowed ≡ t.core.key_allowed)) s.core.cursor r
        → Walked (Premises s.core) (Documented s) s.core.cursor (on_core_with r t >>= document.end_line)
    by t put a (Ok x) h =
        let c = t.core.cursor in
        let u = x.1.cursor in
        let later = apart_later c.mark c.rest u.mark u.rest h.1.apart in
        let f : Does (Unit {0}) None 0 0 t.core x.1 [] = further t.core x.1 h.0 h.1.apart
        (λ _. (
          (λ a. inl (sym h.2 ∙ a)),
          tail_right t.core x.1 h.0 h.1 h.2,
          entry_same t.core x.1 h.0.0 (λ a. h.2 ∙ a) h.1.apart,
        )) in
        by_test (is_breakz (slice_index u.rest 0)) _ _ (Walked (Premises s.core) (Documented s) s.core.cursor)
        (λ e. let line = h.1.on_line in
        let d = put (line.0, line.1, line.2, line.3, subst (λ l. is_breakz (slice_index l 0) ≡ true) h.1.behind e) in
        record {
          advances = advances_advances 1 0 s t _ d.advances
              (on_core_fetches t (Ok x.1) (
                record { later = later.index; counted = later.counted },
                (f.started, f.ended, (let w = f.few in omega (arith, w)), λ i k. (f.keeps i tt k).0),
              ));
          holds = λ laws opened from k. f.holds tt laws opened from t.queue tt (d.holds laws opened from k);
          comment = λ n. h.0.2 (d.comment n);
        })
        (λ _ _. at_reach s.core.cursor u (reaches_reaches s.core.cursor c u a (apart_reached c.mark c.rest u.mark u.rest
        h.1.apart)))
    by t put a (Err x) h = h

-- ## Byte order marks

pub mark_walked : (s : State) → is_bom (slice_index s.core.cursor.rest 0) ≡ true
    → Walked (Premises s.core) (Documented s) s.core.cursor (document.state_behind_byte_order_mark s)
unfolding document.state_behind_byte_order_mark
mark_walked s e =
    let here = s.core.cursor in
    by_test (nat_lt 0 here.mark.col || not (in_block s.core)) _ _ (Walked (Premises s.core) (Documented s) here)
    (λ _ _. at_here here)
    (λ w. let column = no_column here.mark.col (not (in_block s.core)) w in
    walked_then (Premises s.core) (Content s) (Documented s) here (document.end_content s) _
    (content_walked s (inr (column, inr (inr (eqb-true (slice_index here.rest 0) byte_order_mark e))))) (λ t c.
    let d : Core = document.pass_mark t.core in
    let first : slice_index t.core.cursor.rest 0 ≡ byte_order_mark = ap (λ (u : Cursor). slice_index u.rest 0) c.cursor
    ∙ eqb-true (slice_index here.rest 0) byte_order_mark e in
    let is = cut_at byte_order_mark t.core.cursor.rest refl first in
    let col : t.core.cursor.mark.col ≡ 0 = ap (λ (u : Cursor). u.mark.col) c.cursor ∙ column in
    let P : Cursor → Type 0 = λ u. Does (Unit {0}) None 1 5 t.core d (up_to_here u.mark tokens.ByteOrderMark d ∷ []) in
    documented s t (record { core = d; actions = up_to_here here.mark tokens.ByteOrderMark d ∷ [] }) c (λ n. n)
    (subst P c.cursor (spelled t.core d c.no_key tokens.ByteOrderMark (byte_order_mark ∷ []) is (omega arith)
    (omega arith) refl
    (λ p. neutral _ p refl) (λ p. refl) (λ i. absurd (cc)) (λ p. refl) refl (refl, refl, (λ n. n), refl)
    (λ _ f. absurd (cc))
    (λ _. record { is = is; at_start = col; start = refl; end = refl; goes_on = refl })))))
  where
    no_column : (n : ℕ) (b : Bool) → (nat_lt 0 n || b) ≡ false → n ≡ 0
    no_column n b f = let none = or_false_left (nat_lt 0 n) b f in grind (arith, nat_tests)

-- ## Directives

directive_is_no_end : (d : ReadDirective) → IsNoEnd (document.directive_kind d)
directive_is_no_end d = grind arith

-- A directive that was read is a token: it goes from the percent sign to its end, and the rest of its line separates
-- it from what comes next.
directive_reading : (c : Core) (x : ReadDirective × Marker × Cursor) → c.cursor.mark.col ≡ 0
    → slice_index c.cursor.rest 0 ≡ percent_sign → directives.directive c.cursor ≡ Ok x
    → Reading 1 c (record { span = record { start = c.cursor.mark; end = x.1 }; kind = document.directive_kind x.0 })
    x.2
directive_reading c x col f e = record {
  less = λ laws. let z = laws.directive c.cursor x.2 x.0 x.1 f e in omega (arith, z);
  span = λ laws. let z = laws.directive c.cursor x.2 x.0 x.1 f e in
      record { ahead = z.ahead; begins = omega arith; inside = z.begins; ends = z.ends };
  token = λ laws.
      let r = laws.directive c.cursor x.2 x.0 x.1 f e in
      let text = r.0 in
      let tail = r.1 in
      let behind = r.2 in
      let s = c.cursor in
      let mid : Cursor = mid_line (along s.mark (length text)) (tail ++ behind) in
      let there : Cursor = mid_line (along s.mark (length text + length tail)) behind in
      let first = tail_apart mid.mark tail behind r.5 (breakz_no_non_break (slice_index behind 0) r.6) in
      let second : AreApart mid there = rw (along_more s.mark (length text) (length tail) (length text + length tail)
      refl) at first in
      let P : Cursor → Type 0 = λ u. AreApart mid u in (
        mid,
        (λ b _. directive_is_token x.0 (surroundings b c) (record { start = s.mark; end = x.1 }) s mid (
          text,
          col,
          r.4,
          record { is = r.3; start = refl; end = r.7; goes_on = refl },
          (tail, behind, r.5, refl, r.6),
        )),
        subst P (sym r.8) (apart_apart mid.mark mid.rest there.mark there.rest (pass_break there).mark
            (pass_break there).rest second (break_apart there)),
      );
}

-- A directive at a line's start: all block collections end (`content_walked`), and then its token is put, which begins
-- no node. The rest of its line is passed with it.
pub directive_walked : (s : State) → s.core.cursor.mark.col ≡ 0 → slice_index s.core.cursor.rest 0 ≡ percent_sign
    → Walked (Premises s.core) (Documented s) s.core.cursor (document.state_behind_directive s)
unfolding document.state_behind_directive document.read_directive
directive_walked s col f =
    let A = Premises s.core in
    let here = s.core.cursor in
    walked_then A (Content s) (Documented s) here (document.end_content s) _
    (content_walked s (inr (col, inr (inl f)))) (λ t c.
    let r = directives.directive t.core.cursor in
    let first = ap (λ (u : Cursor). slice_index u.rest 0) c.cursor ∙ f in
    let P : Cursor → Type 0 = λ u. (e : Refusal) → r ≡ Err e → A → At u e.mark in
    by t c r (ap (λ (u : Cursor). u.mark.col) c.cursor ∙ col) first
    (read_walked A here r (subst P c.cursor (λ e q laws. at_inside t.core.cursor e
    (laws.0.directive t.core.cursor e first q)))))
  where
    by : (t : State) → Content s t → (r : Result (ReadDirective × Marker × Cursor) Refusal)
        → t.core.cursor.mark.col ≡ 0 → slice_index t.core.cursor.rest 0 ≡ percent_sign
        → Walked (Premises s.core) (λ (x : ReadDirective × Marker × Cursor). directives.directive t.core.cursor ≡ Ok x)
        s.core.cursor r
        → Walked (Premises s.core) (Documented s) s.core.cursor
        (after_step (r >>= λ x. completed_step (from_to t.core.cursor.mark x.1 (document.directive_kind x.0) ∷ [])
        (record (with_cursor x.2 t.core) { key_allowed = false })) t.queue)
    by t c (Ok x) col first e =
        let d : Core = record (with_cursor x.2 t.core) { key_allowed = false } in
        let kind = document.directive_kind x.0 in
        documented s t (record { core = d; actions = from_to t.core.cursor.mark x.1 kind ∷ [] }) c (λ n. n)
        (at_most (omega arith) (and_then (λ n. n)
        (quiet 1 t.core (record { span = record { start = t.core.cursor.mark; end = x.1 }; kind = kind }) x.2 false
        (quiet_directive x.0) (directive_keeps x.0 (record { start = t.core.cursor.mark; end = x.1 }))
        (no_node_directive x.0 (record { start = t.core.cursor.mark; end = x.1 })) c.no_key
        (directive_is_no_end x.0) (unbound_directive x.0 (record { start = t.core.cursor.mark; end = x.1 }))
        (plain_directive x.0) (λ _ i _ _. inl (let left = c.indent i in omega (arith, left)))
        (directive_reading t.core x col first e))
        (still d d (refl, refl, (λ n. n), refl) refl (λ _. ((λ a. inl a), (λ h. h), λ front h. h)))))
    by t c (Err e) col first h = h

-- ## What follows

pub documents_advance : (s : State) (r : Result State Refusal) → Walked (Premises s.core) (Documented s) s.core.cursor r
    → Given (FetchesTokens 1 s) r
documents_advance s (Ok t) h = h.advances
documents_advance s (Err e) h = tt

pub documents_hold : TextLaws → (opened : Setting) (from : Cursor) (s : State) (r : Result State Refusal)
    → HoldsState opened from s → Walked (Premises s.core) (Documented s) s.core.cursor r
    → Given (HoldsState opened from) r
documents_hold laws opened from s (Ok t) k h = h.holds laws opened from k
documents_hold laws opened from s (Err e) k h = tt
