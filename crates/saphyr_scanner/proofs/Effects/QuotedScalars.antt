-- What each step of quoted scalars does, by the laws of the readers.
use Rattle.saphyr_scanner.proofs.Common.{◌≡◌, ℕ, ◌+◌, ◌-◌, ◌≤◌, ◌<◌, ◌⊎◌, Bool, true, false, List, length, drop, Some, IsTrue, refl, sym, ap, ◌∙◌, arith, inl, inr, ◌==◌, slice_index, is_break, is_breakz, Quote, Single, Double, mark, Marker, Span, Cursor, ◌>>=◌, IsPassed, Piece, or_cases, colon, by_test, clash, blank_no_break}
use Rattle.saphyr_scalar.specs.Steps.Quoted as quoted
use Rattle.saphyr_scanner.specs.Steps.Core.{Core, in_block, least_column}
use Rattle.saphyr_scanner.specs.Steps.Level.{Level, is_block}
use Rattle.saphyr_scanner.specs.Steps.Passing.{separate, pass_gap, with_cursor}
use Rattle.saphyr_scanner.specs.Steps.Scalar as scalar
use Rattle.saphyr_scanner.specs.Steps.Scalar.{quote_style}
use Rattle.saphyr_scanner.specs.Views.Reads.{quote_kind}
use Rattle.saphyr_scanner.specs.TokensInPlace.{is_flow_style}
use Rattle.saphyr_scanner.specs.TokensTaken.{Surroundings, AreApart, IsPassedOver, IsToken, IsQuotedToken, begins_text, ends_json_behind}
use Rattle.saphyr_scanner.proofs.Effects.Moves.{Around}
use Rattle.saphyr_scanner.proofs.Effects.Puts.{saving, saved, same_block}
use Rattle.saphyr_scanner.proofs.Effects.Walked.{Premises, Walked, walked_then, Doing, at_inside, read_walked, at_reach, separate_walked, gap_walked}
use Rattle.saphyr_scanner.proofs.LineTails.{OnLine}
use Rattle.saphyr_scanner.proofs.LessIndented.{less_indented}
use Rattle.saphyr_scanner.proofs.Reached.{apart_reached, passed_reached}
use Rattle.saphyr_scanner.proofs.Taken.Cores.{surroundings}
use Rattle.saphyr_scanner.proofs.Taken.Bare.{is_plain, plain_fronts}
use Rattle.saphyr_scanner.proofs.Taken.InPlace.{begun_by}
use Rattle.saphyr_scanner.proofs.Taken.KeysInPlace.{IsPast}
use Rattle.saphyr_scanner.proofs.Taken.SavedKeys.{IsSaved}
use Rattle.saphyr_scanner.proofs.Taken.Indented.{BeginsNoNode, other_than_colon}
use Rattle.saphyr_scanner.proofs.Taken.Neutral.{neutral}
use Rattle.saphyr_scanner.proofs.Taken.Later.{top, apart_later, break_begins_no_text, passed_later, end_stays}
use Rattle.saphyr_scanner.proofs.Taken.OnLine.{quoted_shorter}
use Rattle.saphyr_scanner.proofs.Taken.Parts.{is_quiet}
use Rattle.saphyr_scanner.proofs.Taken.Places.{Reaches, reaches_reaches}
use Rattle.saphyr_scanner.proofs.Taken.Separated.{apart_apart}

-- a span begins where a text does
abbrev pub Starts : Span → Cursor → Type 0
Starts span s = (span.start ≡ s.mark) × IsTrue (begins_text (slice_index s.rest 0))

-- ## Quoted scalars

plain_quote : (quote : Quote) (value : List ℕ) → is_plain (quote_kind quote value) ≡ true
plain_quote quote value = grind arith

-- what is so of both quotes
record Quoting (quote : Quote) : Type 0 where
  other : (mark quote == colon) ≡ false
  unbroken : is_break (mark quote) ≡ false
  flow : is_flow_style (quote_style quote) ≡ true
  quiet : (value : List ℕ) → is_quiet (quote_kind quote value) ≡ true
  ends_json : (value : List ℕ) (span : Span) (b : Bool) → ends_json_behind (quote_kind quote value) span b ≡ true
  of : (i : Surroundings) (value : List ℕ) (span : Span) (s t : Cursor) → IsToken i (quote_kind quote value) span s t
      → Starts span s
  past : (value : List ℕ) (span : Span) (block : Bool) (n : ℕ) → span.end.line < n
      → IsPast (begun_by (quote_kind quote value) span) block n

quoting : (quote : Quote) → Quoting quote
quoting quote = grind arith

quoted_is : (quote : Quote) (i : Surroundings) (value : List ℕ) (span : Span) (s t : Cursor)
    → IsQuotedToken quote i.indent value span s t → IsToken i (quote_kind quote value) span s t
quoted_is Double i value span s t h = h
quoted_is Single i value span s t h = h

-- later lines of quoted scalars have to reach the column of the innermost block collection at least
least_right : (c : Core) → c.indent - 1 ≤ least_column c
least_right c = by_test c.deeper _ _ (λ n. c.indent - 1 ≤ n) (λ _. omega arith) (λ _. omega arith)

on_line_same : (s t : Cursor) → OnLine s t → t.mark.line ≡ s.mark.line
on_line_same s t o = ap (λ (m : Marker). m.line) o.on_line.4

-- outside flow a break, the end, or on the scalar's line a colon is behind quotes
goes_on_outside : (start : Marker) (c : Core) → in_block c ≡ true → scalar.goes_on_behind_quotes start c ≡ true
    → IsTrue (is_breakz (slice_index c.cursor.rest 0)) ⊎ (start.line ≡ c.cursor.mark.line)
unfolding scalar.goes_on_behind_quotes
goes_on_outside start c b h = grind arith

-- a separation from a break on goes on to a later line
break_passed : (m : Marker) (t : List ℕ) (n : Marker) (u : List ℕ) → IsPassedOver m t n u
    → is_break (slice_index t 0) ≡ true → IsTrue (begins_text (slice_index u 0)) → m.line ≤ top → n.line < top
    → m.line < n.line
break_passed u0 u1 u2 u3 u4 e b low small = grind
    (arith, break_begins_no_text, clash, blank_no_break, apart_later, drop)

-- from a character on the text goes on right of it, on its line
character_right : (c : ℕ) (m : Marker) (t : List ℕ) (n : Marker) (u : List ℕ) → IsPassed m t n u
    → slice_index t 0 ≡ c → is_break c ≡ false → length u < length t → m.line ≤ top → n.line < top → n.line ≤ m.line
    → m.col < n.col
character_right c u0 u1 u2 u3 u4 e k less low small line = grind (arith, passed_later)

-- behind quotes that end on a line the text goes on right of them, or no node begins
quotes_end : {x u : Cursor} (i : ℕ) (s v : Cursor) (j : ℕ) (quote : Quote) → slice_index s.rest 0 ≡ mark quote
    → is_break (mark quote) ≡ false → IsPassed s.mark s.rest x.mark x.rest → length x.rest < length s.rest
    → OnLine x u → AreApart u v → IsTrue (begins_text (slice_index v.rest 0)) → j ≡ i → i ≤ s.mark.col + 1
    → s.mark.line < top → v.mark.line < top → v.mark.line ≡ u.mark.line
    → IsTrue (is_breakz (slice_index u.rest 0)) ⊎ (s.mark.line ≡ u.mark.line)
    → (j ≤ v.mark.col) ⊎ BeginsNoNode v.rest
quotes_end {x} {u} i s v j quote first unbroken passed less o apart begins same deep low small line u0 = grind
    (arith, apart_later, on_line_same, character_right, or_cases, break_passed, end_stays)

-- A quoted scalar puts its token behind three readings: of the scalar, of what separates it on its line from what
-- comes next (`separate`), and of the gap behind that. Each begins at a place that the one before reached (`there`,
-- `reach`). If the line goes on as it must not, that is refused. What is known of the token comes from the law on
-- quoted scalars, and its end is where the line goes on.
quotes_do : (quote : Quote) (n : ℕ) (c : Core)
    → slice_index c.cursor.rest 0 ≡ mark quote → (l : Level) (r : Bool) → IsSaved n c l r
    → let d = scalar.disallow_key (record c { level = l; required = r }) in
    Walked (Premises c) (Doing (Some n) c) c.cursor
    (quoted.quoted quote (least_column d) d.cursor >>= λ x. scalar.behind_quotes d.cursor.mark (quote_style quote) x.0
    (with_cursor x.1 d))
unfolding scalar.behind_quotes
quotes_do quote n c first l r s =
    let here = c.cursor in
    let d : Core = scalar.disallow_key (record c { level = l; required = r }) in
    let Q = Doing (Some n) c in
    let low = least_column c in
    walked_then (Premises c) _ Q here (quoted.quoted quote low here) _
    (read_walked (Premises c) here (quoted.quoted quote low here)
    (λ e q laws. at_inside here e (laws.0.quotes quote low here e first q))) (λ x e.
    let there : Premises c → Reaches here x.1 = λ laws. passed_reached here.mark here.rest x.1.mark x.1.rest
    (laws.1.quotes quote low here x.1 x.0 first e).3 in
    walked_then (Premises c) _ Q here (separate (with_cursor x.1 d)) _
    (separate_walked c here (with_cursor x.1 d) there) (λ y g.
    let u : Cursor = y.1.cursor in
    let reach : Premises c → Reaches here u = λ laws. reaches_reaches here x.1 u (there laws)
    (apart_reached x.1.mark x.1.rest u.mark u.rest g.1.apart) in
    let t : Piece = record {
      span = record { start = here.mark; end = u.mark };
      kind = quote_kind quote x.0;
    } in
    by_test (scalar.goes_on_behind_quotes here.mark y.1) _ _ (Walked (Premises c) Q here)
    (λ goes. walked_then (Premises c) _ Q here (pass_gap y.1) _ (gap_walked c here y.1 reach (λ laws. g.0.2 laws.2))
    (λ f k.
    let v : Cursor = f.cursor in
    let a = apart_later x.1.mark x.1.rest u.mark u.rest g.1.apart in
    let b = apart_later u.mark u.rest v.mark v.rest k.1 in
    let same = k.0.0 ∙ g.0.0 in
    saved n c (scalar.adjacent_here f) t (rw (same, k.0.3 ∙ g.0.3) s)
    (ap (λ (a : Around). record a { adjacent = c.adjacent }) (k.0.1 ∙ g.0.1))
    (inr (refl, (quoting quote).ends_json x.0 t.span))
    (λ m. inl (k.0.2 (g.0.2 m))) ((quoting quote).quiet x.0) (neutral _ t.span refl) (quoting quote).flow
    (λ i. absurd (cc)) (plain_fronts t c (scalar.adjacent_here f) (plain_quote quote x.0))
    (λ i. (quoting quote).of i x.0 t.span) refl (other_than_colon (mark quote) here.rest (quoting quote).other first)
    (λ arrival laws.
    let w = laws.quotes quote low here x.1 x.0 first e in
    let p = (passed_later here.mark here.rest x.1.mark x.1.rest w.3).lines
    (let small = arrival.2 in omega (arith, small)) in
    let line = on_line_same x.1 u g.1 in
    let later : f.key_allowed ≡ true → v.mark.line < top → u.mark.line < v.mark.line = λ allowed small.
    elim (k.3.begins allowed) [
      | inl before ↦ absurd (let same = g.2 in cc)
      | inr later ↦ later.1 (omega (arith, p.1, line)) small
    ] in (
      λ allowed small. (quoting quote).past x.0 t.span _ v.mark.line (later allowed small),
      λ i allowed small.
          let ends = k.3.ends i allowed (omega (arith, p.1, line)) in
          let block = ap (λ (m : Level). is_block m.context) (sym same) ∙ i in
          let indent = ap (λ (z : Around). z.indent) (k.0.1 ∙ g.0.1) in
          quotes_end c.indent here v f.indent quote first (quoting quote).unbroken w.3
          (quoted_shorter quote w.0 here.rest x.1.rest w.1) g.1 k.1 k.2 indent
          (arrival.0 (sym (same_block n c l r s) ∙ block)) arrival.2 small ends.1
          (goes_on_outside here.mark y.1 (ap (λ (m : Level). is_block m.context) (sym k.0.0) ∙ i) goes),
      λ _ allowed small. inl (let z = later allowed small in omega (arith, p.0, line, z)),
    ))
    (record {
      less = λ laws. let z = laws.quoted_scalar quote low here x.1 x.0 first e in
          omega (arith, z, a.index, a.counted, b.index, b.counted);
      span = λ laws. let z = laws.quoted_scalar quote low here x.1 x.0 first e in
          record {
            ahead = record {
              later = omega (arith, z.later, a.index, b.index);
              counted = omega (arith, z.counted, a.counted, b.counted);
            };
            begins = omega arith;
            inside = omega (arith, z.later, a.index);
            ends = b.index;
          };
      token = λ laws. let w = laws.quotes quote low here x.1 x.0 first e in (
        x.1,
        (λ j _. quoted_is quote (surroundings j c) x.0 t.span here x.1 (
          w.0,
          w.1,
          sym w.2,
          w.3,
          refl,
          g.1.on_line,
          w.4,
          less_indented (c.indent - 1) low (least_right c) quote w.1.0 w.0 x.1.rest w.1.2 w.5,
        )),
        apart_apart x.1.mark x.1.rest u.mark u.rest v.mark v.rest g.1.apart k.1,
      );
    })))
    (λ _ laws. at_reach here u (reach laws))))

pub quoted_does : (quote : Quote) (n : ℕ) (c : Core) → slice_index c.cursor.rest 0 ≡ mark quote
    → Walked (Premises c) (Doing (Some n) c) c.cursor (scalar.quoted_steps quote n c)
unfolding scalar.quoted_steps
quoted_does quote n c first = saving n c (λ d. Walked (Premises c) (Doing (Some n) c) c.cursor
    (scalar.read_quoted quote (scalar.disallow_key d)))
    (λ l r s. quotes_do quote n c first l r s)
