-- Each token of a text leads from a place of it to a later one, and begins and ends at places of it.
use Rattle.saphyr_scanner.proofs.Common.{◌≡◌, ℕ, Bool, true, false, List, [], ◌∷◌, ◌++◌, IsFalse, refl, ap, arith, inl, inr, slice_index, is_blank, is_break, is_blank_or_break, Marker, Span, BlockStyle, Quote, Single, Double, Cursor, start_cursor, version, tag_prefix, reserved, end_of_text, IsPlainReading, NoBreaks, directive_no_break, Piece, or_false_right}
use Rattle.saphyr_scalar.specs.declared.scalar.style.ScalarStyle.TheVariants as style
use Rattle.saphyr_scalar.specs.declared.values.BlockStyle.TheVariants as block_style
use Rattle.saphyr_scanner.specs.Grammar.Tokens as tokens
use Rattle.saphyr_scanner.specs.Grammar.Tokens.{Kind}
use Rattle.saphyr_scanner.specs.AtPlaces.{AreAtPlaces}
use Rattle.saphyr_scanner.specs.TokensTaken as taken
use Rattle.saphyr_scanner.specs.TokensTaken.{Collections, Surroundings, surroundings_in, IsReached, IsPlaceOrEnd, IsPlaceOf, HasNoText, IsSpan, IsMark, TakesCharacter, LiesOnLine, IsFlowIndicator, IsPlainToken, IsQuotedToken, IsBlockScalarToken, IsToken, AreTokens, open_behind, ends_json_behind}
use Rattle.saphyr_scanner.proofs.Taken.JsonEnds.{LeavesBrackets, LeavesBoth, GoesOn, plain_goes_on, span_goes_on, empty, bare}
use Rattle.saphyr_scanner.proofs.Taken.Later.{LaterThan, reached_later}
use Rattle.saphyr_scanner.proofs.LineTexts.{name_no_break, tag_no_break, tail_no_break}
use Rattle.saphyr_scanner.proofs.Reached.{reached_reached, reached_counted, along_reached, apart_reached, passed_reached, piece_reached, uncut_no_break, uncut_behind}

abbrev pub Reaches : Cursor → Cursor → Type 0
Reaches s t = IsReached s.mark s.rest t.mark t.rest

pub reaches_reaches : (s t u : Cursor) → Reaches s t → Reaches t u → Reaches s u
reaches_reaches s t u a b = reached_reached s.mark s.rest t.mark t.rest u.mark u.rest a b

-- a place on the way from a cursor
abbrev pub At : Cursor → Marker → Type 0
At s m = (t : Cursor) × Reaches s t × IsPlaceOrEnd t m

pub at_here : (s : Cursor) → At s s.mark
at_here s = (s, taken.nothing s.mark s.rest, inl refl)

pub at_further : (s t : Cursor) (m : Marker) → Reaches s t → At t m → At s m
at_further s t m a b = (b.0, reaches_reaches s t b.0 a b.1, b.2)

-- a place that is reached, with what is there
pub at_reached : (s : Cursor) (m : Marker) (u : List ℕ) → IsReached s.mark s.rest m u → At s m
at_reached s m u a = (record { rest = u; mark = m; blank_so_far = true }, a, inl refl)

pub place_of : (text : List ℕ) (m : Marker) → At (start_cursor text) m → IsPlaceOf text m
place_of text m a = grind (arith, reached_counted)

pub here_at : (s : Cursor) (m : Marker) → m ≡ s.mark → At s m
here_at s m e = (s, taken.nothing s.mark s.rest, inl e)

line_at : (s : Cursor) (m : Marker) → LiesOnLine s m → At s m
line_at s m h =
    let p = along_reached s.mark h.0 h.1 (tail_no_break h.0 h.2) in
    at_reached s m h.1 (rw h.4 (rw h.3 p))

pub character_reached : (c : ℕ) (s t : Cursor) → is_break c ≡ false → TakesCharacter c s t → Reaches s t
character_reached c s t e h = rw h.1 (rw h.0 (along_reached s.mark (c ∷ []) t.rest (e, tt)))

-- a plain scalar's span ends before the blanks and breaks after it
plain_ends : (f : Bool) (s t : Cursor) (text : List ℕ) (end : Marker) (r : IsPlainReading f s text end t)
    → IsReached s.mark s.rest end (r.white ++ t.rest)
plain_ends f s t text end r = grind (arith, or_false_right, piece_reached, uncut_no_break)

plain_reached : (f : Bool) (s t : Cursor) (text : List ℕ) (end : Marker) (r : IsPlainReading f s text end t)
    → IsFalse (is_blank_or_break (slice_index t.rest 0)) → Reaches s t
plain_reached f s t text end r e =
    let unbroken = or_false_right (is_blank (slice_index t.rest 0)) (is_break (slice_index t.rest 0)) e in
    let b : IsReached end (r.white ++ t.rest) (end_of_text end r.white) t.rest =
    piece_reached end r.white t.rest (uncut_behind r.white t.rest unbroken) in
    reached_reached s.mark s.rest end (r.white ++ t.rest) t.mark t.rest (plain_ends f s t text end r) (rw r.behind at b)

-- ## What a token takes

-- It leads from s to t, its span begins and ends at places on the way, and it goes on.
record Takes (i : Surroundings) (kind : Kind) (span : Span) (s t : Cursor) : Type 0 where
  reaches : Reaches s t
  start : At s span.start
  end : At s span.end
  goes_on : GoesOn i kind span s t

nothing : {i : Surroundings} {kind : Kind} (span : Span) (s t : Cursor) → LeavesBoth kind span → HasNoText span s t
    → Takes i kind span s t
nothing {i} {kind} span s t l h = record {
  reaches = rw h.2 (taken.nothing s.mark s.rest);
  start = (s, taken.nothing s.mark s.rest, h.1);
  end = rw h.0 (s, taken.nothing s.mark s.rest, h.1);
  goes_on = bare i kind span s t l (empty span h.0);
}

line : {i : Surroundings} {kind : Kind} (text : List ℕ) (span : Span) (s t : Cursor) → NoBreaks text
    → LeavesBoth kind span → IsSpan span text s t → Takes i kind span s t
line {i} {kind} text span s t e l h =
    let r : Reaches s t = rw h.goes_on (rw h.is (along_reached s.mark text t.rest e)) in record {
      reaches = r;
      start = here_at s span.start h.start;
      end = at_further s t span.end r (here_at t span.end h.end);
      goes_on = elim (span_goes_on text span s t h) [ inl k ↦ inl k | inr n ↦ bare i kind span s t l n ];
    }

mark : {i : Surroundings} {kind : Kind} (span : Span) (s t : Cursor) → IsMark span s t → Takes i kind span s t
mark span s t h =
    let r : Reaches s t = rw h.goes_on (rw h.is (taken.mark s.mark t.rest (taken.past_mark s.mark) t.rest h.at_start
    (taken.nothing (taken.past_mark s.mark) t.rest))) in
    let e = ap (λ (m : Marker). m.index) h.goes_on in record {
      reaches = r;
      start = here_at s span.start h.start;
      end = at_further s t span.end r (here_at t span.end h.end);
      goes_on = inl (omega (arith, e));
    }

character : {i : Surroundings} {kind : Kind} (c : ℕ) (span : Span) (s t : Cursor) → is_break c ≡ false
    → TakesCharacter c s t → At s span.start → At s span.end → Takes i kind span s t
character c span s t e h start end = grind (arith, character_reached)

indicator : {i : Surroundings} {kind : Kind} (c : ℕ) (span : Span) (s t : Cursor) → is_break c ≡ false
    → IsFlowIndicator c span s t → Takes i kind span s t
indicator c span s t e h = character c span s t e h.0 (here_at s span.start h.1)
    (at_further s t span.end (character_reached c s t e h.0) (line_at t span.end h.2))

plain : {i : Surroundings} {kind : Kind} (value : List ℕ) (span : Span) (s t : Cursor)
    → IsPlainToken i.in_flow i.indent value span s t → Takes i kind span s t
plain {i} value span s t h = record {
  reaches = plain_reached i.in_flow s t value span.end h.reading h.stops.0;
  start = here_at s span.start h.start;
  end = at_reached s span.end (h.reading.white ++ t.rest) (plain_ends i.in_flow s t value span.end h.reading);
  goes_on = inl (plain_goes_on i.in_flow s t value span.end h.reading);
}

quoted : {i : Surroundings} {kind : Kind} (quote : Quote) (value : List ℕ) (span : Span) (s t : Cursor)
    → ((b : Bool) → ends_json_behind kind span b ≡ true) → IsQuotedToken quote i.indent value span s t
    → Takes i kind span s t
quoted quote value span s t l h =
    let r = passed_reached s.mark s.rest t.mark t.rest h.3 in record {
      reaches = r;
      start = here_at s span.start h.4;
      end = at_further s t span.end r (line_at t span.end h.5);
      goes_on = inr (inl l);
    }

block : {i : Surroundings} {kind : Kind} (style : BlockStyle) (value : List ℕ) (span : Span) (s t : Cursor)
    → LeavesBrackets kind span → i.in_flow ≡ false → IsBlockScalarToken style i.indent value span s t
    → Takes i kind span s t
block style value span s t l f h =
    let r = passed_reached s.mark s.rest t.mark t.rest h.passes in
    let b = h.reading.behind in record {
      reaches = r;
      start = at_reached s span.start b (passed_reached s.mark s.rest span.start b h.reading.starts);
      end = at_further s t span.end r (here_at t span.end h.end);
      goes_on = inr (inr (l, inr f));
    }

-- Where each kind of token begins and ends, and that the text goes on behind it. A row for each kind: it has no text,
-- is one character, is on one line, or is a scalar, and for each of these there is a lemma above.
token_takes : (i : Surroundings) (kind : Kind) (span : Span) (s t : Cursor) → IsToken i kind span s t
    → Takes i kind span s t
token_takes i tokens.StreamStart span s t h = nothing span s t (λ e. ((λ x. refl), λ b. rw e refl)) h.1
token_takes i tokens.StreamEnd span s t h = nothing span s t (λ e. ((λ x. refl), λ b. rw e refl)) h.1
token_takes i (tokens.VersionDirective major minor) span s t h = line h.0 span s t
    (directive_no_break (version major minor) h.0 h.2) (λ e. ((λ x. refl), λ b. rw e refl)) h.3
token_takes i (tokens.TagDirective handle prefix) span s t h = line h.0 span s t
    (directive_no_break (tag_prefix handle prefix) h.0 h.2) (λ e. ((λ x. refl), λ b. rw e refl)) h.3
token_takes i (tokens.ReservedDirective name) span s t h = line h.0 span s t
    (directive_no_break (reserved name) h.0 h.2) (λ e. ((λ x. refl), λ b. rw e refl)) h.3
token_takes i tokens.DocumentStart span s t h =
    line _ span s t (refl, (refl, (refl, tt))) (λ e. ((λ x. refl), λ b. rw e refl)) h.2
token_takes i tokens.DocumentEnd span s t h =
    line _ span s t (refl, (refl, (refl, tt))) (λ e. ((λ x. refl), λ b. rw e refl)) h.0.2
token_takes i tokens.ByteOrderMark span s t h = mark span s t h
token_takes i tokens.BlockSequenceStart span s t h =
    nothing span s t (λ e. ((λ x. refl), λ b. rw e refl)) (h.0, inl h.1, h.2)
token_takes i tokens.BlockMappingStart span s t h =
    nothing span s t (λ e. ((λ x. refl), λ b. rw e refl)) (h.0, inl h.1, h.2)
token_takes i tokens.BlockEnd span s t h = nothing span s t (λ e. ((λ x. refl), λ b. rw e refl)) h.0
token_takes i tokens.FlowSequenceStart span s t h = indicator 91 span s t refl h
token_takes i tokens.FlowSequenceEnd span s t h = indicator 93 span s t refl h
token_takes i tokens.FlowMappingStart span s t (inl h) = indicator 123 span s t refl h
token_takes i tokens.FlowMappingStart span s t (inr h) =
    nothing span s t (λ e. ((λ x. rw e refl), λ b. rw e refl)) h
token_takes i tokens.FlowMappingEnd span s t (inl h) = indicator 125 span s t refl h
token_takes i tokens.FlowMappingEnd span s t (inr h) =
    nothing span s t (λ e. ((λ x. rw e refl), λ b. rw e refl)) h
token_takes i tokens.BlockEntry span s t h =
    let start = at_further s t span.start (character_reached 45 s t refl h.0) (line_at t span.start h.2) in
    character 45 span s t refl h.0 start (rw h.3 start)
token_takes i tokens.FlowEntry span s t h = indicator 44 span s t refl h
token_takes i tokens.Key span s t (inl h) = character 63 span s t refl h.0 (here_at s span.start h.2)
    (at_further s t span.end (character_reached 63 s t refl h.0)
    (at_reached t span.end h.3.0 (apart_reached t.mark t.rest span.end h.3.0 h.3.1)))
token_takes i tokens.Key span s t (inr h) =
    nothing span s t (λ e. ((λ x. refl), λ b. rw e refl)) (h.0, inl h.1, h.2)
token_takes i tokens.Value span s t h =
    character 58 span s t refl h.0 (here_at s span.start h.2) (here_at s span.end h.3)
token_takes i (tokens.Alias name) span s t h =
    line (42 ∷ h.0) span s t (refl, name_no_break h.0 h.1) (λ e. ((λ x. refl), λ b. rw e refl)) h.3
token_takes i (tokens.Anchor name) span s t h =
    line (38 ∷ h.0) span s t (refl, name_no_break h.0 h.1) (λ e. ((λ x. refl), λ b. rw e refl)) h.3
token_takes i (tokens.Tag handle suffix) span s t h =
    line h.0 span s t (tag_no_break h.0 h.1 h.2 h.3) (λ e. ((λ x. refl), λ b. rw e refl)) h.6
token_takes i (tokens.Scalar style.Plain value) span s t h = plain value span s t h
token_takes i (tokens.Scalar style.SingleQuoted value) span s t h = quoted Single value span s t (λ b. refl) h
token_takes i (tokens.Scalar style.DoubleQuoted value) span s t h = quoted Double value span s t (λ b. refl) h
token_takes i (tokens.Scalar style.Literal value) span s t h =
    block block_style.Literal value span s t (λ x. refl) h.0 h.1
token_takes i (tokens.Scalar style.Folded value) span s t h =
    block block_style.Folded value span s t (λ x. refl) h.0 h.1

pub token_reached : (i : Surroundings) (kind : Kind) (span : Span) (s t : Cursor) → IsToken i kind span s t
    → Reaches s t
token_reached i kind span s t h = (token_takes i kind span s t h).reaches

pub token_goes_on : (i : Surroundings) (kind : Kind) (span : Span) (s t : Cursor) → IsToken i kind span s t
    → GoesOn i kind span s t
token_goes_on i kind span s t h = (token_takes i kind span s t h).goes_on

pub tokens_reached : (opened : Collections) (ps : List Piece) (s u : Cursor) → AreTokens opened ps s u → Reaches s u
tokens_reached opened [] s u h = rw h (taken.nothing s.mark s.rest)
tokens_reached opened (p ∷ ps) s u h =
    let a = apart_reached s.mark s.rest h.0.mark h.0.rest h.2 in
    let b = token_reached (surroundings_in opened) p.kind p.span h.0 h.1 h.3 in
    let c = tokens_reached (open_behind p.kind p.span opened) ps h.1 u h.4 in
    reaches_reaches s h.0 u a (reaches_reaches h.0 h.1 u b c)

pub token_later : (i : Surroundings) (kind : Kind) (span : Span) (s t : Cursor) → IsToken i kind span s t
    → LaterThan s t
token_later i kind span s t h = reached_later s.mark s.rest t.mark t.rest (token_reached i kind span s t h)

pub tokens_later : (opened : Collections) (ps : List Piece) (s u : Cursor) → AreTokens opened ps s u → LaterThan s u
tokens_later opened ps s u h = reached_later s.mark s.rest u.mark u.rest (tokens_reached opened ps s u h)

pub tokens_at : (text : List ℕ) (opened : Collections) (ps : List Piece) (s u : Cursor) → Reaches (start_cursor text) s
    → AreTokens opened ps s u → AreAtPlaces text ps
tokens_at text opened [] s u r h = tt
tokens_at text opened (p ∷ ps) s u r h =
    let i = surroundings_in opened in
    let a = reaches_reaches (start_cursor text) s h.0 r (apart_reached s.mark s.rest h.0.mark h.0.rest h.2) in
    let b = reaches_reaches (start_cursor text) h.0 h.1 a (token_reached i p.kind p.span h.0 h.1 h.3) in
    let first = place_of text p.span.start
    (at_further (start_cursor text) h.0 p.span.start a (token_takes i p.kind p.span h.0 h.1 h.3).start) in
    let last = place_of text p.span.end
    (at_further (start_cursor text) h.0 p.span.end a (token_takes i p.kind p.span h.0 h.1 h.3).end) in
    ((first, last), tokens_at text (open_behind p.kind p.span opened) ps h.1 u b h.4)
