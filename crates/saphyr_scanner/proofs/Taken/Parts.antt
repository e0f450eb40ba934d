-- Tokens that are taken from a text, one part after the other.
use Rattle.saphyr_scanner.proofs.Common.{◌≡◌, ℕ, zero, suc, ◌+◌, ◌⊎◌, Bool, true, false, List, [], ◌∷◌, ◌++◌, length, refl, sym, ap, ◌∙◌, arith, subst, inl, inr, IsTrue, ◌≤◌, ◌<◌, lt-ltb, Marker, Span, Cursor, Single, Double, Opening, Piece}
use Rattle.std.specs.Prelude.{◌-◌, slice_index, nat_lt}
use Rattle.saphyr_scalar.specs.declared.scalar.style.ScalarStyle.TheVariants as style
use Rattle.saphyr_scanner.specs.declared.queue.Opening.TheVariants as opening
use Rattle.saphyr_scanner.specs.Grammar.Tokens as tokens
use Rattle.saphyr_scanner.specs.Grammar.Tokens.{Kind}
use Rattle.saphyr_scanner.specs.Steps.Queue.{Place, bare_place, places_with_opening, empty_piece}
use Rattle.saphyr_scanner.specs.TokensTaken as taken
use Rattle.saphyr_scanner.specs.TokensTaken.{Collections, Surroundings, with_columns, surroundings_in, IsToken, AreTokens, begins_text, open_behind, least_column_in, IsAtColumn}
use Rattle.saphyr_scanner.specs.TokensInPlace.{is_of_flow_node}
use Rattle.saphyr_scanner.proofs.Leads.{flat, place_pieces}
use Rattle.saphyr_scanner.proofs.Queues.{flat_append, place_with_front}
use Rattle.saphyr_scanner.proofs.Taken.Later.{top, apart_later}
use Rattle.saphyr_scanner.proofs.Taken.Places.{token_later, tokens_later}
use Rattle.saphyr_scanner.proofs.Taken.OnLine.{plain_on_line, end_on_line, quoted_on_line}
use Rattle.saphyr_scanner.proofs.Taken.InPlace.{deeper, AreInside, inside_first, inside_rest}
use Rattle.saphyr_scanner.proofs.Taken.KeysInPlace.{no_text}
pub use Rattle.saphyr_scanner.proofs.Taken.InPlace.{is_quiet, AreQuiet}

-- what is open after tokens
abbrev pub open_all : List Piece → Collections → Collections
open_all [] opened = opened
open_all (p ∷ ps) opened = open_all ps (open_behind p.kind p.span opened)

pub open_append : (ps qs : List Piece) (opened : Collections)
    → open_all (ps ++ qs) opened ≡ open_all qs (open_all ps opened)
open_append [] qs opened = refl
open_append (p ∷ ps) qs opened = open_append ps qs (open_behind p.kind p.span opened)

pub tokens_append : (opened : Collections) (ps qs : List Piece) (s t u : Cursor) → AreTokens opened ps s t
    → AreTokens (open_all ps opened) qs t u → AreTokens opened (ps ++ qs) s u
tokens_append opened [] qs s t u h k = let P : Cursor → Type 0 = λ x. AreTokens opened qs x u in subst P h k
tokens_append opened (p ∷ ps) qs s t u h k =
    (h.0, h.1, h.2, h.3, tokens_append (open_behind p.kind p.span opened) ps qs h.1 t u h.4 k)

-- what is between, where tokens are parted
pub record Parted (opened : Collections) (ps qs : List Piece) (s u : Cursor) : Type 0 where
  pub between : Cursor
  pub front : AreTokens opened ps s between
  pub back : AreTokens (open_all ps opened) qs between u

pub tokens_part : (opened : Collections) (ps qs : List Piece) (s u : Cursor) → AreTokens opened (ps ++ qs) s u
    → Parted opened ps qs s u
tokens_part opened [] qs s u h = record { between = s; front = refl; back = h }
tokens_part opened (p ∷ ps) qs s u h =
    let r = tokens_part (open_behind p.kind p.span opened) ps qs h.1 u h.4 in
    record { between = r.between; front = (h.0, h.1, h.2, h.3, r.front); back = r.back }

-- ## Quiet tokens

-- a block collection begins at a column
abbrev pub with_column : ℕ → Collections → Collections
with_column column opened = with_columns (column ∷ opened.columns) opened

-- In flow, or among the tokens of a node that may be a key, a quiet token on one line is one whichever columns are
-- open.
pub quiet_token : (f b : Bool) (i j : ℕ) (kind : Kind) (span : Span) (s t : Cursor) → is_quiet kind ≡ true
    → IsTrue (is_of_flow_node kind span) ⊎ (f ≡ true) → t.mark.line ≤ s.mark.line → t.mark.line < top
    → IsToken (record { in_flow = f; indent = i; ends_json = b }) kind span s t
    → IsToken (record { in_flow = f; indent = j; ends_json = b }) kind span s t
quiet_token f b i j (tokens.Scalar style.Literal value) span s t q w le small h = absurd (cc)
quiet_token f b i j (tokens.Scalar style.Folded value) span s t q w le small h = absurd (cc)
quiet_token f b i j tokens.BlockSequenceStart span s t q w le small h = absurd (cc)
quiet_token f b i j tokens.BlockMappingStart span s t q w le small h = absurd (cc)
quiet_token f b i j tokens.BlockEntry span s t q w le small h = absurd (cc)
quiet_token f b i j tokens.BlockEnd span s t q w le small h = absurd (cc)
quiet_token f b i j (tokens.Scalar style.Plain value) span s t q w le small h = record {
  start = h.start;
  begins = h.begins;
  is_non_space = h.is_non_space;
  no_indicator = h.no_indicator;
  no_block_scalar = h.no_block_scalar;
  reading = h.reading;
  stops = end_on_line f i j s t value span.end h.reading le small h.stops;
  lines = plain_on_line f j s t value span.end h.reading le small;
}
quiet_token f b i j (tokens.Scalar style.SingleQuoted value) span s t q w le small h =
    (h.0, h.1, h.2, h.3, h.4, h.5, h.6, quoted_on_line (j - 1) Single h.0 s t h.1 h.3 le small)
quiet_token f b i j (tokens.Scalar style.DoubleQuoted value) span s t q w le small h =
    (h.0, h.1, h.2, h.3, h.4, h.5, h.6, quoted_on_line (j - 1) Double h.0 s t h.1 h.3 le small)
quiet_token f b i j tokens.Key span s t q (inl n) le small h = absurd (let no : false ≡ true = n in cc)
quiet_token f b i j tokens.Key span s t q (inr e) le small (inr h) = inr (h.0, h.1, h.2, h.3, λ g. absurd (cc))
quiet_token f b i j tokens.Key span s t q (inr e) le small (inl h) = inl (h.0, h.1, h.2, h.3, λ g. absurd (cc))
quiet_token f b i j _ span s t q w le small h = h

-- the columns stay after a quiet token
pub quiet_open : (kind : Kind) (span : Span) (opened : Collections) → is_quiet kind ≡ true
    → (open_behind kind span opened).columns ≡ opened.columns
quiet_open kind span opened q = grind arith

-- a quiet token opens and closes the same brackets whichever columns are open
quiet_column : (column : ℕ) (kind : Kind) (span : Span) (opened : Collections) → is_quiet kind ≡ true
    → open_behind kind span (with_column column opened) ≡ with_column column (open_behind kind span opened)
quiet_column column kind span opened q = grind arith

pub quiet_columns : (ps : List Piece) (opened : Collections) → AreQuiet ps
    → (open_all ps opened).columns ≡ opened.columns
quiet_columns [] opened q = refl
quiet_columns (p ∷ ps) opened q =
    quiet_columns ps (open_behind p.kind p.span opened) q.1 ∙ quiet_open p.kind p.span opened q.0

pub quiet_append : (ps qs : List Piece) → AreQuiet ps → AreQuiet qs → AreQuiet (ps ++ qs)
quiet_append [] qs a b = b
quiet_append (p ∷ ps) qs a b = (a.0, quiet_append ps qs a.1 b)

-- with the depth the brackets change
bracket_changes : (kind : Kind) (span : Span) (opened : Collections) (d : ℕ) → d ≤ opened.brackets
    → (d ≡ 0 → IsTrue (is_of_flow_node kind span))
    → (open_behind kind span opened).brackets + d ≡ opened.brackets + deeper kind span d
bracket_changes tokens.FlowSequenceStart span opened d l w = omega arith
bracket_changes tokens.FlowSequenceEnd span opened zero l w = absurd (let no : false ≡ true = w refl in cc)
bracket_changes tokens.FlowSequenceEnd span opened (suc d) l w = omega (arith, l)
bracket_changes tokens.FlowMappingStart span opened d l w = grind arith
bracket_changes tokens.FlowMappingEnd span opened zero l w = absurd (let no : false ≡ true = w refl in cc)
bracket_changes tokens.FlowMappingEnd span opened (suc d) l w = grind arith
bracket_changes _ span opened d l w = refl

-- brackets are open where tokens lead so deep
brackets_deep : (kind : Kind) (span : Span) (opened : Collections) (d : ℕ) → d ≤ opened.brackets
    → deeper kind span d ≤ (open_behind kind span opened).brackets
brackets_deep kind span opened d l = grind arith

pub same_brackets : (ps : List Piece) (opened : Collections) (d e : ℕ) → d ≤ opened.brackets → AreInside d ps e
    → (open_all ps opened).brackets + d ≡ opened.brackets + e
same_brackets [] opened d e l x = ap (λ n. opened.brackets + n) x
same_brackets (p ∷ ps) opened d e l x =
    let others = same_brackets ps (open_behind p.kind p.span opened) (deeper p.kind p.span d) e
    (brackets_deep p.kind p.span opened d l) (inside_rest d p ps e x) in
    omega (arith, bracket_changes p.kind p.span opened d l (inside_first d p ps e x), others)

inside_in_flow : (d : ℕ) (p : Piece) (ps : List Piece) (e n : ℕ) → d ≤ n → AreInside d (p ∷ ps) e
    → IsTrue (is_of_flow_node p.kind p.span) ⊎ (nat_lt 0 n ≡ true)
inside_in_flow zero p ps e n l x = inl x.0
inside_in_flow (suc d) p ps e n l x = inr (lt-ltb 0 n (omega (arith, l)))

pub quiet_tokens : (column : ℕ) (opened : Collections) (ps : List Piece) (s u : Cursor) (d e : ℕ)
    → d ≤ opened.brackets → AreInside d ps e → AreQuiet ps → u.mark.line ≤ s.mark.line → u.mark.line < top
    → AreTokens opened ps s u → AreTokens (with_column column opened) ps s u
quiet_tokens column opened [] s u d e l x q le small h = h
quiet_tokens column opened (p ∷ ps) s u d e l x q le small h =
    let behind : h.1.mark.line ≤ u.mark.line = (tokens_later (open_behind p.kind p.span opened) ps h.1 u h.4).kept small
    in
    let there : h.0.mark.line ≤ h.1.mark.line =
    (token_later (surroundings_in opened) p.kind p.span h.0 h.1 h.3).kept (omega (arith, behind, small)) in
    let here : s.mark.line ≤ h.0.mark.line =
    (apart_later s.mark s.rest h.0.mark h.0.rest h.2).kept (omega (arith, behind, there, small)) in (
      h.0,
      h.1,
      h.2,
      quiet_token (surroundings_in opened).in_flow opened.ends_json (surroundings_in opened).indent (column + 1) p.kind
          p.span h.0 h.1 q.0 (inside_in_flow d p ps e opened.brackets l x) (omega (arith, behind, here, le))
          (omega (arith, behind, small)) h.3,
      rw (quiet_column column p.kind p.span opened q.0) (quiet_tokens column (open_behind p.kind p.span opened) ps h.1
          u (deeper p.kind p.span d) e
          (brackets_deep p.kind p.span opened d l) (inside_rest d p ps e x) q.1 (omega (arith, here, there, le)) small
          h.4),
    )

-- where a key ends, on the line where it begins
abbrev pub EndsOnLine : Marker → Cursor → Type 0
EndsOnLine m u = (u.mark.line ≤ m.line) × (u.mark.line < top)

pub quiet_all : (column : ℕ) (ps : List Piece) (opened : Collections) → AreQuiet ps
    → open_all ps (with_column column opened) ≡ with_column column (open_all ps opened)
quiet_all column [] opened q = refl
quiet_all column (p ∷ ps) opened q = ap (open_all ps) (quiet_column column p.kind p.span opened q.0)
    ∙ quiet_all column ps (open_behind p.kind p.span opened) q.1

-- ## The start of a key and of a block mapping, and a single pair's start and end

key_starts : (m : Marker) (opened : Collections)
    → open_behind tokens.Key (record { start = m; end = m }) opened ≡ opened
key_starts m opened = rw (no_text m.index) refl

mapping_starts : (m : Marker) (opened : Collections)
    → open_behind tokens.BlockMappingStart (record { start = m; end = m }) opened ≡ with_column m.col opened
mapping_starts m opened = rw (no_text m.index) refl

pub pair_starts : (m : Marker) (opened : Collections)
    → open_behind tokens.FlowMappingStart (record { start = m; end = m }) opened ≡ opened
pair_starts m opened = rw (no_text m.index) refl

pub pair_ends : (m : Marker) (opened : Collections)
    → open_behind tokens.FlowMappingEnd (record { start = m; end = m }) opened ≡ opened
pair_ends m opened = rw (no_text m.index) refl

-- ## The queue's places

pub with_opening_there : (o : Opening) (front : List Place) (p : Place) (back : List Place)
    → places_with_opening (length front) o (front ++ p ∷ back) ≡ front ++ place_with_front o p.piece ∷ back
with_opening_there o [] p back = refl
with_opening_there o (f ∷ front) p back = ap (λ r. f ∷ r) (with_opening_there o front p back)

pub with_opening_behind : (o : Opening) (front : List Place) (n : ℕ) (p : Place) (back : List Place)
    → places_with_opening (length front + suc n) o (front ++ p ∷ back) ≡ front ++ p ∷ places_with_opening n o back
with_opening_behind o [] n p back = let e : 0 + suc n ≡ suc n = omega arith in rw e refl
with_opening_behind o (f ∷ front) n p back =
    let e : length (f ∷ front) + suc n ≡ suc (length front + suc n) = omega arith in
    cc (with_opening_behind o front n p back)

-- a token with a text, which begins where its span does
abbrev pub Begins : Piece → Type 0
Begins t = (i : Surroundings) (s u : Cursor) → IsToken i t.kind t.span s u
    → (t.span.start ≡ s.mark) × IsTrue (begins_text (slice_index s.rest 0))

-- what comes before a token
abbrev pub opens_block : Opening → Bool
opens_block opening.BlockMappingAndKey = true
opens_block _ = false

abbrev pub column_of : Opening → ℕ → Collections → Collections
column_of opening.BlockMappingAndKey column opened = with_column column opened
column_of _ column opened = opened

-- The tokens of an opening are taken from the text where their candidate stands. They have no text, so they begin and
-- end there, and the other tokens are as they were. But behind a block mapping's start all later ones have to be
-- right of its column, which holds since they are on its line (`quiet_tokens`).
opening_tokens : (opened : Collections) (o : Opening) (t : Piece) (back : List Piece) (s u : Cursor) → Begins t
    → (opens_block o ≡ true → AreQuiet (t ∷ back))
    → (opens_block o ≡ true → EndsOnLine t.span.start u)
    → (opens_block o ≡ true → least_column_in opened.columns ≤ t.span.start.col) → AreInside 0 (t ∷ back) 0
    → (opens_block o ≡ false → nat_lt 0 opened.brackets ≡ false
    → IsAtColumn (least_column_in opened.columns) t.span.start) → AreTokens opened (t ∷ back) s u
    → AreTokens opened (place_pieces o t ++ back) s u
opening_tokens opened opening.Nothing t back s u b q n r x c h = h
opening_tokens opened opening.Key t back s u b q n r x c h =
    let place = b _ h.0 h.1 h.3 in
    let At : Marker → Type 0 = λ m. IsAtColumn (least_column_in opened.columns) m in
    let P : Collections → Type 0 = λ x. AreTokens x (t ∷ back) h.0 u in (
      h.0,
      h.0,
      h.2,
      inr (refl, place.0, refl, place.1, λ f. subst At place.0 (c refl f)),
      subst P (sym (key_starts t.span.start opened)) (h.0, h.1, taken.nothing _ _, h.3, h.4),
    )
opening_tokens opened opening.FlowMappingAndKey t back s u b q n r x c h =
    let place = b _ h.0 h.1 h.3 in
    let At : Marker → Type 0 = λ m. IsAtColumn (least_column_in opened.columns) m in
    let P : Collections → Type 0 = λ x. AreTokens x (empty_piece t.span.start tokens.Key ∷ t ∷ back) h.0 u in
    let Q : Collections → Type 0 = λ x. AreTokens x (t ∷ back) h.0 u in (
      h.0,
      h.0,
      h.2,
      inr (refl, inl place.0, refl),
      subst P (sym (pair_starts t.span.start opened)) (
        h.0,
        h.0,
        taken.nothing _ _,
        inr (refl, place.0, refl, place.1, λ f. subst At place.0 (c refl f)),
        subst Q (sym (key_starts t.span.start opened)) (h.0, h.1, taken.nothing _ _, h.3, h.4),
      ),
    )
opening_tokens opened opening.BlockMappingAndKey t back s u b q n r x c h =
    let place = b _ h.0 h.1 h.3 in
    let k = quiet_tokens t.span.start.col opened (t ∷ back) h.0 u 0 0 (omega arith) x (q refl)
    (rw place.0 at (n refl).0) (n refl).1 (h.0, h.1, taken.nothing _ _, h.3, h.4) in
    let begun = with_column t.span.start.col opened in
    let P : Collections → Type 0 = λ x. AreTokens x (empty_piece t.span.start tokens.Key ∷ t ∷ back) h.0 u in
    let Q : Collections → Type 0 = λ x. AreTokens x (t ∷ back) h.0 u in (
      h.0,
      h.0,
      h.2,
      (refl, place.0, refl, place.1, rw place.0 at (r refl)),
      subst P (sym (mapping_starts t.span.start opened)) (
        h.0,
        h.0,
        taken.nothing _ _,
        inr (refl, place.0, refl, place.1, λ _. ap (λ (m : Marker). m.col + 1) place.0),
        subst Q (sym (key_starts t.span.start begun)) k,
      ),
    )

opening_open : (opened : Collections) (o : Opening) (t : Piece) (back : List Piece)
    → (opens_block o ≡ true → AreQuiet (t ∷ back))
    → open_all (place_pieces o t ++ back) opened ≡ column_of o t.span.start.col (open_all (t ∷ back) opened)
opening_open opened opening.Nothing t back q = refl
opening_open opened opening.Key t back q = ap (open_all (t ∷ back)) (key_starts t.span.start opened)
opening_open opened opening.FlowMappingAndKey t back q =
    cc (pair_starts t.span.start opened, key_starts t.span.start opened)
opening_open opened opening.BlockMappingAndKey t back q =
    ap (open_all (empty_piece t.span.start tokens.Key ∷ t ∷ back)) (mapping_starts t.span.start opened)
    ∙ ap (open_all (t ∷ back)) (key_starts t.span.start (with_column t.span.start.col opened))
    ∙ quiet_all t.span.start.col (t ∷ back) opened (q refl)

-- a token in the queue, before which nothing is, is opened
pub place_tokens : (opened : Collections) (o : Opening) (front : List Place) (t : Piece) (back : List Place)
    (s u : Cursor) → Begins t → (opens_block o ≡ true → AreQuiet (t ∷ flat back))
    → (opens_block o ≡ true → EndsOnLine t.span.start u)
    → (opens_block o ≡ true → least_column_in (open_all (flat front) opened).columns ≤ t.span.start.col)
    → AreInside 0 (t ∷ flat back) 0
    → (opens_block o ≡ false → nat_lt 0 (open_all (flat front) opened).brackets ≡ false
    → IsAtColumn (least_column_in (open_all (flat front) opened).columns) t.span.start)
    → AreTokens opened (flat (front ++ bare_place t ∷ back)) s u
    → AreTokens opened (flat (front ++ place_with_front o t ∷ back)) s u
place_tokens opened o front t back s u b q n c x at h =
    let P : List Piece → Type 0 = λ l. AreTokens opened l s u in
    let r = tokens_part opened (flat front) (t ∷ flat back) s u (subst P (flat_append front (bare_place t ∷ back)) h) in
    let k = opening_tokens (open_all (flat front) opened) o t (flat back) r.between u b q n c x at r.back in
    subst P (sym (flat_append front (place_with_front o t ∷ back)))
    (tokens_append opened (flat front) (place_pieces o t ++ flat back) s r.between u r.front k)

pub place_open : (opened : Collections) (o : Opening) (front : List Place) (t : Piece) (back : List Place)
    → (opens_block o ≡ true → AreQuiet (t ∷ flat back))
    → open_all (flat (front ++ place_with_front o t ∷ back)) opened
    ≡ column_of o t.span.start.col (open_all (flat (front ++ bare_place t ∷ back)) opened)
place_open opened o front t back q = grind (arith, flat_append, open_append, flat, place_pieces, opening_open)
