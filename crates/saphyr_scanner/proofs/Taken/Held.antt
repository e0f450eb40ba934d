-- What is known of the tokens that a scanner holds: they are taken from the text, and each may be where it is.
use Rattle.saphyr_scanner.proofs.Common.{◌≡◌, ℕ, zero, suc, ◌+◌, List, [], ◌∷◌, ◌++◌, length, None, refl, sym, ap, ◌∙◌, arith, subst, IsTrue, ◌≤◌, ◌<◌, ◌⊎◌, Bool, true, inl, inr, false, nat_lt, not, ◌&&◌, Marker, Cursor, Span, Piece, Context, IsPlainReading, by_test, ltb-false}
use Rattle.saphyr_scalar.specs.declared.scalar.style.ScalarStyle.TheVariants as style
use Rattle.saphyr_scanner.specs.Grammar.Tokens as tokens
use Rattle.saphyr_scanner.specs.Grammar.Tokens.{Kind}
use Rattle.saphyr_scanner.specs.Steps.Queue.{Queue, bare_place, with_piece}
use Rattle.saphyr_scanner.specs.Steps.Core.{Core, in_block, enter_block}
use Rattle.saphyr_scanner.specs.Steps.Level.{Level}
use Rattle.saphyr_scanner.specs.declared.engine.level.Context.TheVariants as context
use Rattle.saphyr_scanner.specs.TokensInPlace as place
use Rattle.saphyr_scanner.specs.TokensInPlace.{Enclosure, Enclosed, Begun, Enclosures, with_begun, begun_at, enclosures_behind, may_stand, AreInPlace, is_of_flow_node, fits_at, may_follow, EntryFront, front_behind, AreBare}
use Rattle.saphyr_scanner.specs.TokensTaken.{Collections, Surroundings, AreApart, LiesOnLine, IsToken, AreTokens, open_behind, least_column_in, surroundings_in, ends_json_behind}
use Rattle.saphyr_scanner.proofs.Leads.{flat}
use Rattle.saphyr_scanner.proofs.Taken.InPlace.{all_behind, behind_append, each_append, begun_by, begun_behind}
use Rattle.saphyr_scanner.proofs.Taken.KeysInPlace.{Outside, free, calmed, calm, IsPast, EndsOn, past_later, past_end, no_text}
use Rattle.saphyr_scanner.proofs.Taken.Bare.{fronts, fronts_append, bare_append, Agrees, IsEntry, KeepsEntry, KeepsFronts}
use Rattle.saphyr_scanner.proofs.Taken.Indented.{IsRight, Indented, KeepsRequired, indented_further}
use Rattle.saphyr_scanner.proofs.Taken.Later.{Later, top, apart_later, piece_later, end_stays}
use Rattle.saphyr_scanner.proofs.Taken.Separated.{apart_apart}
use Rattle.saphyr_scanner.proofs.Taken.Places.{token_goes_on, token_later, tokens_later}
use Rattle.saphyr_scanner.proofs.Taken.Parts.{open_all, open_append, tokens_append}
use Rattle.saphyr_scanner.proofs.Queues.{flat_append}

-- ## The open collections

-- the first columns to the right of the open block collections, and 0 after them
abbrev pub Stack : List ℕ → ℕ → List ℕ → Type 0
Stack [] i is = (i ≡ 0) × (is ≡ [])
Stack (column ∷ columns) i [] = ⊥
Stack (column ∷ columns) i (j ∷ is) = (i ≡ column + 1) × Stack columns j is

pub stack_indent : (columns : List ℕ) (i : ℕ) (is : List ℕ) → Stack columns i is → least_column_in columns ≡ i
stack_indent columns i is h = grind arith

-- what is open where the scanner is
abbrev pub Stands : Collections → Core → Type 0
Stands opened c = Stack opened.columns c.indent c.outer_indents × (opened.brackets ≡ length c.outer)

-- where the next token of a scanner is, and whether the text before ends like JSON
abbrev pub surroundings_of : Bool → Core → Surroundings
surroundings_of ends_json c = record { in_flow = nat_lt 0 (length c.outer); indent = c.indent; ends_json = ends_json }

stands_in : (opened : Collections) (c : Core) → Stands opened c
    → surroundings_in opened ≡ surroundings_of opened.ends_json c
stands_in opened c h = cc (stack_indent opened.columns c.indent c.outer_indents h.0)

-- as many of each are open
pub stands_same : (opened : Collections) (c d : Core) → d.indent ≡ c.indent → d.outer_indents ≡ c.outer_indents
    → length d.outer ≡ length c.outer → Stands opened c → Stands opened d
stands_same opened c d i o n h = grind arith

-- what encloses the tokens of a level, where no key's colon is to come
abbrev pub enclosure_of : Context → Enclosure
enclosure_of context.Block = place.Block
enclosure_of context.FlowSequence = place.Sequence
enclosure_of context.ExplicitFlowPair = place.MarkedEntry
enclosure_of context.FlowPair = place.PairValue
enclosure_of context.MarkedFlowPair = place.PairValue
enclosure_of context.FlowMapping = place.Mapping

abbrev pub enclosed_by : List Level → List Enclosed
enclosed_by [] = []
enclosed_by (l ∷ ls) = record { enclosure = enclosure_of l.context; key = None } ∷ enclosed_by ls

-- the columns of the open block collections, of which each is one left of an indentation
abbrev pub columns_of : ℕ → List ℕ → List ℕ
columns_of zero is = []
columns_of (suc column) [] = column ∷ []
columns_of (suc column) (i ∷ is) = column ∷ columns_of i is

abbrev pub outside_of : Core → Outside
outside_of c = record { enclosed = enclosed_by c.outer; columns = columns_of c.indent c.outer_indents }

abbrev pub enclosures_of : Core → Enclosures
enclosures_of c = free (enclosure_of c.level.context) (outside_of c)

-- a block collection began at a column
pub began_at : (g : Begun) (e : Enclosure) (column : ℕ) (c : Core)
    → begun_at g column (free e (outside_of c)) ≡ with_begun g (free e (outside_of (enter_block column c)))
began_at g e column c = grind arith

-- ## Where a colon may be with nothing after it

-- inside flow the place that is kept for such a colon comes after a text that ends like JSON, if the scanner is there
abbrev pub KeepsPlace : Bool → Core → Type 0
KeepsPlace ends_json c = (c.adjacent ≤ c.cursor.mark.index)
    × (c.cursor.mark.index ≡ c.adjacent → 0 < length c.outer → ends_json ≡ true)

pub keeps_further : (ends_json : Bool) (c d : Core) → c.cursor.mark.index ≤ d.cursor.mark.index
    → d.adjacent ≡ c.adjacent → length d.outer ≡ length c.outer → KeepsPlace ends_json c → KeepsPlace ends_json d
keeps_further ends_json c d l e n k =
    (omega (arith, l, e, k.0), λ h s. k.1 (omega (arith, l, e, k.0, h)) (omega (arith, n, s)))

-- with a token the place stays, or is the one after it, which ends like JSON
abbrev pub EndsJson : Piece → Type 0
EndsJson t = (b : Bool) → ends_json_behind t.kind t.span b ≡ true

abbrev pub Adjoins : Piece → Core → Core → Type 0
Adjoins t c d = (d.adjacent ≡ c.adjacent) ⊎ ((d.adjacent ≡ d.cursor.mark.index) × EndsJson t)

keeps_put : (i : Surroundings) (c d : Core) (t : Piece) (behind : Cursor) (opened : Collections)
    → IsToken i t.kind t.span c.cursor behind → AreApart behind d.cursor → i.in_flow ≡ nat_lt 0 (length c.outer)
    → opened.brackets ≡ length c.outer → (open_behind t.kind t.span opened).brackets ≡ length d.outer → Adjoins t c d
    → KeepsPlace opened.ends_json c → KeepsPlace (open_behind t.kind t.span opened).ends_json d
keeps_put i c d t behind opened is b flows before after adjoins k = grind
    (arith, apart_later, token_later, ltb-false, token_goes_on)

-- ## The tokens

-- what is open and what encloses
pub record Setting : Type 0 where
  pub collections : Collections
  pub enclosures : Enclosures
  pub front : EntryFront

abbrev pub setting_behind : List Piece → Setting → Setting
setting_behind ps opened = record {
  collections = open_all ps opened.collections;
  enclosures = all_behind ps opened.enclosures;
  front = fronts ps opened.front;
}

-- The tokens are taken from the text, and what encloses the next token is known. Where properties or content are last
-- no key may begin on their line.
pub record TakenWithin (within : Enclosures) (opened : Setting) (from : Cursor) (c : Core) (q : Queue) : Type 0 where
  pub last : Cursor
  pub tokens : AreTokens opened.collections (flat q.places) from last
  pub apart : AreApart last c.cursor
  pub stands : Stands (open_all (flat q.places) opened.collections) c
  pub in_place : AreInPlace opened.enclosures (flat q.places)
  pub encloses : calm (all_behind (flat q.places) opened.enclosures) ≡ within
  pub small : from.mark.line ≤ top
  pub ends : EndsOn (all_behind (flat q.places) opened.enclosures).begun last.mark.line
  pub past : c.key_allowed ≡ true → c.cursor.mark.line < top
      → IsPast (all_behind (flat q.places) opened.enclosures).begun (in_block c) c.cursor.mark.line
  pub bare : AreBare opened.front (flat q.places)
  pub agrees : Agrees opened.front opened.enclosures.begun
  pub entry : IsEntry (fronts (flat q.places) opened.front) c
  pub indented : Indented opened.enclosures c q
  pub right : IsRight c
  pub place : KeepsPlace (open_all (flat q.places) opened.collections).ends_json c

abbrev pub Taken : Setting → Cursor → Core → Queue → Type 0
Taken opened from c q = TakenWithin (enclosures_of c) opened from c q

pub taken_within : (v w : Enclosures) (opened : Setting) (from : Cursor) (c : Core) (q : Queue) → w ≡ v
    → TakenWithin v opened from c q → TakenWithin w opened from c q
taken_within v w opened from c q e h = rw e h

-- A key may begin only where one might before, or outside flow on a later line. Where none may the text goes on as
-- far right.
abbrev pub AllowsKey : Core → Core → Type 0
AllowsKey c d = (d.key_allowed ≡ true → (c.key_allowed ≡ true)
    ⊎ ((in_block d ≡ true) × (c.cursor.mark.line < d.cursor.mark.line))) × (IsRight c → IsRight d) × KeepsEntry c d

-- the text goes on after separation
pub taken_further : (within : Enclosures) (opened : Setting) (from : Cursor) (c d : Core) (q : Queue)
    → AreApart c.cursor d.cursor → d.indent ≡ c.indent → d.outer_indents ≡ c.outer_indents
    → length d.outer ≡ length c.outer → d.adjacent ≡ c.adjacent → AllowsKey c d → KeepsRequired c d
    → TakenWithin within opened from c q → TakenWithin within opened from d q
taken_further within opened from c d q a i o n e allows kept h =
    let now = all_behind (flat q.places) opened.enclosures in
    let first = (tokens_later opened.collections (flat q.places) from h.last h.tokens).lines h.small in
    let here = (apart_later h.last.mark h.last.rest c.cursor.mark c.cursor.rest h.apart).lines first.1 in
    let there = (apart_later c.cursor.mark c.cursor.rest d.cursor.mark d.cursor.rest a).lines here.1 in
    record {
      last = h.last;
      tokens = h.tokens;
      apart = apart_apart h.last.mark h.last.rest c.cursor.mark c.cursor.rest d.cursor.mark d.cursor.rest h.apart a;
      stands = stands_same (open_all (flat q.places) opened.collections) c d i o n h.stands;
      in_place = h.in_place;
      encloses = h.encloses;
      small = h.small;
      ends = h.ends;
      past = λ g small. elim (allows.0 g) [
        | inl f ↦ subst (λ b. IsPast now.begun b d.cursor.mark.line) (sym kept.block)
            (past_later now.begun (in_block c) c.cursor.mark.line d.cursor.mark.line there.0
            (h.past f (omega (arith, there.0, small))))
        | inr l ↦ subst (λ b. IsPast now.begun b d.cursor.mark.line) (sym l.0)
            (past_end now.begun h.last.mark.line d.cursor.mark.line (omega (arith, here.0, l.1)) h.ends)
      ];
      bare = h.bare;
      agrees = h.agrees;
      entry = allows.2 (fronts (flat q.places) opened.front) h.entry;
      indented = indented_further opened.enclosures c d q kept there.0
          (λ g. elim (allows.0 g) [ inl f ↦ inl f | inr l ↦ inr l.1 ]) (end_stays c.cursor d.cursor a) h.indented;
      right = allows.1 h.right;
      place = keeps_further (open_all (flat q.places) opened.collections).ends_json c d
          (apart_later c.cursor.mark c.cursor.rest d.cursor.mark d.cursor.rest a).index e n h.place;
    }

flat_put : (t : Piece) (q : Queue) → flat (with_piece t q).places ≡ flat q.places ++ t ∷ []
flat_put t q = flat_append q.places (bare_place t ∷ [])

-- how the open collections change with a token
abbrev pub Opens : Piece → Core → Core → Type 0
Opens t c d = (opened : Collections) → Stands opened c → Stands (open_behind t.kind t.span opened) d

-- the token may be where it comes
abbrev pub FitsWithin : Enclosures → Piece → Type 0
FitsWithin within t = IsTrue (may_stand within t.kind t.span)

-- ## A token is put

-- the start of a block collection, or an entry of a sequence
abbrev pub begins_block : Kind → Bool
begins_block tokens.BlockSequenceStart = true
begins_block tokens.BlockMappingStart = true
begins_block tokens.BlockEntry = true
begins_block _ = false

-- a property, or the end of a node's content in flow style: on its line no key may begin behind it
abbrev pub closes_keys : Kind → Span → Bool
closes_keys (tokens.Anchor name) span = true
closes_keys (tokens.Tag handle suffix) span = true
closes_keys (tokens.Alias name) span = true
closes_keys (tokens.Scalar style value) span = place.is_flow_style style
closes_keys tokens.FlowSequenceEnd span = true
closes_keys tokens.FlowMappingEnd span = place.has_text span
closes_keys _ span = false

-- behind a token a key may begin only on a later line
abbrev pub ClosesKeys : Piece → Core → Type 0
ClosesKeys t d =
    d.key_allowed ≡ true → d.cursor.mark.line < top → IsPast (begun_by t.kind t.span) (in_block d) d.cursor.mark.line

-- where a block collection or an entry begins
abbrev pub MayBegin : Piece → Core → Type 0
MayBegin t c = (c.key_allowed ≡ true) × (t.span.start.line ≡ c.cursor.mark.line) × (c.cursor.mark.line < top)

-- a block collection and an entry begin where a key may, and after properties or content no key may begin
abbrev pub IsParted : Piece → Core → Core → Type 0
IsParted t c d = (begins_block t.kind ≡ true → MayBegin t c) × ClosesKeys t d × KeepsFronts t c d

-- a token that is neither
abbrev pub is_unbound : Kind → Span → Bool
is_unbound kind span = not (begins_block kind) && not (closes_keys kind span)

pub open_keys : (t : Piece) (d : Core) → closes_keys t.kind t.span ≡ false → ClosesKeys t d
open_keys t d e = grind arith

unbound_apart : (t : Piece) (c d : Core) → is_unbound t.kind t.span ≡ true
    → (begins_block t.kind ≡ true → MayBegin t c) × ClosesKeys t d
unbound_apart t c d e = grind arith

pub unbound_parted : (t : Piece) (c d : Core) → is_unbound t.kind t.span ≡ true → KeepsFronts t c d → IsParted t c d
unbound_parted t c d e fronts = let r = unbound_apart t c d e in (r.0, r.1, fronts)

pub same_calm : (kind : Kind) (span : Span) (all : Enclosures) → closes_keys kind span ≡ false
    → calm (enclosures_behind kind span all) ≡ enclosures_behind kind span all
same_calm kind span all e = grind arith

pub unbound_calm : (kind : Kind) (span : Span) (all : Enclosures) → is_unbound kind span ≡ true
    → calm (enclosures_behind kind span all) ≡ enclosures_behind kind span all
unbound_calm kind span all e = grind arith

node_begins_none : (kind : Kind) (span : Span) → IsTrue (is_of_flow_node kind span) → begins_block kind ≡ false
node_begins_none kind span node = grind arith

-- a node's token begins no block collection
pub node_parted : (t : Piece) (c d : Core) → IsTrue (is_of_flow_node t.kind t.span) → ClosesKeys t d
    → KeepsFronts t c d → IsParted t c d
node_parted t c d node closes fronts =
    ((λ b. absurd (let no = node_begins_none t.kind t.span node in cc)), closes, fronts)

calmed_fits : (g : Begun) (block : Bool) (kind : Kind) (span : Span) (fit : Bool)
    → (may_follow (calmed g) kind span && fit) ≡ true → (begins_block kind ≡ true → IsPast g block span.start.line)
    → (may_follow g kind span && fit) ≡ true
calmed_fits g block kind span fit h past = grind arith

-- what encloses the token after does not rest on what has begun in front
behind_begun : (kind : Kind) (span : Span) (g : Begun) (all : Enclosures)
    → enclosures_behind kind span (with_begun g all) ≡ enclosures_behind kind span all
behind_begun kind span g all = grind arith

-- a plain scalar ends before the white space after it
plain_end_line : (f : Bool) (s t : Cursor) (text : List ℕ) (end : Marker) → IsPlainReading f s text end t
    → s.mark.line ≤ top → end.line ≤ t.mark.line
plain_end_line f s t text end r l =
    let P : Marker → Type 0 = λ k. Later s.mark (r.piece ++ (r.white ++ t.rest)) k (r.white ++ t.rest) in
    let Q : Marker → Type 0 = λ k. Later end (r.white ++ t.rest) k t.rest in
    let a = subst P r.ends (piece_later s.mark r.piece (r.white ++ t.rest)) in
    let b = subst Q r.behind (piece_later end r.white t.rest) in (b.lines ((a.lines l).1)).0

on_its_line : (s : Cursor) (m : Marker) → LiesOnLine s m → m.line ≤ s.mark.line
on_its_line s m h = let e = ap (λ (k : Marker). k.line) h.4 in omega (arith, e)

-- properties end where their token does, and content there or before
begun_ends : (i : Surroundings) (kind : Kind) (span : Span) (s t : Cursor) → s.mark.line ≤ top → IsToken i kind span s t
    → EndsOn (begun_by kind span) t.mark.line
begun_ends i (tokens.Anchor name) span s t l h = ap (λ (m : Marker). m.line) h.3.end
begun_ends i (tokens.Tag handle suffix) span s t l h = ap (λ (m : Marker). m.line) h.6.end
begun_ends i (tokens.Alias name) span s t l h = let e = ap (λ (m : Marker). m.line) h.3.end in omega (arith, e)
begun_ends i (tokens.Scalar style.Plain value) span s t l h =
    plain_end_line i.in_flow s t value span.end h.reading l
begun_ends i (tokens.Scalar style.SingleQuoted value) span s t l h = on_its_line t span.end h.5
begun_ends i (tokens.Scalar style.DoubleQuoted value) span s t l h = on_its_line t span.end h.5
begun_ends i (tokens.Scalar style.Literal value) span s t l h = tt
begun_ends i (tokens.Scalar style.Folded value) span s t l h = tt
begun_ends i tokens.FlowSequenceEnd span s t l h = on_its_line t span.end h.2
begun_ends i tokens.FlowMappingEnd span s t l (inl h) =
    by_test (place.has_text span) _ _ (λ g. EndsOn g t.mark.line) (λ _. on_its_line t span.end h.2) (λ _. tt)
begun_ends i tokens.FlowMappingEnd span s t l (inr h) = rw no tt
  where
    no : place.has_text span ≡ false
    no = rw h.0 (no_text span.start.index)
begun_ends i tokens.Key span s t l h = by_test (place.has_text span) _ _ (λ g. EndsOn g t.mark.line) (λ _. tt) (λ _. tt)
begun_ends i _ span s t l h = tt

-- where lines count up, the tokens stay right of their collections' columns
abbrev pub PutsIndented : Setting → Core → Core → Queue → Piece → Type 0
PutsIndented opened c d q t = c.cursor.mark.line ≤ d.cursor.mark.line → Indented opened.enclosures c q
    → Indented opened.enclosures d (with_piece t q)

-- a token is put after the others, from the place that is reached
pub taken_put : (within : Enclosures) (opened : Setting) (from : Cursor) (c d : Core) (q : Queue) (t : Piece)
    (behind : Cursor) → ((b : Bool) → KeepsPlace b c → IsToken (surroundings_of b c) t.kind t.span c.cursor behind)
    → AreApart behind d.cursor → Opens t c d → Adjoins t c d → FitsWithin within t → IsParted t c d → IsRight d
    → PutsIndented opened c d q t → TakenWithin within opened from c q
    → TakenWithin (calm (enclosures_behind t.kind t.span within)) opened from d (with_piece t q)
taken_put within opened from c d q t behind known b o adjoins f parted right puts h =
    let open_now = open_all (flat q.places) opened.collections in
    let around = surroundings_of open_now.ends_json c in
    let is = known open_now.ends_json h.place in
    let i : surroundings_in open_now ≡ around = stands_in open_now c h.stands in
    let stands_then = o open_now h.stands in
    let one : AreTokens open_now (t ∷ []) h.last behind = (c.cursor, behind, h.apart, rw i is, refl) in
    let all = tokens_append opened.collections (flat q.places) (t ∷ []) from h.last behind h.tokens one in
    let same : flat q.places ++ t ∷ [] ≡ flat (with_piece t q).places = sym (flat_put t q) in
    let open_then : open_all (flat (with_piece t q).places) opened.collections ≡ open_behind t.kind t.span open_now =
    ap (λ l. open_all l opened.collections) (flat_put t q) ∙ open_append (flat q.places) (t ∷ []) opened.collections in
    let now = all_behind (flat q.places) opened.enclosures in
    let then : all_behind (flat (with_piece t q).places) opened.enclosures ≡ enclosures_behind t.kind t.span now =
    cc (flat_put t q, behind_append (flat q.places) (t ∷ []) opened.enclosures) in
    let begun = ap (λ (x : Enclosures). x.begun) then ∙ begun_behind t.kind t.span now in
    let fit = parted.2 (fronts (flat q.places) opened.front) h.entry in
    let front : fronts (flat (with_piece t q).places) opened.front
    ≡ front_behind t.kind (fronts (flat q.places) opened.front) =
    ap (λ l. fronts l opened.front) (flat_put t q) ∙ fronts_append (flat q.places) (t ∷ []) opened.front in
    let first = (tokens_later opened.collections (flat q.places) from h.last h.tokens).lines h.small in
    let here = (apart_later h.last.mark h.last.rest c.cursor.mark c.cursor.rest h.apart).lines first.1 in
    let token = (token_later around t.kind t.span c.cursor behind is).lines here.1 in
    let ends = (apart_later behind.mark behind.rest d.cursor.mark d.cursor.rest b).lines token.1 in
    record {
      last = behind;
      tokens = rw same at all;
      apart = b;
      stands = rw open_then stands_then;
      in_place = rw same at (each_append may_stand (flat q.places) (t ∷ []) opened.enclosures h.in_place
          (put_fits within now t c d h.encloses f parted h.past, tt));
      encloses = cc (behind_begun t.kind t.span (calmed now.begun) now);
      small = h.small;
      ends = rw begun (begun_ends around t.kind t.span c.cursor behind here.1 is);
      past = λ e small. rw begun (parted.1 e small);
      bare = subst (AreBare opened.front) same
          (bare_append (flat q.places) (t ∷ []) opened.front h.bare (fit.0, tt));
      agrees = h.agrees;
      entry = subst (λ f. IsEntry f d) (sym front) fit.1;
      indented = puts (omega (arith, token.0, ends.0)) h.indented;
      right = right;
      place = rw open_then (keeps_put around c d t behind open_now is b refl h.stands.1 stands_then.1 adjoins h.place);
    }
  where
    put_fits : (within now : Enclosures) (t : Piece) (c d : Core) → calm now ≡ within → FitsWithin within t
        → IsParted t c d
        → (c.key_allowed ≡ true → c.cursor.mark.line < top → IsPast now.begun (in_block c) c.cursor.mark.line)
        → FitsWithin now t
    put_fits within now t c d e f parted past =
        let P : Enclosures → Type 0 = λ x. FitsWithin x t in
        let Q : ℕ → Type 0 = λ m. IsPast now.begun (in_block c) m in
        calmed_fits now.begun (in_block c) t.kind t.span
        (fits_at now.inner.enclosure now.inner.key now.columns t.kind t.span)
        (subst P (sym e) f) (λ b. let w = parted.0 b in subst Q (sym w.1) (past w.0 w.2))
