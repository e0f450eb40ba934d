-- Tokens that may be where they are, one part after the other, and the same tokens within other enclosures.
use Rattle.saphyr_scanner.proofs.Common.{◌≡◌, ℕ, zero, suc, ◌+◌, ◌-◌, Bool, true, false, List, [], ◌∷◌, ◌++◌, length, Option, Some, None, refl, sym, ap, ◌∙◌, arith, subst, IsTrue, ◌&&◌, not, if◌then◌else◌, and_parts, or-true, by_test, Marker, Span, Piece}
use Rattle.saphyr_scalar.specs.declared.scalar.style.ScalarStyle.TheVariants as style
use Rattle.saphyr_scanner.specs.Grammar.Tokens as tokens
use Rattle.saphyr_scanner.specs.Grammar.Tokens.{Kind}
use Rattle.saphyr_scanner.specs.TokensInPlace as place
use Rattle.saphyr_scanner.specs.TokensInPlace.{Enclosure, Enclosed, Begun, Enclosures, with_begun, turned_to, awaiting_colon, has_text, enclosures_behind, is_in_brackets, is_of_flow_node, fits_at, may_follow, may_stand, is_in_key, is_covered, is_indented, AreEachInside, AreInPlace, AreIndented}

-- ## One part after the other

-- what encloses the token after these
abbrev pub all_behind : List Piece → Enclosures → Enclosures
all_behind [] all = all
all_behind (p ∷ ps) all = all_behind ps (enclosures_behind p.kind p.span all)

pub behind_append : (ps qs : List Piece) (all : Enclosures)
    → all_behind (ps ++ qs) all ≡ all_behind qs (all_behind ps all)
behind_append [] qs all = refl
behind_append (p ∷ ps) qs all = behind_append ps qs (enclosures_behind p.kind p.span all)

-- what a token has to do with what encloses it
abbrev pub Holds : Type 0
Holds = Enclosures → Kind → Span → Bool

pub each_append : (holds : Holds) (ps qs : List Piece) (all : Enclosures) → AreEachInside holds all ps
    → AreEachInside holds (all_behind ps all) qs → AreEachInside holds all (ps ++ qs)
each_append holds [] qs all h k = k
each_append holds (p ∷ ps) qs all h k = (h.0, each_append holds ps qs (enclosures_behind p.kind p.span all) h.1 k)

pub each_parts : (holds : Holds) (ps qs : List Piece) (all : Enclosures) → AreEachInside holds all (ps ++ qs)
    → AreEachInside holds all ps × AreEachInside holds (all_behind ps all) qs
each_parts holds [] qs all h = (tt, h)
each_parts holds (p ∷ ps) qs all h =
    let r = each_parts holds ps qs (enclosures_behind p.kind p.span all) h.1 in ((h.0, r.0), r.1)

-- ## How deep tokens lead

-- how many brackets and braces are open after a token, of which so many are before
abbrev pub deeper : Kind → Span → ℕ → ℕ
deeper tokens.FlowSequenceStart span d = suc d
deeper tokens.FlowSequenceEnd span d = d - 1
deeper tokens.FlowMappingStart span d = if has_text span then suc d else d
deeper tokens.FlowMappingEnd span d = if has_text span then d - 1 else d
deeper _ span d = d

-- From one depth to another. At depth 0 all are tokens of a node that may be a key.
abbrev pub AreInside : ℕ → List Piece → ℕ → Type 0
AreInside d [] e = d ≡ e
AreInside zero (p ∷ ps) e = IsTrue (is_of_flow_node p.kind p.span) × AreInside (deeper p.kind p.span zero) ps e
AreInside (suc d) (p ∷ ps) e = AreInside (deeper p.kind p.span (suc d)) ps e

pub inside_rest : (d : ℕ) (p : Piece) (ps : List Piece) (e : ℕ) → AreInside d (p ∷ ps) e
    → AreInside (deeper p.kind p.span d) ps e
inside_rest d p ps e h = grind arith

pub inside_first : (d : ℕ) (p : Piece) (ps : List Piece) (e : ℕ) → AreInside d (p ∷ ps) e → d ≡ 0
    → IsTrue (is_of_flow_node p.kind p.span)
inside_first d p ps e h i = grind arith

pub inside_of : (d : ℕ) (p : Piece) (ps : List Piece) (e : ℕ) → (d ≡ 0 → IsTrue (is_of_flow_node p.kind p.span))
    → AreInside (deeper p.kind p.span d) ps e → AreInside d (p ∷ ps) e
inside_of d p ps e f h = grind arith

pub inside_append : (ps qs : List Piece) (a b c : ℕ) → AreInside a ps b → AreInside b qs c → AreInside a (ps ++ qs) c
inside_append [] qs a b c h k = let P : ℕ → Type 0 = λ n. AreInside n qs c in subst P (sym h) k
inside_append (p ∷ ps) qs a b c h k = inside_of a p (ps ++ qs) c (inside_first a p ps b h)
    (inside_append ps qs (deeper p.kind p.span a) b c (inside_rest a p ps b h) k)

pub inside_parts : (ps qs : List Piece) (a c : ℕ) → AreInside a (ps ++ qs) c
    → (b : ℕ) × AreInside a ps b × AreInside b qs c
inside_parts [] qs a c h = (a, refl, h)
inside_parts (p ∷ ps) qs a c h =
    let r = inside_parts ps qs (deeper p.kind p.span a) c (inside_rest a p (ps ++ qs) c h) in
    (r.0, inside_of a p ps r.0 (inside_first a p (ps ++ qs) c h) r.1, r.2)

deeper_shift : (kind : Kind) (span : Span) (m a : ℕ) → (a ≡ 0 → IsTrue (is_of_flow_node kind span))
    → deeper kind span (m + a) ≡ m + deeper kind span a
deeper_shift tokens.FlowSequenceStart span m a f = omega arith
deeper_shift tokens.FlowSequenceEnd span m zero f = absurd (let no : false ≡ true = f refl in cc)
deeper_shift tokens.FlowSequenceEnd span m (suc a) f = omega arith
deeper_shift tokens.FlowMappingStart span m a f = by (has_text span)
  where
    by : (b : Bool) → (if b then suc (m + a) else m + a) ≡ m + (if b then suc a else a)
    by b = grind arith
deeper_shift tokens.FlowMappingEnd span m zero f = absurd (let no : false ≡ true = f refl in cc)
deeper_shift tokens.FlowMappingEnd span m (suc a) f = by (has_text span)
  where
    by : (b : Bool) → (if b then m + suc a - 1 else m + suc a) ≡ m + (if b then suc a - 1 else suc a)
    by b = grind arith
deeper_shift _ span m a f = refl

-- from a deeper place the same tokens lead as much deeper
pub inside_shift : (ps : List Piece) (m a b c : ℕ) → AreInside a ps b → AreInside (m + a) ps c → c ≡ m + b
inside_shift [] m a b c h k = sym k ∙ ap (λ n. m + n) h
inside_shift (p ∷ ps) m a b c h k =
    let P : ℕ → Type 0 = λ n. AreInside n ps c in
    inside_shift ps m (deeper p.kind p.span a) b c (inside_rest a p ps b h)
    (subst P (deeper_shift p.kind p.span m a (inside_first a p ps b h)) (inside_rest (m + a) p ps c k))

-- ## The same tokens within other enclosures

abbrev stacked : List Enclosed → Enclosures → Enclosures
stacked [] all = all
stacked (t ∷ ts) all = record {
  inner = t;
  outer = (stacked ts all).inner ∷ (stacked ts all).outer;
  begun = all.begun;
  columns = (stacked ts all).columns;
}

-- what encloses, of which the innermost are these, and what has begun
abbrev pub on_top : List Enclosed → Begun → Enclosures → Enclosures
on_top ts g all = with_begun g (stacked ts all)

of_node_fits : (e : Enclosure) (key : Option Marker) (columns : List ℕ) (kind : Kind) (span : Span)
    → IsTrue (is_of_flow_node kind span) → IsTrue (fits_at e key columns kind span)
of_node_fits e key columns kind span h = grind arith

-- in brackets no column counts
fits_in_brackets : (e : Enclosure) (key : Option Marker) (columns others : List ℕ) (kind : Kind) (span : Span)
    → IsTrue (is_in_brackets e) → fits_at e key others kind span ≡ fits_at e key columns kind span
fits_in_brackets e key columns others kind span h = grind arith

-- in brackets and in an implicit key no token has to be right of a column
covered_indented : (all : Enclosures) (kind : Kind) (span : Span) → IsTrue (is_covered all.inner)
    → IsTrue (is_indented all kind span)
covered_indented all kind span h = rw h (or-true (not (is_of_flow_node kind span)))

-- no block collection has begun right in front
abbrev pub takes_node : Begun → Bool
takes_node place.BlockSequence = false
takes_node place.BlockMapping = false
takes_node _ = true

-- no start of a block collection, no `-` and no colon
abbrev begins_node : Kind → Bool
begins_node tokens.BlockSequenceStart = false
begins_node tokens.BlockMappingStart = false
begins_node tokens.BlockEntry = false
begins_node tokens.Value = false
begins_node _ = true

node_begins : (kind : Kind) (span : Span) → IsTrue (is_of_flow_node kind span) → begins_node kind ≡ true
node_begins kind span h = grind arith

pub node_may_follow : (g : Begun) (kind : Kind) (span : Span) → takes_node g ≡ true → begins_node kind ≡ true
    → may_follow g kind span ≡ true
node_may_follow g kind span h b = grind arith

-- ## Tokens that neither begin nor end a block collection nor an entry of a sequence, and are no block scalars

abbrev pub is_quiet : Kind → Bool
is_quiet tokens.BlockSequenceStart = false
is_quiet tokens.BlockMappingStart = false
is_quiet tokens.BlockEnd = false
is_quiet tokens.BlockEntry = false
is_quiet (tokens.Scalar style.Literal value) = false
is_quiet (tokens.Scalar style.Folded value) = false
is_quiet _ = true

abbrev pub AreQuiet : List Piece → Type 0
AreQuiet [] = Unit {0}
AreQuiet (p ∷ ps) = (is_quiet p.kind ≡ true) × AreQuiet ps

-- what has begun after a token
abbrev pub begun_by : Kind → Span → Begun
begun_by tokens.BlockSequenceStart span = place.BlockSequence
begun_by tokens.BlockMappingStart span = place.BlockMapping
begun_by (tokens.Anchor name) span = place.Property span.end.line
begun_by (tokens.Tag handle suffix) span = place.Property span.end.line
begun_by tokens.Key span = if has_text span then place.Nothing else place.KeyStart
begun_by (tokens.Alias name) span = place.Content span.end.line
begun_by (tokens.Scalar style value) span = place.behind_scalar style span.end.line
begun_by tokens.FlowSequenceEnd span = place.Content span.end.line
begun_by tokens.FlowMappingEnd span = if has_text span then place.Content span.end.line else place.Nothing
begun_by _ span = place.Nothing

pub begun_behind : (kind : Kind) (span : Span) (all : Enclosures)
    → (enclosures_behind kind span all).begun ≡ begun_by kind span
begun_behind tokens.FlowMappingStart span all =
    by_test (has_text span) _ _ (λ (x : Enclosures). x.begun ≡ place.Nothing) (λ _. refl) (λ _. refl)
begun_behind tokens.FlowMappingEnd span all =
    by (has_text span)
  where
    by : (b : Bool) → (if b then with_begun (place.Content span.end.line) (place.left_for all.outer all.columns)
        else turned_to place.Sequence all).begun
        ≡ (if b then place.Content span.end.line else place.Nothing)
    by b = grind arith
begun_behind tokens.Key span all = by (has_text span)
  where
    by : (b : Bool) → (if b then turned_to (place.enclosure_behind_question all.inner.enclosure) all else
        awaiting_colon span.start all).begun ≡ (if b then place.Nothing else place.KeyStart)
    by b = grind arith
begun_behind _ span all = refl

abbrev AreBrackets : List Enclosed → Type 0
AreBrackets [] = Unit {0}
AreBrackets (t ∷ ts) = IsTrue (is_in_brackets t.enclosure) × AreBrackets ts

-- what the innermost are after a token
record Top (kind : Kind) (span : Span) (ts : List Enclosed) : Type 0 where
  top : List Enclosed
  brackets : AreBrackets top
  depth : length top ≡ deeper kind span (length ts)
  behind : (g : Begun) (all : Enclosures)
      → enclosures_behind kind span (on_top ts g all) ≡ on_top top (begun_by kind span) all

top_of_node : (kind : Kind) (span : Span) → IsTrue (is_of_flow_node kind span) → Top kind span []
top_of_node (tokens.Alias name) span h = record { top = []; brackets = tt; depth = refl; behind = λ g all. refl }
top_of_node (tokens.Anchor name) span h = record { top = []; brackets = tt; depth = refl; behind = λ g all. refl }
top_of_node (tokens.Tag handle suffix) span h = record { top = []; brackets = tt; depth = refl; behind = λ g all. refl }
top_of_node (tokens.Scalar style value) span h =
    record { top = []; brackets = tt; depth = refl; behind = λ g all. refl }
top_of_node tokens.FlowSequenceStart span h = record {
  top = record { enclosure = place.Sequence; key = None } ∷ [];
  brackets = (refl, tt);
  depth = refl;
  behind = λ g all. refl;
}
top_of_node tokens.FlowMappingStart span h = record {
  top = record { enclosure = place.Mapping; key = None } ∷ [];
  brackets = (refl, tt);
  depth = rw h refl;
  behind = λ g all. rw h refl;
}
top_of_node _ span h = absurd (let no : false ≡ true = h in cc)

-- the innermost changes
changed_top : (kind : Kind) (span : Span) (t u : Enclosed) (ts : List Enclosed) → AreBrackets (u ∷ ts)
    → ((d : ℕ) → deeper kind span d ≡ d)
    → ((g : Begun) (all : List Enclosed) (columns : List ℕ)
    → enclosures_behind kind span (record { inner = t; outer = all; begun = g; columns = columns })
    ≡ record { inner = u; outer = all; begun = begun_by kind span; columns = columns }) → Top kind span (t ∷ ts)
changed_top kind span t u ts b d e = record {
  top = u ∷ ts;
  brackets = b;
  depth = sym (d (length (t ∷ ts)));
  behind = λ g all. e g ((stacked ts all).inner ∷ (stacked ts all).outer) (stacked ts all).columns;
}

question_stays : (e : Enclosure) → IsTrue (is_in_brackets e)
    → IsTrue (is_in_brackets (place.enclosure_behind_question e))
question_stays e h = grind arith

comma_stays : (e : Enclosure) → IsTrue (is_in_brackets e) → IsTrue (is_in_brackets (place.behind_comma e))
comma_stays e h = grind arith

colon_stays : (e : Enclosure) → IsTrue (is_in_brackets e) → IsTrue (is_in_brackets (place.behind_pair_colon e))
colon_stays e h = grind arith

-- What one token in brackets does to the innermost pair of them: it opens one more, ends it, or leaves another
-- enclosure in its place. A start or end of a mapping and a key have two cases each, with a text and without, since a
-- single pair has tokens without a text.
top_behind : (kind : Kind) (span : Span) (t : Enclosed) (ts : List Enclosed) → is_quiet kind ≡ true
    → AreBrackets (t ∷ ts) → Top kind span (t ∷ ts)
top_behind tokens.FlowSequenceStart span t ts q b = record {
  top = record { enclosure = place.Sequence; key = None } ∷ t ∷ ts;
  brackets = (refl, b);
  depth = refl;
  behind = λ g all. refl;
}
top_behind tokens.FlowSequenceEnd span t ts q b =
    record { top = ts; brackets = b.1; depth = omega arith; behind = λ g all. refl }
top_behind tokens.FlowMappingStart span t ts q b = by (has_text span) refl
  where
    by : (x : Bool) → has_text span ≡ x → Top tokens.FlowMappingStart span (t ∷ ts)
    by true e = record {
      top = record { enclosure = place.Mapping; key = None } ∷ t ∷ ts;
      brackets = (refl, b);
      depth = rw e refl;
      behind = λ g all. rw e refl;
    }
    by false e = changed_top _ span t (record { enclosure = place.PairKey; key = None }) ts (refl, b.1) (λ d. rw e refl)
        (λ g all columns. rw e refl)
top_behind tokens.FlowMappingEnd span t ts q b = by (has_text span) refl
  where
    by : (x : Bool) → has_text span ≡ x → Top tokens.FlowMappingEnd span (t ∷ ts)
    by true e = record {
      top = ts;
      brackets = b.1;
      depth = rw e (omega arith);
      behind = λ g all. rw e refl;
    }
    by false e =
        changed_top _ span t (record { enclosure = place.Sequence; key = None }) ts (refl, b.1) (λ d. rw e refl)
        (λ g all columns. rw e refl)
top_behind tokens.Key span t ts q b = by (has_text span) refl
  where
    by : (x : Bool) → has_text span ≡ x → Top tokens.Key span (t ∷ ts)
    by true e = changed_top _ span t (record { enclosure = place.enclosure_behind_question t.enclosure; key = None }) ts
        (question_stays t.enclosure b.0, b.1) (λ d. refl) (λ g all columns. rw e refl)
    by false e = changed_top _ span t (record { enclosure = t.enclosure; key = Some span.start }) ts b (λ d. refl)
        (λ g all columns. rw e refl)
top_behind tokens.Value span t ts q b =
    changed_top _ span t (record { enclosure = place.behind_pair_colon t.enclosure; key = None }) ts
    (colon_stays t.enclosure b.0, b.1) (λ d. refl) (λ g all columns. refl)
top_behind tokens.FlowEntry span t ts q b =
    changed_top _ span t (record { enclosure = place.behind_comma t.enclosure; key = None }) ts
    (comma_stays t.enclosure b.0, b.1) (λ d. refl) (λ g all columns. refl)
top_behind tokens.BlockSequenceStart span t ts q b = absurd (cc)
top_behind tokens.BlockMappingStart span t ts q b = absurd (cc)
top_behind tokens.BlockEnd span t ts q b = absurd (cc)
top_behind _ span t ts q b = changed_top _ span t t ts b (λ d. refl) (λ g all columns. refl)

-- the tokens told within `b` and within `c`
record Carried (ps : List Piece) (ts : List Enclosed) (g : Begun) (e : ℕ) (b c : Enclosures) : Type 0 where
  top : List Enclosed
  last : Begun
  depth : length top ≡ e
  in_place : AreInPlace (on_top ts g c) ps
  indented : IsTrue (is_covered c.inner) → AreIndented (on_top ts g c) ps
  before : all_behind ps (on_top ts g b) ≡ on_top top last b
  behind : all_behind ps (on_top ts g c) ≡ on_top top last c

carry : (ps : List Piece) (ts : List Enclosed) (g : Begun) (e : ℕ) (b c : Enclosures) → AreBrackets ts → AreQuiet ps
    → AreInside (length ts) ps e → AreInPlace (on_top ts g b) ps → Carried ps ts g e b c
carry [] ts g e b c w q h k =
    record { top = ts; last = g; depth = h; in_place = tt; indented = λ _. tt; before = refl; behind = refl }
carry (p ∷ ps) ts g e b c w q h k = by ts w h k (λ us v. carry ps us (begun_by p.kind p.span) e b c v q.1)
  where
    Others : Type 0
    Others = (us : List Enclosed) → AreBrackets us → AreInside (length us) ps e
        → AreInPlace (on_top us (begun_by p.kind p.span) b) ps → Carried ps us (begun_by p.kind p.span) e b c

    further : (ts : List Enclosed) (u : Top p.kind p.span ts) → IsTrue (may_stand (on_top ts g c) p.kind p.span)
        → (IsTrue (is_covered c.inner) → IsTrue (is_indented (on_top ts g c) p.kind p.span))
        → AreInside (deeper p.kind p.span (length ts)) ps e
        → AreInPlace (enclosures_behind p.kind p.span (on_top ts g b)) ps → Others → Carried (p ∷ ps) ts g e b c
    further ts u f i h k go =
        let P : ℕ → Type 0 = λ n. AreInside n ps e in
        let Q : Enclosures → Type 0 = λ all. AreInPlace all ps in
        let R : Enclosures → Type 0 = λ all. AreIndented all ps in
        let r = go u.top u.brackets (subst P (sym u.depth) h) (subst Q (u.behind g b) k) in record {
          top = r.top;
          last = r.last;
          depth = r.depth;
          in_place = (f, subst Q (sym (u.behind g c)) r.in_place);
          indented = λ x. (i x, subst R (sym (u.behind g c)) (r.indented x));
          before = ap (all_behind ps) (u.behind g b) ∙ r.before;
          behind = ap (all_behind ps) (u.behind g c) ∙ r.behind;
        }

    by : (ts : List Enclosed) → AreBrackets ts → AreInside (length ts) (p ∷ ps) e
        → AreInPlace (on_top ts g b) (p ∷ ps) → Others → Carried (p ∷ ps) ts g e b c
    by [] w h k go =
        let x = and_parts (may_follow g p.kind p.span)
        (fits_at b.inner.enclosure b.inner.key b.columns p.kind p.span) k.0 in
        let fit = of_node_fits c.inner.enclosure c.inner.key c.columns p.kind p.span h.0 in
        further [] (top_of_node p.kind p.span h.0) (rw (x.0, fit) refl)
        (covered_indented (on_top [] g c) p.kind p.span) h.1 k.1 go
    by (t ∷ ts) w h k go =
        let same = fits_in_brackets t.enclosure t.key (stacked ts b).columns (stacked ts c).columns p.kind p.span w.0 in
        further (t ∷ ts) (top_behind p.kind p.span t ts q.0 w) (ap (λ x. may_follow g p.kind p.span && x) same ∙ k.0)
        (λ _. covered_indented (on_top (t ∷ ts) g c) p.kind p.span (rw w.0 (or-true (is_in_key t.key))))
        (inside_rest (length (t ∷ ts)) p ps e h) k.1 go

no_top : (ts : List Enclosed) (g : Begun) (all : Enclosures) → length ts ≡ 0 → on_top ts g all ≡ with_begun g all
no_top [] g all e = refl
no_top (t ∷ ts) g all e = absurd (omega (arith, e))

-- The tokens of a node that may be a key, within other enclosures and with something else right in front: they leave
-- the enclosures as these are.
pub record NodeCarried (ps : List Piece) (g f : Begun) (b c : Enclosures) : Type 0 where
  pub last : Begun
  pub in_place : AreInPlace (with_begun f c) ps
  pub indented : IsTrue (is_covered c.inner) → AreIndented (with_begun f c) ps
  pub before : all_behind ps (with_begun g b) ≡ with_begun last b
  pub behind : all_behind ps (with_begun f c) ≡ with_begun last c

pub node_carried : (t : Piece) (ps : List Piece) (g f : Begun) (b c : Enclosures) → takes_node f ≡ true
    → AreQuiet (t ∷ ps) → AreInside 0 (t ∷ ps) 0 → AreInPlace (with_begun g b) (t ∷ ps) → NodeCarried (t ∷ ps) g f b c
node_carried t ps g f b c takes q h k =
    let u = top_of_node t.kind t.span h.0 in
    let Q : Enclosures → Type 0 = λ all. AreInPlace all ps in
    let R : Enclosures → Type 0 = λ all. AreIndented all ps in
    let r = carry ps u.top (begun_by t.kind t.span) 0 b c u.brackets q.1
    (rw u.depth h.1) (subst Q (u.behind g b) k.1) in
    let fit = of_node_fits c.inner.enclosure c.inner.key c.columns t.kind t.span h.0 in
    let follows = node_may_follow f t.kind t.span takes (node_begins t.kind t.span h.0) in record {
      last = r.last;
      in_place = (rw (follows, fit) refl, subst Q (sym (u.behind f c)) r.in_place);
      indented = λ x. (
        covered_indented (with_begun f c) t.kind t.span x,
        subst R (sym (u.behind f c)) (r.indented x),
      );
      before = ap (all_behind ps) (u.behind g b) ∙ r.before ∙ no_top r.top r.last b r.depth;
      behind = ap (all_behind ps) (u.behind f c) ∙ r.behind ∙ no_top r.top r.last c r.depth;
    }

-- no block collection has begun before such a node
pub node_taken : (t : Piece) (ps : List Piece) (d : ℕ) (all : Enclosures) → AreInside 0 (t ∷ ps) d
    → AreInPlace all (t ∷ ps) → takes_node all.begun ≡ true
node_taken t ps d all h k = grind arith
