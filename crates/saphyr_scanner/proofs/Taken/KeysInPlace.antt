-- Tokens stay in their places where a candidate turns out to be a key.
use Rattle.saphyr_scanner.proofs.Common.{◌≡◌, ℕ, Bool, true, false, List, ◌∷◌, ◌++◌, None, refl, arith, IsTrue, ◌≤◌, ◌<◌, nat_lt, nat_tests, or-true, Marker, Span, Opening, Piece}
use Rattle.saphyr_scanner.specs.declared.queue.Opening.TheVariants as opening
use Rattle.saphyr_scanner.specs.Grammar.Tokens as tokens
use Rattle.saphyr_scanner.specs.Steps.Queue.{empty_piece}
use Rattle.saphyr_scanner.specs.TokensInPlace as place
use Rattle.saphyr_scanner.specs.TokensInPlace.{Enclosure, Enclosed, Begun, Enclosures, with_begun, begun_at, turned_to, awaiting_colon, may_begin_pair, may_begin_key, may_follow, AreInPlace, AreIndented}
use Rattle.saphyr_scanner.proofs.Leads.{place_pieces}
use Rattle.saphyr_scanner.proofs.Taken.InPlace.{all_behind, AreInside, takes_node, node_may_follow, AreQuiet, node_carried}

-- ## A node's tokens right in front

-- what encloses, but for properties or content that come right before
abbrev pub calmed : Begun → Begun
calmed (place.Property line) = place.Nothing
calmed (place.Content line) = place.Nothing
calmed g = g

abbrev pub calm : Enclosures → Enclosures
calm all = with_begun (calmed all.begun) all

-- properties or content that come right before end before a line, and inside flow no properties come
abbrev pub IsPast : Begun → Bool → ℕ → Type 0
IsPast (place.Property line) true n = line < n
IsPast (place.Property line) false n = ⊥
IsPast (place.Content line) block n = line < n
IsPast _ block n = Unit {0}

-- properties end on a line, and content on it or before
abbrev pub EndsOn : Begun → ℕ → Type 0
EndsOn (place.Property line) n = line ≡ n
EndsOn (place.Content line) n = line ≤ n
EndsOn _ n = Unit {0}

pub past_later : (g : Begun) (block : Bool) (m n : ℕ) → m ≤ n → IsPast g block m → IsPast g block n
past_later g block m n l h = grind arith

pub past_end : (g : Begun) (m n : ℕ) → m < n → EndsOn g m → IsPast g true n
past_end g m n l e = grind arith

past_follows : (g : Begun) (span : Span) → takes_node g ≡ true → IsPast g true span.start.line
    → may_follow g tokens.BlockMappingStart span ≡ true
past_follows g span h l = grind arith

-- ## A candidate turns out to be a key

pub no_text : (n : ℕ) → nat_lt n n ≡ false
no_text n = grind (arith, nat_tests)

-- what encloses a key's tokens, the first of which was met
abbrev pub in_key : Marker → Enclosures → Enclosures
in_key m all = with_begun place.Nothing (awaiting_colon m all)

abbrev pub awaited : Opening → Marker → Enclosures → Enclosures
awaited opening.Nothing m all = all
awaited opening.Key m all = in_key m all
awaited opening.BlockMappingAndKey m all = in_key m (begun_at place.BlockMapping m.col all)
awaited opening.FlowMappingAndKey m all = in_key m (turned_to place.PairKey all)

abbrev pub MayOpen : Opening → Enclosure → Type 0
MayOpen opening.Nothing e = ⊥
MayOpen opening.FlowMappingAndKey e = IsTrue (may_begin_pair e)
MayOpen _ e = IsTrue (may_begin_key e)

-- what is around a level: what encloses it, and the columns of the open block collections
pub record Outside : Type 0 where
  pub enclosed : List Enclosed
  pub columns : List ℕ

-- within e no key waits
abbrev pub free : Enclosure → Outside → Enclosures
free e outside = record {
  inner = record { enclosure = e; key = None };
  outer = outside.enclosed;
  begun = place.Nothing;
  columns = outside.columns;
}

-- the tokens of a candidate, with what has begun right before it
pub record Opened (o : Opening) (t : Piece) (back : List Piece) (g : Begun) (all : Enclosures) : Type 0 where
  pub last : Begun
  pub before : all_behind (t ∷ back) (with_begun g all) ≡ with_begun last all
  pub in_place : AreInPlace (with_begun g all) (place_pieces o t ++ back)
  pub indented : AreIndented (with_begun g all) (place_pieces o t ++ back)
  pub behind : all_behind (place_pieces o t ++ back) (with_begun g all) ≡ with_begun last (awaited o t.span.start all)

-- The tokens of a candidate may stand where it does, and those behind it still may. A case for each opening: nothing,
-- a key, a block mapping and its key, a single pair and its key. The tokens behind it are quiet, so they stand alike
-- in the setting that awaits a colon (`node_carried`).
pub opened_in_place : (o : Opening) (t : Piece) (back : List Piece) (g : Begun) (e : Enclosure) (outside : Outside)
    → MayOpen o e → takes_node g ≡ true → (o ≡ opening.BlockMappingAndKey → IsPast g true t.span.start.line)
    → AreQuiet (t ∷ back) → AreInside 0 (t ∷ back) 0
    → AreInPlace (with_begun g (free e outside)) (t ∷ back) → Opened o t back g (free e outside)
opened_in_place opening.Nothing t back g e outside m f l q h k = absurd m
opened_in_place opening.Key t back g e outside m f l q h k =
    let all = awaiting_colon t.span.start (free e outside) in
    let r = node_carried t back g all.begun (free e outside) all refl q h k in
    let no = no_text t.span.start.index in
    let key = node_may_follow g tokens.Key (empty_piece t.span.start tokens.Key).span f refl in
    record {
      last = r.last;
      before = r.before;
      in_place = rw (no, m, key) (refl, r.in_place);
      indented = rw no (refl, r.indented refl);
      behind = rw no r.behind;
    }
opened_in_place opening.BlockMappingAndKey t back g e outside m f l q h k =
    let all = awaiting_colon t.span.start (begun_at place.BlockMapping t.span.start.col (free e outside)) in
    let r = node_carried t back g all.begun (free e outside) all refl q h k in
    let no = no_text t.span.start.index in
    let start = past_follows g (empty_piece t.span.start tokens.BlockMappingStart).span f (l refl) in
    record {
      last = r.last;
      before = r.before;
      in_place = rw (no, m, start) (refl, (refl, r.in_place));
      indented = rw no (refl, (refl, r.indented refl));
      behind = rw no r.behind;
    }
opened_in_place opening.FlowMappingAndKey t back g e outside m f l q h k =
    let all = awaiting_colon t.span.start (turned_to place.PairKey (free e outside)) in
    let r = node_carried t back g all.begun (free e outside) all refl q h k in
    let no = no_text t.span.start.index in
    let start = node_may_follow g tokens.FlowMappingStart (empty_piece t.span.start tokens.FlowMappingStart).span f
    refl in
    let key = or-true (nat_lt t.span.start.index t.span.start.index) in
    record {
      last = r.last;
      before = r.before;
      in_place = rw (no, m, start) (refl, (key, r.in_place));
      indented = rw no (refl, (refl, r.indented refl));
      behind = rw no r.behind;
    }
