-- What stays so of a nest, event after event: a stream is in nothing, and a collection in a document.
use Rattle.std.proofs.Common.{◌≡◌, List, [], ◌∷◌, ◌++◌, Option, Some, None, option_map, option_and_then, refl, sym, ap, subst, ◌∙◌}
use Rattle.saphyr_parser.specs.Events.{Happening, Nothing, StreamStart, StreamEnd, DocumentStart, DocumentEnd, Alias, Scalar, SequenceStart, SequenceEnd, MappingStart, MappingEnd}
use Rattle.saphyr_parser.specs.Nesting.{NestPlace, BeforeStream, InStream, BehindStream, BeforeRoot, BehindRoot, InSequence, BeforeKey, BeforeValue, Nest, nest_behind_stream, nest_inside, place_behind_node, place_behind_document, place_behind_stream_start, place_behind_stream_end, with_next_place, nest_of_outer, end_document, end_sequence, end_mapping, nest_behind_event, nest_behind_all}
use Rattle.yaml_tree.specs.DocumentSeen.{nest_in_stream}

-- ## Longer lists

append_along : (o : Option Nest) (f g h : Nest → Option Nest) → ((n : Nest) → f n ≡ option_and_then h (g n))
    → option_and_then f o ≡ option_and_then h (option_and_then g o)
append_along None f g h each = refl
append_along (Some n) f g h each = each n

pub nest_behind_all-append : (xs ys : List Happening) (n : Nest)
    → nest_behind_all (xs ++ ys) n ≡ option_and_then (nest_behind_all ys) (nest_behind_all xs n)
nest_behind_all-append [] ys n = refl
nest_behind_all-append (x ∷ xs) ys n = append_along (nest_behind_event x n) (nest_behind_all (xs ++ ys))
    (nest_behind_all xs) (nest_behind_all ys) (nest_behind_all-append xs ys)

-- ## Places

-- a place that isn't one of a stream
abbrev IsInner : NestPlace → Type 0
IsInner BeforeStream = ⊥
IsInner InStream = ⊥
IsInner BehindStream = ⊥
IsInner _ = Unit {0}

abbrev IsCollection : NestPlace → Type 0
IsCollection InSequence = Unit {0}
IsCollection BeforeKey = Unit {0}
IsCollection BeforeValue = Unit {0}
IsCollection _ = ⊥

collection_is_inner : (p : NestPlace) → IsCollection p → IsInner p
collection_is_inner BeforeRoot h = tt
collection_is_inner BehindRoot h = tt
collection_is_inner _ h = h

-- the one place may become the other: what is inside stays so, and so do collections
abbrev Follows : NestPlace → NestPlace → Type 0
Follows p q = IsInner p → IsInner q × (IsCollection p → IsCollection q)

follows_node : (p q : NestPlace) → place_behind_node p ≡ Some q → Follows p q
follows_node BeforeRoot q e h = let same : BehindRoot ≡ q = cc in (subst IsInner same tt, λ c. absurd c)
follows_node BehindRoot q e h = absurd (cc)
follows_node InSequence q e h =
    let same : InSequence ≡ q = cc in (subst IsInner same tt, λ c. subst IsCollection same c)
follows_node BeforeKey q e h =
    let same : BeforeValue ≡ q = cc in (subst IsInner same tt, λ c. subst IsCollection same c)
follows_node BeforeValue q e h =
    let same : BeforeKey ≡ q = cc in (subst IsInner same tt, λ c. subst IsCollection same c)
follows_node _ q e h = absurd h

-- what leads on from a place of a stream leads nowhere from others
outside : (p : NestPlace) → IsInner p
    → (place_behind_stream_start p ≡ None) × (place_behind_document p ≡ None) × (place_behind_stream_end p ≡ None)
outside BeforeStream h = absurd h
outside InStream h = absurd h
outside BehindStream h = absurd h
outside _ h = (refl, refl, refl)

-- ## Steps

-- the innermost place becomes the one after it
record Moves (behind : NestPlace → Option NestPlace) (n m : Nest) : Type 0 where
  next : behind n.innermost ≡ Some m.innermost
  outer : n.outer ≡ m.outer

moves_to : (behind : NestPlace → Option NestPlace) (o : Option NestPlace) (n m : Nest) → behind n.innermost ≡ o
    → option_map (λ place. record n { innermost = place }) o ≡ Some m → Moves behind n m
moves_to behind None n m is e = absurd (cc)
moves_to behind (Some q) n m is e =
    let same : record n { innermost = q } ≡ m = cc in
    record { next = is ∙ ap (λ (k : Nest). Some k.innermost) same; outer = ap (λ (k : Nest). k.outer) same }

moves : (behind : NestPlace → Option NestPlace) (n m : Nest) → with_next_place behind n ≡ Some m → Moves behind n m
moves behind n m e = moves_to behind (behind n.innermost) n m refl e

-- what is around becomes the innermost, and moves
record Closes (behind : NestPlace → Option NestPlace) (outer : List NestPlace) (m : Nest) : Type 0 where
  around : NestPlace
  split : outer ≡ around ∷ m.outer
  next : behind around ≡ Some m.innermost

closes : (behind : NestPlace → Option NestPlace) (outer : List NestPlace) (m : Nest)
    → option_and_then (with_next_place behind) (nest_of_outer outer) ≡ Some m → Closes behind outer m
closes behind [] m e = absurd (cc)
closes behind (q ∷ qs) m e =
    let moved = moves behind (record { innermost = q; outer = qs }) m e in
    record { around = q; split = ap (λ (l : List NestPlace). q ∷ l) moved.outer; next = moved.next }

ends : (p : NestPlace) (outer : List NestPlace) (m : Nest)
    → (end_document (record { innermost = p; outer = outer }) p ≡ Some m
    → (p ≡ BehindRoot) × Closes place_behind_document outer m)
    × (end_sequence (record { innermost = p; outer = outer }) p ≡ Some m
    → (p ≡ InSequence) × Closes place_behind_node outer m)
    × (end_mapping (record { innermost = p; outer = outer }) p ≡ Some m
    → (p ≡ BeforeKey) × Closes place_behind_node outer m)
ends BehindRoot outer m =
    (λ e. (refl, closes place_behind_document outer m e), λ e. absurd (cc), λ e. absurd (cc))
ends InSequence outer m =
    (λ e. absurd (cc), λ e. (refl, closes place_behind_node outer m e), λ e. absurd (cc))
ends BeforeKey outer m =
    (λ e. absurd (cc), λ e. absurd (cc), λ e. (refl, closes place_behind_node outer m e))
ends _ outer m = (λ e. absurd (cc), λ e. absurd (cc), λ e. absurd (cc))

-- ## Events

-- after one event, and then after others
record Between (h : Happening) (hs : List Happening) (n m : Nest) : Type 0 where
  middle : Nest
  first : nest_behind_event h n ≡ Some middle
  others : nest_behind_all hs middle ≡ Some m

between : (o : Option Nest) (h : Happening) (hs : List Happening) (n m : Nest) → nest_behind_event h n ≡ o
    → option_and_then (nest_behind_all hs) o ≡ Some m → Between h hs n m
between None h hs n m is e = absurd (cc)
between (Some k) h hs n m is e = record { middle = k; first = is; others = e }

follows_none : (o : Option NestPlace) (p q : NestPlace) → (IsInner p → o ≡ None) → o ≡ Some q → Follows p q
follows_none o p q nowhere e h = let none = nowhere h in absurd (cc)

-- What holds of an innermost place and those around it holds after each event too.
record Stays (Holds : NestPlace → List NestPlace → Type 0) : Type 0 where
  moves : (p q : NestPlace) (outer : List NestPlace) → Follows p q → Holds p outer → Holds q outer
  inside : (place p : NestPlace) (outer : List NestPlace) → IsInner place → Holds p outer → Holds place (p ∷ outer)
  behind_document : (p : NestPlace) (outer : List NestPlace) → Holds BehindRoot (p ∷ outer) → Holds p outer
  behind_collection : (p q r : NestPlace) (outer : List NestPlace) → IsCollection p → place_behind_node q ≡ Some r
      → Holds p (q ∷ outer) → Holds r outer

abbrev HoldsOf : (NestPlace → List NestPlace → Type 0) → Nest → Type 0
HoldsOf Holds n = Holds n.innermost n.outer

moved : (Holds : NestPlace → List NestPlace → Type 0) (behind : NestPlace → Option NestPlace) (n m : Nest) → Stays Holds
    → HoldsOf Holds n → ((q : NestPlace) → behind n.innermost ≡ Some q → Follows n.innermost q)
    → with_next_place behind n ≡ Some m → HoldsOf Holds m
moved Holds behind n m stays h follows e =
    let to = moves behind n m e in
    subst (Holds m.innermost) to.outer
    (stays.moves n.innermost m.innermost n.outer (follows m.innermost to.next) h)

begun : (Holds : NestPlace → List NestPlace → Type 0) (place : NestPlace) (n m : Nest) → Stays Holds → IsInner place
    → HoldsOf Holds n → Some (nest_inside place n) ≡ Some m → HoldsOf Holds m
begun Holds place n m stays inner h e =
    let same : nest_inside place n ≡ m = cc in
    subst (HoldsOf Holds) same (stays.inside place n.innermost n.outer inner h)

document_ended : (Holds : NestPlace → List NestPlace → Type 0) (n m : Nest) → Stays Holds → HoldsOf Holds n
    → nest_behind_event DocumentEnd n ≡ Some m → HoldsOf Holds m
document_ended Holds n m stays h e =
    let end = (ends n.innermost n.outer m).0 e in
    let around = stays.behind_document end.1.around m.outer
    (subst (Holds BehindRoot) end.1.split (subst (λ (q : NestPlace). Holds q n.outer) end.0 h)) in
    stays.moves end.1.around m.innermost m.outer
    (follows_none _ end.1.around m.innermost (λ inner. (outside end.1.around inner).1) end.1.next) around

collection_ended : (Holds : NestPlace → List NestPlace → Type 0) (place : NestPlace) (n m : Nest) → Stays Holds
    → IsCollection place → HoldsOf Holds n → (n.innermost ≡ place) × Closes place_behind_node n.outer m
    → HoldsOf Holds m
collection_ended Holds place n m stays is h (same, to) =
    stays.behind_collection place to.around m.innermost m.outer is to.next
    (subst (Holds place) to.split (subst (λ (q : NestPlace). Holds q n.outer) same h))

step : (Holds : NestPlace → List NestPlace → Type 0) (h : Happening) (n m : Nest) → Stays Holds → HoldsOf Holds n
    → nest_behind_event h n ≡ Some m → HoldsOf Holds m
step Holds Nothing n m stays h e = absurd (cc)
step Holds StreamStart n m stays h e = moved Holds place_behind_stream_start n m stays h
    (λ q. follows_none _ n.innermost q (λ inner. (outside n.innermost inner).0)) e
step Holds StreamEnd n m stays h e = moved Holds place_behind_stream_end n m stays h
    (λ q. follows_none _ n.innermost q (λ inner. (outside n.innermost inner).2)) e
step Holds (DocumentStart explicit) n m stays h e = begun Holds BeforeRoot n m stays tt h e
step Holds DocumentEnd n m stays h e = document_ended Holds n m stays h e
step Holds (Alias id) n m stays h e = moved Holds place_behind_node n m stays h (follows_node n.innermost) e
step Holds (Scalar text style id tag) n m stays h e =
    moved Holds place_behind_node n m stays h (follows_node n.innermost) e
step Holds (SequenceStart id tag) n m stays h e = begun Holds InSequence n m stays tt h e
step Holds SequenceEnd n m stays h e =
    collection_ended Holds InSequence n m stays tt h ((ends n.innermost n.outer m).1 e)
step Holds (MappingStart id tag) n m stays h e = begun Holds BeforeKey n m stays tt h e
step Holds MappingEnd n m stays h e =
    collection_ended Holds BeforeKey n m stays tt h ((ends n.innermost n.outer m).2 e)

holds_behind : (Holds : NestPlace → List NestPlace → Type 0) (hs : List Happening) (n m : Nest) → Stays Holds
    → HoldsOf Holds n → nest_behind_all hs n ≡ Some m → HoldsOf Holds m
holds_behind Holds [] n m stays h e = let same : n ≡ m = cc in subst (HoldsOf Holds) same h
holds_behind Holds (x ∷ hs) n m stays h e =
    let parts = between (nest_behind_event x n) x hs n m refl e in
    holds_behind Holds hs parts.middle m stays (step Holds x n parts.middle stays h parts.first) parts.others

-- ## A stream is in nothing

-- no place of a stream is in another
abbrev pub AreGrounded : NestPlace → List NestPlace → Type 0
AreGrounded p [] = Unit {0}
AreGrounded p (q ∷ qs) = IsInner p × AreGrounded q qs

grounded_moves : (p q : NestPlace) (outer : List NestPlace) → Follows p q → AreGrounded p outer → AreGrounded q outer
grounded_moves p q [] follows h = tt
grounded_moves p q (r ∷ rs) follows h = ((follows h.0).0, h.1)

stays_grounded : Stays AreGrounded
stays_grounded = record {
  moves = grounded_moves;
  inside = λ place p outer i h. (i, h);
  behind_document = λ p outer h. h.1;
  behind_collection = λ p q r outer i e h. grounded_moves q r outer (follows_node q r e) h.1;
}

-- where a document may be in it nothing is open but the stream
only_stream : (q r : NestPlace) (outer : List NestPlace) → AreGrounded q outer → place_behind_document q ≡ Some r
    → record { innermost = r; outer = outer } ≡ nest_in_stream
only_stream InStream r [] g e = cc
only_stream InStream r (s ∷ ss) g e = absurd g.0
only_stream _ r outer g e = absurd (cc)

one_end : (n m : Nest) → HoldsOf AreGrounded n → nest_behind_event DocumentEnd n ≡ Some m → m ≡ nest_in_stream
one_end n m g e =
    let end = (ends n.innermost n.outer m).0 e in
    only_stream end.1.around m.innermost m.outer (subst (AreGrounded n.innermost) end.1.split g).1 end.1.next

behind_end : (o : Option Nest) (hs : List Happening) (n m : Nest) → HoldsOf AreGrounded n → nest_behind_all hs n ≡ o
    → option_and_then (nest_behind_all (DocumentEnd ∷ [])) o ≡ Some m → m ≡ nest_in_stream
behind_end None hs n m g is e = absurd (cc)
behind_end (Some k) hs n m g is e = let last = between (nest_behind_event DocumentEnd k) DocumentEnd [] k m refl e in
    let same : last.middle ≡ m = cc (last.others) in
    sym same ∙ one_end k last.middle (holds_behind AreGrounded hs n k stays_grounded g is) last.first

pub leaves_stream : (hs : List Happening) (n m : Nest) → AreGrounded n.innermost n.outer
    → nest_behind_all (hs ++ DocumentEnd ∷ []) n ≡ Some m → m ≡ nest_in_stream
leaves_stream hs n m g e = behind_end (nest_behind_all hs n) hs n m g refl
    (sym (nest_behind_all-append hs (DocumentEnd ∷ []) n) ∙ e)

-- ## A collection is in a document

-- right inside the stream is a collection
abbrev pub AreStuck : NestPlace → List NestPlace → Type 0
AreStuck p [] = ⊥
AreStuck p (q ∷ []) = IsCollection p × (q ≡ InStream)
AreStuck p (q ∷ r ∷ rs) = AreStuck q (r ∷ rs)

stuck_moves : (p q : NestPlace) (outer : List NestPlace) → Follows p q → AreStuck p outer → AreStuck q outer
stuck_moves p q [] follows h = absurd h
stuck_moves p q (r ∷ []) follows h = ((follows (collection_is_inner p h.0)).1 h.0, h.1)
stuck_moves p q (r ∷ s ∷ ss) follows h = h

stuck_inside : (place p : NestPlace) (outer : List NestPlace) → IsInner place → AreStuck p outer
    → AreStuck place (p ∷ outer)
stuck_inside place p [] i h = absurd h
stuck_inside place p (q ∷ qs) i h = h

stuck_behind_document : (p : NestPlace) (outer : List NestPlace) → AreStuck BehindRoot (p ∷ outer) → AreStuck p outer
stuck_behind_document p [] h = absurd h.0
stuck_behind_document p (q ∷ qs) h = h

stuck_behind_collection : (p q r : NestPlace) (outer : List NestPlace) → IsCollection p
    → place_behind_node q ≡ Some r → AreStuck p (q ∷ outer) → AreStuck r outer
stuck_behind_collection p q r [] i e h =
    let none = subst (λ (s : NestPlace). place_behind_node s ≡ Some r) h.1 e in absurd (cc)
stuck_behind_collection p q r (s ∷ ss) i e h = stuck_moves q r (s ∷ ss) (follows_node q r e) h

stays_stuck : Stays AreStuck
stays_stuck = record {
  moves = stuck_moves;
  inside = stuck_inside;
  behind_document = stuck_behind_document;
  behind_collection = stuck_behind_collection;
}

-- so the stream's end isn't reached
pub never_ends : (hs : List Happening) (n : Nest) → AreStuck n.innermost n.outer
    → nest_behind_all hs n ≡ Some nest_behind_stream → ⊥
never_ends hs n h e = holds_behind AreStuck hs n nest_behind_stream stays_stuck h e
