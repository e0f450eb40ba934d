-- The places of the queue are in order, and what a step does to it keeps them so.
use Rattle.std.proofs.Common.{◌≡◌, ℕ, zero, suc, ◌-◌, ◌≤◌, List, [], ◌∷◌, ◌++◌, arith}
use Rattle.saphyr_scanner.specs.declared.queue.Opening.{Opening}
use Rattle.saphyr_scanner.specs.Views.Tokens.{Piece}
use Rattle.saphyr_scanner.specs.Steps.Queue.{Place, Queue, bare_place, places_with_opening}
use Rattle.saphyr_scanner.specs.Grammar.Tokens.{Kind}
use Rattle.saphyr_scalar.specs.declared.scalar.position.Marker.{Marker}
use Rattle.saphyr_scanner.specs.Steps.Core.{Core, Action, Put, Open, act, perform, at_mark}
use Rattle.saphyr_scanner.specs.Steps.State.{State, with_core, with_action}
use Rattle.saphyr_scanner.proofs.Counted.{Ahead, stays}

-- the tokens of the places, from `low` on to n
abbrev pub PlacesInOrder : ℕ → ℕ → List Place → Type 0
PlacesInOrder n low [] = low ≤ n
PlacesInOrder n low (p ∷ ps) = (low ≤ p.piece.span.start.index) × (p.piece.span.start.index ≤ p.piece.span.end.index)
    × PlacesInOrder n p.piece.span.end.index ps

-- the tokens that are put into the queue, from `low` on to n
abbrev pub PutsInOrder : ℕ → ℕ → List Action → Type 0
PutsInOrder n low [] = low ≤ n
PutsInOrder n low (Put t ∷ others) =
    (low ≤ t.span.start.index) × (t.span.start.index ≤ t.span.end.index) × PutsInOrder n t.span.end.index others
PutsInOrder n low (Open k o ∷ others) = PutsInOrder n low others

pub places_within : (n low : ℕ) (ps : List Place) → PlacesInOrder n low ps → low ≤ n
places_within n low [] h = h
places_within n low (p ∷ ps) h = omega (arith, h.0, h.1, places_within n p.piece.span.end.index ps h.2)

pub places_further : (n m low : ℕ) (ps : List Place) → n ≤ m → PlacesInOrder n low ps → PlacesInOrder m low ps
places_further n m low [] k h = omega (arith, h, k)
places_further n m low (p ∷ ps) k h = (h.0, h.1, places_further n m p.piece.span.end.index ps k h.2)

place_put : (n m low : ℕ) (ps : List Place) (t : Piece) → PlacesInOrder n low ps → n ≤ t.span.start.index
    → t.span.start.index ≤ t.span.end.index → t.span.end.index ≤ m → PlacesInOrder m low (ps ++ bare_place t ∷ [])
place_put n m low [] t h a b c = (omega (arith, h, a), b, c)
place_put n m low (p ∷ ps) t h a b c = (h.0, h.1, place_put n m p.piece.span.end.index ps t h.2 a b c)

-- What comes before a token has its place.
place_opened : (n low k : ℕ) (o : Opening) (ps : List Place) → PlacesInOrder n low ps
    → PlacesInOrder n low (places_with_opening k o ps)
place_opened n low k o [] h = h
place_opened n low zero o (p ∷ ps) h = h
place_opened n low (suc k) o (p ∷ ps) h = (h.0, h.1, place_opened n p.piece.span.end.index k o ps h.2)

pub performed : (n m low : ℕ) (actions : List Action) (q : Queue) → PlacesInOrder n low q.places
    → PutsInOrder m n actions → PlacesInOrder m low (perform actions q).places
performed n m low [] q h k = places_further n m low q.places k h
performed n m low (Put t ∷ others) q h k = performed t.span.end.index m low others (act (Put t) q)
    (place_put n t.span.end.index low q.places t h k.0 k.1 (omega arith)) k.2
performed n m low (Open i o ∷ others) q h k =
    performed n m low others (act (Open i o) q) (place_opened n low (i - q.handed) o q.places h) k

-- ## States

abbrev pub InOrder : ℕ → State → Type 0
InOrder low s = PlacesInOrder s.core.cursor.mark.index low s.queue.places

-- from s to t: the text is passed on, and the tokens of the queue stay in order
pub record GrowsInOrder (s t : State) : Type 0 where
  pub ahead : Ahead s.core.cursor t.core.cursor
  pub ordered : (low : ℕ) → InOrder low s → InOrder low t

pub grows_grows : (s t u : State) → GrowsInOrder s t → GrowsInOrder t u → GrowsInOrder s u
grows_grows s t u a b = grind arith

-- the queue stays as it is
pub core_grows : (s t : State) → Ahead s.core.cursor t.core.cursor → t.queue ≡ s.queue → GrowsInOrder s t
core_grows s t a e = grind (arith, places_further)

-- a token without characters at the place that is reached
pub put_grows : (s : State) (m : Marker) (kind : Kind) (d : Core) → d.cursor ≡ s.core.cursor
    → m.index ≡ s.core.cursor.mark.index → GrowsInOrder s (with_action (at_mark m kind) (with_core d s))
put_grows s m kind d e i = grind (arith, stays, place_put)
