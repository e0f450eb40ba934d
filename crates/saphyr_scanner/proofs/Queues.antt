-- The queue of a scanner: its places and their pieces.
use Rattle.std.proofs.Common.{◌≡◌, ◌+◌, ℕ, suc, List, [], ◌∷◌, ◌++◌, length, refl, ap, append_assoc, arith}
use Rattle.std.specs.Prelude.{map}
use Rattle.std.proofs.lemmas.List.{map-append}
use Rattle.saphyr_scalar.specs.declared.scalar.position.Marker.{Marker}
use Rattle.saphyr_scanner.specs.declared.queue.Opening.{Opening}
use Rattle.saphyr_scanner.specs.Grammar.Tokens.{BlockEnd, Kind}
use Rattle.saphyr_scanner.specs.Views.Queue.{with_block_ends}
use Rattle.saphyr_scanner.specs.Views.Tokens.{Piece}
use Rattle.saphyr_scanner.specs.Steps.Core.{Core}
use Rattle.saphyr_scanner.specs.Steps.Queue.{Place, Queue, bare_place, empty_piece, places_with_opening, with_piece}
use Rattle.saphyr_scanner.specs.Steps.State.{State}
use Rattle.saphyr_scanner.proofs.Leads.{flat, place_pieces}

-- the queue of these places, of which so many were handed out before
abbrev pub queue_at : List Place → ℕ → Queue
queue_at ps n = record { places = ps; handed = n }

-- a state with them
abbrev pub holding : Core → List Place → ℕ → State
holding c ps n = record { core = c; queue = queue_at ps n }

-- a place with what is put before its token
abbrev pub place_with_front : Opening → Piece → Place
place_with_front o t = record { opening = o; piece = t }

pub flat_append : (ps qs : List Place) → flat (ps ++ qs) ≡ flat ps ++ flat qs
flat_append [] qs = refl
flat_append (p ∷ ps) qs = cc (flat_append ps qs, append_assoc (place_pieces p.opening p.piece) (flat ps) (flat qs))

-- the queue of these places, of which none was handed out
abbrev pub queue_of : List Place → Queue
queue_of ps = queue_at ps 0

-- a token that was read
abbrev pub token_place : Marker → Marker → Kind → Place
token_place a b kind = bare_place (record { span = record { start = a; end = b }; kind = kind })

-- the place_kinds of the tokens of places
abbrev pub place_kinds : List Place → List Kind
place_kinds ps = map (λ (t : Piece). t.kind) (flat ps)

pub place_kinds_append : (a b : List Place) → place_kinds (a ++ b) ≡ place_kinds a ++ place_kinds b
place_kinds_append a b = cc (flat_append a b, map-append (λ (t : Piece). t.kind) (flat a) (flat b))

-- the place before the others that come after it is opened
pub with_opening_seam : (o : Opening) (ps : List Place) (p : Place) (qs : List Place)
    → places_with_opening (length ps) o (ps ++ p ∷ qs) ≡ ps ++ record { opening = o; piece = p.piece } ∷ qs
with_opening_seam o [] p qs = refl
with_opening_seam o (q ∷ ps) p qs = ap (λ (x : List Place). q ∷ x) (with_opening_seam o ps p qs)

-- one more end behind the others
pub next_end : (n : ℕ) (m : Marker) (q : Queue)
    → with_block_ends (n + 1) m q ≡ with_piece (empty_piece m BlockEnd) (with_block_ends n m q)
next_end n m q = let same : n + 1 ≡ suc n = omega arith in rw same refl
