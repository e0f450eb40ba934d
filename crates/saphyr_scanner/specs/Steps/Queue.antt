-- The tokens that were read and not handed out.
use Rattle.std.specs.Prelude.{ℕ, zero, suc, ◌+◌, ◌-◌, Bool, true, false, List, [], ◌∷◌, ◌++◌, length, Option, Some, None}
use Rattle.saphyr_scalar.specs.declared.scalar.position.Marker.{Marker}
use Rattle.saphyr_scanner.specs.declared.queue.Opening.{Opening}
use Rattle.saphyr_scanner.specs.declared.queue.Opening.TheVariants as opening
use Rattle.saphyr_scanner.specs.Grammar.Tokens as tokens
use Rattle.saphyr_scanner.specs.Grammar.Tokens.{Kind}
use Rattle.saphyr_scanner.specs.Views.Tokens.{Piece}

-- a token, and what comes before it
pub record Place : Type 0 where
  pub opening : Opening
  pub piece : Piece

-- the places of the tokens, and how many places were handed out before them
pub record Queue : Type 0 where
  pub places : List Place
  pub handed : ℕ

abbrev pub empty : Queue
empty = record { places = []; handed = 0 }

abbrev pub is_empty_list : {X : Type 0} → List X → Bool
is_empty_list [] = true
is_empty_list (x ∷ xs) = false

abbrev pub is_empty : Queue → Bool
is_empty q = is_empty_list q.places

-- the number of the place that comes next
abbrev pub next : Queue → ℕ
next q = q.handed + length q.places

abbrev pub bare_place : Piece → Place
bare_place t = record { opening = opening.Nothing; piece = t }

abbrev pub with_piece : Piece → Queue → Queue
with_piece t q = record q { places = q.places ++ bare_place t ∷ [] }

-- this comes before the token at the nth of the places
abbrev pub places_with_opening : ℕ → Opening → List Place → List Place
places_with_opening n o [] = []
places_with_opening zero o (p ∷ ps) = record { opening = o; piece = p.piece } ∷ ps
places_with_opening (suc n) o (p ∷ ps) = p ∷ places_with_opening n o ps

abbrev pub with_opening : ℕ → Opening → Queue → Queue
with_opening n o q = record q { places = places_with_opening (n - q.handed) o q.places }

-- a token without characters
abbrev pub empty_piece : Marker → Kind → Piece
empty_piece m kind = record { span = record { start = m; end = m }; kind = kind }

-- ## Taking the first token off

abbrev pub take_first : List Place → Queue → Option Piece × Queue
take_first [] q = (None, q)
take_first (p ∷ ps) q = (Some p.piece, record { places = ps; handed = q.handed + 1 })

-- a token before the first place's own, and what is left there
abbrev pub take_front : Kind → Opening → Place → List Place → Queue → Option Piece × Queue
take_front kind left p ps q =
    (Some (empty_piece p.piece.span.start kind), record q { places = record { opening = left; piece = p.piece } ∷ ps })

abbrev pub take_of : Opening → Place → List Place → Queue → Option Piece × Queue
take_of opening.Nothing p ps q = take_first (p ∷ ps) q
take_of opening.Key p ps q = take_front tokens.Key opening.Nothing p ps q
take_of opening.BlockMappingAndKey p ps q = take_front tokens.BlockMappingStart opening.Key p ps q
take_of opening.FlowMappingAndKey p ps q = take_front tokens.FlowMappingStart opening.Key p ps q

abbrev pub take_from : List Place → Queue → Option Piece × Queue
take_from [] q = (None, q)
take_from (p ∷ ps) q = take_of p.opening p ps q

abbrev pub take : Queue → Option Piece × Queue
take q = take_from q.places q

-- ## The tokens of places

-- the tokens of a place
abbrev pub place_pieces : Opening → Piece → List Piece
place_pieces opening.Nothing t = t ∷ []
place_pieces opening.Key t = empty_piece t.span.start tokens.Key ∷ t ∷ []
place_pieces opening.BlockMappingAndKey t =
    empty_piece t.span.start tokens.BlockMappingStart ∷ empty_piece t.span.start tokens.Key ∷ t ∷ []
place_pieces opening.FlowMappingAndKey t =
    empty_piece t.span.start tokens.FlowMappingStart ∷ empty_piece t.span.start tokens.Key ∷ t ∷ []

-- the tokens of places, in order
abbrev pub flat : List Place → List Piece
flat [] = []
flat (p ∷ ps) = place_pieces p.opening p.piece ++ flat ps
