-- What contracts see of the queue.
use Rattle.std.specs.Prelude.{◌≡◌, ◌+◌, [], ◌∷◌, drop, List, ℕ, zero, suc, Option, Some, None}
use Rattle.saphyr_scalar.specs.declared.scalar.position.Marker.{Marker}
use Rattle.saphyr_scanner.specs.declared.queue.Queue as declared_queue
use Rattle.saphyr_scanner.specs.declared.queue.place.Place as declared_place
use Rattle.saphyr_scanner.specs.declared.token.TokenKind.{TokenKind}
use Rattle.saphyr_scanner.specs.Views.Places.{places_at}
use Rattle.saphyr_scanner.specs.Views.Tokens.{Piece, token_kind}
use Rattle.saphyr_scanner.specs.Grammar.Tokens.{BlockEnd}
use Rattle.saphyr_scanner.specs.Steps.Queue.{Place, Queue, empty_piece, take, with_piece}

-- the places of the tokens, without those that were handed out
unfoldable pub queue_places : declared_queue.Queue → List Place
queue_places q = places_at (drop q.spent q.places.items) q.texts

-- the number of the first of them
abbrev pub first_number : declared_queue.Queue → ℕ
first_number q = q.base + q.spent

abbrev pub queue : declared_queue.Queue → Queue
queue q = record { places = queue_places q; handed = first_number q }

-- The place is the first of those that were not handed out, if there is one.
abbrev pub BeginsWithPlace : Option declared_place.Place → declared_queue.Queue → Type 0
BeginsWithPlace (Some p) q = drop q.spent q.places.items ≡ p ∷ drop (q.spent + 1) q.places.items
BeginsWithPlace None q = drop q.spent q.places.items ≡ []

-- the queue after so many block collections ended at a place
abbrev pub with_block_ends : ℕ → Marker → Queue → Queue
with_block_ends zero m q = q
with_block_ends (suc n) m q = with_piece (empty_piece m BlockEnd) (with_block_ends n m q)

-- the token that is handed out next, if there is one
abbrev pub first_of : Queue → Option Piece
first_of q = (take q).0

-- the queue without it
abbrev pub behind_first : Queue → Queue
behind_first q = (take q).1

-- the kind of a token, if there is one
abbrev pub kind_shown : Option Piece → Option TokenKind
kind_shown (Some t) = Some (token_kind t.kind)
kind_shown None = None
