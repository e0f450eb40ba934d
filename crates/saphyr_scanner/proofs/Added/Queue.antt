-- What is added to the queue: how many tokens, and whether the end of the stream is among them.
use Rattle.std.proofs.Common.{◌≡◌, ℕ, zero, suc, ◌+◌, ◌-◌, ◌≤◌, List, [], ◌∷◌, ◌++◌, length, arith, refl}
use Rattle.saphyr_scanner.specs.declared.queue.Opening.{Opening}
use Rattle.saphyr_scanner.specs.declared.queue.Opening.TheVariants as opening
use Rattle.saphyr_scanner.specs.Grammar.Tokens as tokens
use Rattle.saphyr_scanner.specs.Grammar.Tokens.{Kind}
use Rattle.saphyr_scanner.specs.Views.Tokens.{Piece}
use Rattle.saphyr_scanner.specs.Steps.Queue.{Place, Queue, bare_place, places_with_opening}
use Rattle.saphyr_scanner.specs.Steps.Core.{Core, Action, Put, Open, act, perform}
use Rattle.saphyr_scanner.specs.Steps.State.{State}

abbrev pub IsNoEnd : Kind → Type 0
IsNoEnd k = ¬ (k ≡ tokens.StreamEnd)

-- ## The tokens of the queue

-- no place has the end of the stream
abbrev pub PlacesGoOn : List Place → Type 0
PlacesGoOn [] = Unit {0}
PlacesGoOn (p ∷ ps) = IsNoEnd p.piece.kind × PlacesGoOn ps

-- none is put into the queue
abbrev pub PutsGoOn : List Action → Type 0
PutsGoOn [] = Unit {0}
PutsGoOn (Put t ∷ others) = IsNoEnd t.kind × PutsGoOn others
PutsGoOn (Open n o ∷ others) = PutsGoOn others

-- how many tokens a place stands for
abbrev pub tokens_at : Opening → ℕ
tokens_at opening.Nothing = 1
tokens_at opening.Key = 2
tokens_at opening.BlockMappingAndKey = 3
tokens_at opening.FlowMappingAndKey = 3

abbrev pub tokens_in : List Place → ℕ
tokens_in [] = 0
tokens_in (p ∷ ps) = tokens_at p.opening + tokens_in ps

-- how many more there are after an action, at most
abbrev pub added : List Action → ℕ
added [] = 0
added (Put t ∷ others) = 1 + added others
added (Open n o ∷ others) = 2 + added others

pub place_goes_on : (ps : List Place) (t : Piece) → PlacesGoOn ps → IsNoEnd t.kind
    → PlacesGoOn (ps ++ bare_place t ∷ [])
place_goes_on [] t h k = (k, tt)
place_goes_on (p ∷ ps) t h k = (h.0, place_goes_on ps t h.1 k)

with_opening_goes_on : (n : ℕ) (o : Opening) (ps : List Place) → PlacesGoOn ps → PlacesGoOn (places_with_opening n o ps)
with_opening_goes_on n o [] h = h
with_opening_goes_on zero o (p ∷ ps) h = h
with_opening_goes_on (suc n) o (p ∷ ps) h = (h.0, with_opening_goes_on n o ps h.1)

pub performed_goes_on : (actions : List Action) (q : Queue) → PlacesGoOn q.places → PutsGoOn actions
    → PlacesGoOn (perform actions q).places
performed_goes_on [] q h k = h
performed_goes_on (Put t ∷ others) q h k = performed_goes_on others (act (Put t) q) (place_goes_on q.places t h k.0) k.1
performed_goes_on (Open n o ∷ others) q h k =
    performed_goes_on others (act (Open n o) q) (with_opening_goes_on (n - q.handed) o q.places h) k

pub tokens_put : (ps : List Place) (t : Piece) → tokens_in (ps ++ bare_place t ∷ []) ≡ tokens_in ps + 1
tokens_put [] t = refl
tokens_put (p ∷ ps) t = let e = tokens_put ps t in omega (arith, e)

some_tokens : (o : Opening) → (1 ≤ tokens_at o) × (tokens_at o ≤ 3)
some_tokens o = grind arith

tokens_opened : (n : ℕ) (o : Opening) (ps : List Place) → tokens_in (places_with_opening n o ps) ≤ tokens_in ps + 2
tokens_opened n o [] = omega arith
tokens_opened zero o (p ∷ ps) = let a = (some_tokens o).1 in let b = (some_tokens p.opening).0 in omega (arith, a, b)
tokens_opened (suc n) o (p ∷ ps) = let e = tokens_opened n o ps in omega (arith, e)

pub tokens_performed : (actions : List Action) (q : Queue)
    → tokens_in (perform actions q).places ≤ tokens_in q.places + added actions
tokens_performed [] q = omega arith
tokens_performed (Put t ∷ others) q =
    let a = tokens_performed others (act (Put t) q) in let b = tokens_put q.places t in omega (arith, a, b)
tokens_performed (Open n o ∷ others) q =
    let a = tokens_performed others (act (Open n o) q) in let b =
    tokens_opened (n - q.handed) o q.places in omega (arith, a, b)

-- ## What is due

abbrev pub at_most_one : ℕ → ℕ
at_most_one zero = 0
at_most_one (suc n) = 1

pub one_at_most : (n : ℕ) → at_most_one n ≤ 1
one_at_most n = grind arith

-- how many block collections are open, each of which ends with a token
abbrev pub open_blocks : Core → ℕ
open_blocks c = at_most_one c.indent + length c.outer_indents

-- the tokens of the queue, and those that end what is open
abbrev pub due : State → ℕ
due s = tokens_in s.queue.places + open_blocks s.core
