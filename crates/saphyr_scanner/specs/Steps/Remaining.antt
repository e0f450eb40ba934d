-- The tokens that a scanner still has to give.
use Rattle.std.specs.Prelude.{◌≡◌, map, ℕ, zero, suc, ◌+◌, List, [], ◌∷◌, None, Result, Ok, Err, if◌then◌else◌}
use Rattle.saphyr_scalar.specs.declared.scalar.fault.Refusal.{Refusal}
use Rattle.saphyr_scalar.specs.Views.Cursor.{◌>>=◌}
use Rattle.saphyr_scanner.specs.declared.queue.Opening.{Opening}
use Rattle.saphyr_scanner.specs.declared.queue.Opening.TheVariants as opening
use Rattle.saphyr_scanner.specs.Grammar.Tokens as tokens
use Rattle.saphyr_scanner.specs.Grammar.Tokens.{Kind}
use Rattle.saphyr_scanner.specs.Views.Tokens.{Piece, Remaining, none, refusal_alone, before}
use Rattle.saphyr_scanner.specs.Steps.Queue.{Place, empty_piece}
use Rattle.saphyr_scanner.specs.Steps.State.{State, start}
use Rattle.saphyr_scanner.specs.Steps.Fetch.{needs_token, fetch_within, without_far_key, size}

-- the tokens of a place, before others
abbrev pub before_place : Opening → Piece → Remaining → Remaining
before_place opening.Nothing t r = before t r
before_place opening.Key t r = before (empty_piece t.span.start tokens.Key) (before t r)
before_place opening.BlockMappingAndKey t r =
    before (empty_piece t.span.start tokens.BlockMappingStart)
    (before (empty_piece t.span.start tokens.Key) (before t r))
before_place opening.FlowMappingAndKey t r =
    before (empty_piece t.span.start tokens.FlowMappingStart)
    (before (empty_piece t.span.start tokens.Key) (before t r))

abbrev pub without_first : List Place → State → State
without_first ps s = record { core = s.core; queue = record { places = ps; handed = s.queue.handed + 1 } }

-- The tokens of the queue, up to the first that may yet turn out to be a key; `go` gives those after.
abbrev pub hand_out : List Place → (State → Remaining) → State → Remaining
hand_out [] go s = go s
hand_out (p ∷ ps) go s =
    if needs_token s then go s else before_place p.opening p.piece (hand_out ps go (without_first ps s))

abbrev pub remaining_after : Result State Refusal → (State → Remaining) → Remaining
remaining_after (Ok s) go = go s
remaining_after (Err e) go = refusal_alone e

-- the tokens that come where n more are read at most
abbrev pub run : ℕ → ℕ → State → Remaining
run zero limit s = none
run (suc n) limit s = hand_out s.queue.places
    (λ t. if t.core.ended then none else remaining_after (fetch_within limit t >>= without_far_key) (run n limit)) s

unfoldable pub remaining : ℕ → State → Remaining
remaining limit s = remaining_after (without_far_key s) (λ t. run (suc (size t.core)) limit t)

-- the tokens of a text
abbrev pub scan : ℕ → List ℕ → Remaining
scan limit text = remaining limit (start text)

-- exactly these tokens come, and no fault
abbrev pub Scans : List Kind → Remaining → Type 0
Scans kinds r = (r.refusal ≡ None) × (map (λ (t : Piece). t.kind) r.pieces ≡ kinds)
