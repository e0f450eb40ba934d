-- What contracts see of a scanner.
use Rattle.std.specs.Prelude.{◌≡◌, ◌<◌, ◌+◌, ◌++◌, ◌^◌, Bool, true, false, not, ℕ, List, Option, Result, Ok, Err}
use Rattle.saphyr_scalar.specs.Known.{may_be_open}
use Rattle.saphyr_scalar.specs.declared.scalar.fault.Refusal.{Refusal}
use Rattle.saphyr_scalar.specs.declared.scalar.fault.Stop.{Stop}
use Rattle.saphyr_scalar.specs.declared.scalar.fault.Stop.TheVariants as stop
use Rattle.saphyr_scanner.specs.declared.growth.Growth.{Growth}
use Rattle.saphyr_scanner.specs.declared.growth.Growth.TheVariants as growth
use Rattle.saphyr_scanner.specs.declared.stopped.Stopped.{Stopped}
use Rattle.saphyr_scanner.specs.declared.token.TokenKind.{TokenKind}
use Rattle.saphyr_scanner.specs.Steps.Fetch.{is_ready, without_far_key}
use Rattle.saphyr_scanner.specs.Steps.Remaining.{remaining}
use Rattle.saphyr_scanner.specs.Steps.State.{State, with_rest}
use Rattle.saphyr_scanner.specs.Views.Tokens.{BeginsWith, Remaining, refusal_alone}

-- what a scanner knows, the limit of its text, whether more of the text may come, and what ended the reading once a
-- call has stopped
pub record Scanning : Type 0 where
  pub state : State
  pub limit : ℕ
  pub growth : Growth
  pub stop : Stop

-- more of the text may come
abbrev pub is_growing : Growth → Bool
is_growing growth.Growing = true
is_growing growth.Whole = false
is_growing growth.Starved = false

-- what is left of a text, if these characters come behind what came
abbrev pub text_in : Growth → List ℕ → List ℕ → List ℕ
text_in growth.Growing more rest = rest ++ more
text_in growth.Whole more rest = rest
text_in growth.Starved more rest = rest

-- the tokens that are still to come, if this is left of the text
unfoldable pub tokens_over : List ℕ → Scanning → Remaining
tokens_over rest s = remaining s.limit (with_rest rest s.state)

-- the tokens that are still to come, if these characters come behind what came
unfoldable pub tokens_in : List ℕ → Scanning → Remaining
tokens_in more s = tokens_over (text_in s.growth more s.state.core.cursor.rest) s

-- The first token was read and can be handed out, or there is none.
abbrev pub IsReady : Scanning → Type 0
IsReady s = (is_ready s.state ≡ true) × (s.state.queue.handed + 1 < 2 ^ 64)

-- This ends the tokens, of which none is left. Where memory ran out, nothing is known of them.
abbrev pub EndsTokens : Stop → Remaining → Type 0
EndsTokens stop.OutOfMemory r = Unit {0}
EndsTokens (stop.Refused e) r = r ≡ refusal_alone e

-- what was read, before this rest, is so whatever comes behind what came
abbrev pub is_decided : Result Unit Stopped → List ℕ → Stop → Bool
is_decided (Ok u) rest end = not (may_be_open rest)
is_decided (Err e) rest stop.OutOfMemory = true
is_decided (Err e) rest (stop.Refused d) = not d.may_change

-- Reading on, over what came, comes to a rest that may be open, or is refused where what comes may change that.
abbrev pub IsUndecided : Result State Refusal → Type 0
IsUndecided (Ok s) = may_be_open s.core.cursor.rest ≡ true
IsUndecided (Err e) = e.may_change ≡ true

-- A candidate that is too far was dropped, and nothing else was changed.
abbrev pub Drops : Scanning → Scanning → Type 0
Drops old new =
    (without_far_key old.state ≡ Ok new.state) × (new.limit ≡ old.limit) × (new.growth ≡ old.growth)

-- The first token can be handed out, or there is none. The tokens are the same, whatever comes behind what came.
abbrev pub Readies : Result Unit Stopped → Scanning → Scanning → Type 0
Readies (Ok u) old new =
    ((more : List ℕ) → tokens_in more new ≡ tokens_in more old) × (is_ready new.state ≡ true)
Readies (Err e) old new = (more : List ℕ) → EndsTokens new.stop (tokens_in more old)

-- The first token is shown and stays, or the tokens are over, whatever comes behind what came.
abbrev pub PeeksToken : Result (Option TokenKind) Stopped → Scanning → Scanning → Type 0
PeeksToken (Ok kind) old new =
    ((more : List ℕ) → BeginsWith kind (tokens_in more old) × (tokens_in more new ≡ tokens_in more old))
    × IsReady new
PeeksToken (Err e) old new = (more : List ℕ) → EndsTokens new.stop (tokens_in more old)
