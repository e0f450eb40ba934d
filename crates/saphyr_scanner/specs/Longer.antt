-- A scanner of a text of which more comes: what it has read for good.
use Rattle.std.specs.Prelude.{◌≡◌, ℕ, true, false, List, [], ◌∷◌, ◌++◌, Some, Ok}
use Rattle.saphyr_scanner.specs.Views.Tokens.{Piece, Remaining}
pub use Rattle.saphyr_scanner.specs.Steps.Fetch.{state_behind_token}
use Rattle.saphyr_scanner.specs.Steps.Fetch.{needs_token, take_token}
use Rattle.saphyr_scanner.specs.Steps.State.{State, start, with_rest}
use Rattle.saphyr_scalar.specs.Known.{is_open}

-- the same scanner, with more characters after those that are left
abbrev pub extended_by : List ℕ → State → State
extended_by more s = with_rest (s.core.cursor.rest ++ more) s

-- A scanner of the text has handed out these tokens, and is this. It takes the first token off where it holds one that
-- can't be a key any more. Else it reads one, and leaves a rest that is not open.
pub data ScansTo (limit : ℕ) (text : List ℕ) : List Piece → State → Type 0 where
  starts : ScansTo limit text [] (start text)
  reads : (ts : List Piece) (s t : State) → ScansTo limit text ts s → needs_token s ≡ true
      → state_behind_token limit s ≡ Ok t → is_open t.core.cursor.rest ≡ false → ScansTo limit text ts t
  takes : (ts : List Piece) (s t : State) (x : Piece) → ScansTo limit text ts s → needs_token s ≡ false
      → take_token s ≡ (Some x, t) → ScansTo limit text (ts ++ x ∷ []) t

-- tokens before others
abbrev pub before_all : List Piece → Remaining → Remaining
before_all ts r = record { pieces = ts ++ r.pieces; refusal = r.refusal }
