-- What is taken off the front of a text.
use Rattle.std.specs.Borrow.{Bor}
use Rattle.std.specs.Prelude.{◌≡◌, ℕ, List, ◌++◌, IfSome, Option}
use Rattle.std.specs.Str.{chars}

-- a piece of which P holds is taken off, and `after` is left
pub record TakesOff (P : List ℕ → Type 0) (before after : List ℕ) : Type 0 where
  pub piece : List ℕ
  pub is : P piece
  pub cut : before ≡ piece ++ after

-- the same of a piece that P tells before what comes after it, up to the text's end
abbrev pub TakesBefore : (List ℕ → List ℕ → Type 0) → List ℕ → List ℕ → Type 0
TakesBefore P before after = TakesOff (λ t. P t after) before after

-- what follows a piece, if there is one
abbrev pub IfTakes : (List ℕ → Type 0) → List ℕ → Option (Bor (List ℕ)) → Type 0
IfTakes P before behind = IfSome behind (λ rest. TakesOff P before (chars rest.now))

abbrev pub IfTakesBefore : (List ℕ → List ℕ → Type 0) → List ℕ → Option (Bor (List ℕ)) → Type 0
IfTakesBefore P before behind = IfSome behind (λ rest. TakesBefore P before (chars rest.now))
