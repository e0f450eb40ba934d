-- What a writer took, where its bytes are known.
use Rattle.std.specs.Prelude.{◌≡◌, ℕ, ◌<◌, List, ◌++◌, length, Option, Result, Ok, Err}
use Rattle.std.specs.Io.KnownBytes.{Appends}
use Rattle.saphyr_parser.specs.declared.printing.writing.Unwritten.{Unwritten}

-- a beginning of the bytes, and not all of them
pub record TakesSome (old new : Option (List ℕ)) (bytes : List ℕ) : Type 0 where
  pub front : List ℕ
  pub back : List ℕ
  pub split : bytes ≡ front ++ back
  pub missing : 0 < length back
  pub taken : Appends old new front

-- all bytes, or where the writer failed a beginning of them
abbrev pub Takes : Result (Unit {0}) Unwritten → Option (List ℕ) → Option (List ℕ) → List ℕ → Type 0
Takes (Ok u) old new bytes = Appends old new bytes
Takes (Err e) old new bytes = TakesSome old new bytes

-- the bytes before the rest
pub record TakesUpTo (old new : Option (List ℕ)) (bytes rest : List ℕ) : Type 0 where
  pub front : List ℕ
  pub split : bytes ≡ front ++ rest
  pub taken : Appends old new front
