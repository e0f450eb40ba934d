-- The lines of a block scalar, and how much of them is passed (YAML 1.2.2, 8.1.1.1 to 8.1.3).
use Rattle.std.specs.Prelude.{◌≡◌, ◌≢◌, ℕ, ◌<◌, ◌≤◌, ◌⊎◌, Bool, false, List, [], ◌∷◌, ◌++◌, codes, length, IsFalse, slice_index}
use Rattle.saphyr_input.specs.Classes.{space}
use Rattle.saphyr_input.specs.Places.{is_document_indicator}
use Rattle.saphyr_scalar.specs.Reading.BlockLines.{spaces}
use Rattle.saphyr_scalar.specs.Values.Block.{Line}
use Rattle.scalar_laws.specs.Spelling.Block.{IsContent, AreLines, IsBody, IsEmptyBody}

-- at most so many spaces come first
abbrev pub SplitsSpaces : ℕ → ℕ → List ℕ → List ℕ → Type 0
SplitsSpaces most count before after = (count ≤ most) × (before ≡ spaces count ++ after)

-- a line of spaces alone, at most as many as the indentation i
abbrev pub IsEmptyBlockLine : ℕ → List ℕ → Type 0
IsEmptyBlockLine i t = (j : ℕ) × (j ≤ i) × (t ≡ spaces j ++ codes "\n")

-- where the first content line tells the indentation, its content begins with no space
abbrev pub MayBegin : ℕ → Bool → List ℕ → Type 0
MayBegin i is_given t = (i ≡ 0 → IsFalse (is_document_indicator t)) × (is_given ≡ false → slice_index t 0 ≢ space)

-- the indentation and the content of a line are taken off, up to its end
pub record TakesContent (i : ℕ) (is_given : Bool) (before after : List ℕ) : Type 0 where
  pub c : ℕ
  pub cs : List ℕ
  pub is : IsContent i c cs after
  pub begins : is_given ≡ false → c ≢ space
  pub cut : before ≡ spaces i ++ (c ∷ (cs ++ after))

-- lines from here on, up to what is behind all of them
abbrev pub AreSomeLines : ℕ → List ℕ → List ℕ → Type 0
AreSomeLines i behind t = (lines : List Line) × AreLines i behind lines t

-- What are lines from `now` on are lines from `start` on.
abbrev pub ContinuesLines : ℕ → List ℕ → List ℕ → Type 0
ContinuesLines i start now = (behind : List ℕ) → AreSomeLines i behind now → AreSomeLines i behind start

-- a line is passed
pub record PassesBlockLine (i : ℕ) (start now : List ℕ) : Type 0 where
  pub goes_on : ContinuesLines i start now
  pub shorter : length now < length start

-- ## Bodies

-- lines of which one has content
abbrev pub IsSomeBody : ℕ → Bool → List ℕ → List ℕ → Type 0
IsSomeBody i is_given behind t = (lines : List Line) × IsBody i is_given behind lines t

-- lines without content, before what begins after so many spaces
abbrev pub IsSomeEmptyBody : ℕ → ℕ → ℕ → List ℕ → List ℕ → Type 0
IsSomeEmptyBody indent i column behind t = (lines : List Line) × IsEmptyBody indent i column behind lines t

-- what may follow a scalar without content, after so many spaces
abbrev pub MayFollowEmpty : ℕ → ℕ → ℕ → List ℕ → Type 0
MayFollowEmpty indent i column t = (column < indent) ⊎ ((i ≡ 0) ⊎ (t ≡ []))

-- the same lines, for each collection in which they may be
abbrev pub IsAnyEmptyBody : ℕ → List ℕ → List ℕ → Type 0
IsAnyEmptyBody i behind t =
    (indent column : ℕ) → MayFollowEmpty indent i column behind → IsSomeEmptyBody indent i column behind t
