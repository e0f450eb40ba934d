-- The lines of a block scalar (YAML 1.2.2, 8.1), and what ends them.
use Rattle.std.specs.Prelude.{◌≡◌, ℕ, true, List, [], ◌∷◌, ◌++◌, slice_index, replicate, ◌⊎◌, if◌then◌else◌}
use Rattle.saphyr_input.specs.Classes.{is_z, space}
use Rattle.saphyr_scalar.specs.declared.values.Ending.{Ending}
use Rattle.saphyr_scalar.specs.declared.values.Ending.TheVariants.{AtEnd, AtMark}
use Rattle.saphyr_scalar.specs.Views.Cursor.{Cursor}
use Rattle.saphyr_scalar.specs.Values.Block.{is_empty_line}
use Rattle.saphyr_scalar.specs.Values.Lines.{ended_lines, last_line}

-- what ends the lines before a place
abbrev pub ending : Cursor → Ending
ending s = if is_z (slice_index s.rest 0) then AtEnd else AtMark

-- spaces alone
abbrev pub spaces : ℕ → List ℕ
spaces n = replicate n space

-- a line of a scalar: an empty one, or content after the indentation
abbrev pub IsReadLine : ℕ → List ℕ → Type 0
IsReadLine i line = (is_empty_line i line ≡ true) ⊎ ((text : List ℕ) × (line ≡ spaces i ++ text))

abbrev pub AreReadLines : ℕ → List (List ℕ) → Type 0
AreReadLines i [] = Unit {0}
AreReadLines i (line ∷ lines) = IsReadLine i line × AreReadLines i lines

-- a text of such lines; the last one may lack a break
pub record HasLines (i : ℕ) (text : List ℕ) : Type 0 where
  pub ended : AreReadLines i (ended_lines text)
  pub last : IsReadLine i (last_line text)
