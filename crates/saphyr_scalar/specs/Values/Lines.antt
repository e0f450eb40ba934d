-- The lines of a text whose breaks are normalized.
use Rattle.std.specs.Prelude.{ℕ, ◌==◌, Bool, if◌then◌else◌, List, [], ◌∷◌, ◌++◌}
use Rattle.std.specs.List.{list_any}
use Rattle.saphyr_input.specs.Classes.{line_feed}

-- a line with one more character before it, where there is a line
abbrev pub before_first_line : ℕ → List (List ℕ) → List (List ℕ)
before_first_line c [] = []
before_first_line c (line ∷ lines) = (c ∷ line) ∷ lines

abbrev pub before_lines : ℕ → List (List ℕ) → List (List ℕ)
before_lines c lines = if c == line_feed then [] ∷ lines else before_first_line c lines

-- the lines of a text that breaks end, without their breaks
abbrev pub ended_lines : List ℕ → List (List ℕ)
ended_lines [] = []
ended_lines (c ∷ cs) = before_lines c (ended_lines cs)

abbrev pub has_break : List ℕ → Bool
has_break text = list_any (λ c. c == line_feed) text

-- what comes after a text's last break, or all of it where there is none
abbrev pub last_line : List ℕ → List ℕ
last_line [] = []
last_line (c ∷ cs) = (if has_break (c ∷ cs) then [] else c ∷ []) ++ last_line cs
