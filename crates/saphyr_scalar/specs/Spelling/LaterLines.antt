-- How far the later lines of plain and quoted scalars are indented (YAML 1.2.2, 6.1, 6.3 and 6.4). No tab is part of an
-- indentation.
use Rattle.std.specs.Prelude.{ℕ, ◌+◌, Bool, false, ◌||◌, ◌&&◌, ◌==◌, not, nat_le, List, [], ◌∷◌, ◌++◌, IsTrue, if◌then◌else◌}
use Rattle.saphyr_input.specs.Classes.{nul, is_blank, is_break, space, tab}
use Rattle.saphyr_scalar.specs.Spelling.LineBreaks.{ends_line}

-- how many spaces a line begins with
abbrev pub indentation : List ℕ → ℕ
indentation [] = 0
indentation (c ∷ cs) = if c == space then 1 + indentation cs else 0

-- the character after them
abbrev pub behind_indentation : List ℕ → ℕ
behind_indentation [] = nul
behind_indentation (c ∷ cs) = if c == space then behind_indentation cs else c

-- blanks alone, and a break
abbrev pub is_blank_line : List ℕ → Bool
is_blank_line [] = false
is_blank_line (c ∷ cs) = is_break c || (is_blank c && is_blank_line cs)

-- A later line of a plain scalar begins with `least` spaces at least, or has blanks alone. Inside flow it may begin
-- with fewer spaces, but not with fewer and a tab.
abbrev pub is_plain_line : Bool → ℕ → List ℕ → Bool
is_plain_line in_flow least line =
    nat_le least (indentation line) || is_blank_line line || (in_flow && not (behind_indentation line == tab))

abbrev pub IsPlainLine : Bool → ℕ → List ℕ → Type 0
IsPlainLine in_flow least line = IsTrue (is_plain_line in_flow least line)

-- one of a quoted scalar begins with `least` spaces at least, or has fewer and nothing else
abbrev pub is_quoted_line : ℕ → List ℕ → Bool
is_quoted_line least line = nat_le least (indentation line) || is_break (behind_indentation line)

-- each line of a piece but its first is so, with what comes after the piece
abbrev pub AreLaterLines : (List ℕ → Type 0) → List ℕ → List ℕ → Type 0
AreLaterLines IsLine [] behind = Unit {0}
AreLaterLines IsLine (c ∷ cs) behind =
    (IsTrue (ends_line c (cs ++ behind)) → IsLine (cs ++ behind)) × AreLaterLines IsLine cs behind

-- the later lines of a piece of a plain scalar, inside flow or outside
abbrev pub ArePlainLines : Bool → ℕ → List ℕ → List ℕ → Type 0
ArePlainLines in_flow least piece behind = AreLaterLines (IsPlainLine in_flow least) piece behind
