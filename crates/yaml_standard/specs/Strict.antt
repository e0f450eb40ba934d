-- What the standard asks of a text's characters beyond the grammar (YAML 1.2.2, 5.1).
use Rattle.std.specs.Prelude.{ℕ, Bool, ◌||◌, ◌==◌, nat_le, List}
use Rattle.saphyr_input.specs.Classes.{carriage_return, line_feed, tab}
use Rattle.saphyr_scalar.specs.Spelling.Tag.{AreIn}

-- 5.1 [2], 5.4 [24], [25]: characters in quotes, and breaks
abbrev pub is_allowed : ℕ → Bool
is_allowed c = (c == tab) || (c == line_feed) || (c == carriage_return) || nat_le 0x20 c

-- Each character is allowed. Outside quotes the standard asks more of them: that they are c-printable, which no clause
-- says.
abbrev pub IsStrict : List ℕ → Type 0
IsStrict t = AreIn is_allowed t
