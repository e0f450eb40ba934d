-- A text of which more comes: what its end leaves open, and a reader with more behind its text.
use Rattle.std.specs.Prelude.{◌≡◌, ℕ, Bool, true, false, ◌||◌, ◌&&◌, ◌==◌, List, [], ◌∷◌, ◌++◌, slice_index, if◌then◌else◌}
use Rattle.saphyr_input.specs.Indicators.{colon, full_stop, hyphen}
use Rattle.saphyr_scalar.specs.Views.Cursor.{Cursor}

-- with which a document marker begins
abbrev pub begins_marker : ℕ → Bool
begins_marker c = (c == hyphen) || (c == full_stop)

-- Nothing came, or a beginning of a document marker, or a colon alone: what they are is told by what comes next.
abbrev pub is_open : List ℕ → Bool
is_open [] = true
is_open (c ∷ []) = begins_marker c || (c == colon)
is_open (c ∷ d ∷ []) = begins_marker c && (c == d)
is_open (c ∷ d ∷ e ∷ []) = begins_marker c && (c == d) && (d == e)
is_open (c ∷ d ∷ e ∷ f ∷ others) = false

-- Of a text that begins with this character, no more than three are left, and none is another. A NUL is the end.
abbrev pub ends_in_run : ℕ → List ℕ → Bool
ends_in_run c r =
    (slice_index r 1 == 0)
    || ((slice_index r 1 == c) && ((slice_index r 2 == 0) || ((slice_index r 2 == c) && (slice_index r 3 == 0))))

-- What is left may be open: a NUL counts as the end.
abbrev pub may_be_open : List ℕ → Bool
may_be_open r = let c = slice_index r 0 in
    if c == colon then slice_index r 1 == 0
    else if begins_marker c then ends_in_run c r
    else c == 0

-- what is left of a text once its front was taken off
pub record IsRestOfText (rest text : List ℕ) : Type 0 where
  pub front : List ℕ
  pub is : text ≡ front ++ rest

-- the same place, with more behind the text
abbrev pub longer : List ℕ → Cursor → Cursor
longer more s = record s { rest = s.rest ++ more }
