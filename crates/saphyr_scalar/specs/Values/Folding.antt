-- Line folding in flow scalars (YAML 1.2.2, 6.5), over the items of a scalar.
use Rattle.std.specs.Prelude.{ℕ, zero, suc, Bool, true, false, ◌||◌, if◌then◌else◌, List, [], ◌∷◌, ◌++◌, replicate}
use Rattle.saphyr_input.specs.Classes.{line_feed, space}
use Rattle.saphyr_scalar.specs.declared.values.Item.{Item}
use Rattle.saphyr_scalar.specs.declared.values.Item.TheVariants.{Blank, Raw, Escaped, Break, EscapedBreak}

-- whether a raw break comes first, after blanks or none
abbrev pub is_before_break : List Item → Bool
is_before_break [] = false
is_before_break (Blank c ∷ items) = is_before_break items
is_before_break (Break ∷ items) = true
is_before_break _ = false

-- How many empty lines follow a break that comes before the items: lines of blanks alone that a raw break ends.
abbrev pub empty_lines : List Item → ℕ
empty_lines [] = zero
empty_lines (Blank c ∷ items) = empty_lines items
empty_lines (Break ∷ items) = suc (empty_lines items)
empty_lines _ = zero

abbrev pub line_feeds : ℕ → List ℕ
line_feeds n = replicate n line_feed

-- A raw break before no empty line reads as a space, and another as a line feed for each empty line.
abbrev pub raw_break : ℕ → List ℕ
raw_break zero = space ∷ []
raw_break (suc n) = line_feeds (suc n)

-- What the items read as, at the start of a line but for blanks, or elsewhere. Blanks at a line's start or before a
-- raw break go. A raw break at a line's start ends an empty line, which the break before it has counted.
abbrev pub folded_from : Bool → List Item → List ℕ
folded_from at_start [] = []
folded_from at_start (Blank c ∷ items) =
    (if at_start || is_before_break items then [] else c ∷ []) ++ folded_from at_start items
folded_from at_start (Raw c ∷ items) = c ∷ folded_from false items
folded_from at_start (Escaped c ∷ items) = c ∷ folded_from false items
folded_from true (Break ∷ items) = folded_from true items
folded_from false (Break ∷ items) = raw_break (empty_lines items) ++ folded_from true items
folded_from at_start (EscapedBreak ∷ items) = line_feeds (empty_lines items) ++ folded_from true items

-- what a flow scalar's items read as
abbrev pub folded : List Item → List ℕ
folded items = folded_from false items
