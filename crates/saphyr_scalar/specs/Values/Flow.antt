-- The readings of flow scalars (YAML 1.2.2, 7.3), over texts whose breaks are normalized.
use Rattle.std.specs.Prelude.{ℕ, ◌==◌, Bool, ◌||◌, if◌then◌else◌, List, map}
use Rattle.saphyr_input.specs.Classes.{line_feed, is_blank}
pub use Rattle.saphyr_input.specs.Indicators.{quotation_mark, apostrophe, backslash}
use Rattle.saphyr_scalar.specs.Values.Folding.{folded}
use Rattle.saphyr_scalar.specs.declared.values.Item.{Item}
use Rattle.saphyr_scalar.specs.declared.values.Item.TheVariants.{Blank, Raw, Break}
use Rattle.saphyr_scalar.specs.declared.values.Quote.{Quote}
use Rattle.saphyr_scalar.specs.declared.values.Quote.TheVariants.{Single, Double}

-- a character that stands for itself
abbrev pub raw_item : ℕ → Item
raw_item c = if c == line_feed then Break else (if is_blank c then Blank c else Raw c)

-- 7.3.3: a plain scalar's value
abbrev pub plain_value : List ℕ → List ℕ
plain_value text = folded (map raw_item text)

-- the character that a quoted scalar begins and ends with
abbrev pub mark : Quote → ℕ
mark Single = apostrophe
mark Double = quotation_mark

-- whether a character does not stand for itself between the quotes
abbrev pub is_special : Quote → ℕ → Bool
is_special Single c = c == apostrophe
is_special Double c = (c == quotation_mark) || (c == backslash)
