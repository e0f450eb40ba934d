-- The quote that closes a scalar (YAML 1.2.2, 7.3.1, 7.3.2). Spellings and the steps of the reader are told with it.
use Rattle.std.specs.Prelude.{ℕ, Bool, ◌&&◌, ◌==◌, not, List, slice_index}
use Rattle.saphyr_input.specs.Indicators.{apostrophe, quotation_mark}
use Rattle.saphyr_scalar.specs.declared.values.Quote.{Quote}
use Rattle.saphyr_scalar.specs.declared.values.Quote.TheVariants.{Single, Double}

-- the closing quote, and not the first of two single quotes
abbrev pub is_closing : Quote → List ℕ → Bool
is_closing Single xs = (slice_index xs 0 == apostrophe) && not (slice_index xs 1 == apostrophe)
is_closing Double xs = slice_index xs 0 == quotation_mark
