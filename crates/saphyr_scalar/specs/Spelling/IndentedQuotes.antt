-- How far the later lines of quoted scalars are indented (YAML 1.2.2, 7.3.1, 7.3.2).
use Rattle.std.specs.Prelude.{ℕ, List, drop, slice_index, ◌||◌, ◌==◌, IsTrue}
use Rattle.saphyr_input.specs.Indicators.{quotation_mark}
use Rattle.saphyr_scalar.specs.Spelling.LineBreaks.{break_len}
use Rattle.saphyr_scalar.specs.Spelling.LaterLines.{is_quoted_line}
use Rattle.saphyr_scalar.specs.Spelling.Quoted.{IsText, closed, itself, broken, two_quotes, escaped, numbered, escaped_break}
use Rattle.saphyr_scalar.specs.declared.values.Item.{Item}
use Rattle.saphyr_scalar.specs.declared.values.Quote.{Quote}

-- Each later line of a scalar begins with `least` spaces at least, or has fewer and nothing else. After an escaped
-- break the closing quote may come first.
abbrev pub HasIndentedLines : ℕ → (q : Quote) (t : List ℕ) (items : List Item) (x : List ℕ) → IsText q t items x
    → Type 0
HasIndentedLines least _ _ _ _ (closed q x h) = Unit {0}
HasIndentedLines least _ _ _ _ (itself q c t items x h r) = HasIndentedLines least q t items x r
HasIndentedLines least _ _ _ _ (broken q t items x h r) =
    IsTrue (is_quoted_line least (drop (break_len t) t)) × HasIndentedLines least q (drop (break_len t) t) items x r
HasIndentedLines least _ _ _ _ (two_quotes t items x r) = HasIndentedLines least _ t items x r
HasIndentedLines least _ _ _ _ (escaped e c t items x h r) = HasIndentedLines least _ t items x r
HasIndentedLines least _ _ _ _ (numbered e c ds t items x h r) = HasIndentedLines least _ t items x r
HasIndentedLines least _ _ _ _ (escaped_break t items x h r) =
    IsTrue (is_quoted_line least (drop (break_len t) t) || (slice_index (drop (break_len t) t) 0 == quotation_mark))
    × HasIndentedLines least _ (drop (break_len t) t) items x r
