-- Lines that reach a column reach each column left of it.
use Rattle.std.proofs.Common.{◌≡◌, ℕ, ◌≤◌, Bool, true, List, drop, slice_index, arith, IsTrue}
use Rattle.std.specs.Prelude.{◌||◌, ◌==◌}
use Rattle.std.proofs.lemmas.Bool.{or_left, or_right}
use Rattle.saphyr_input.specs.Indicators.{quotation_mark}
use Rattle.saphyr_input.proofs.Basics.Booleans.{either}
use Rattle.saphyr_scalar.specs.declared.values.Item.{Item}
use Rattle.saphyr_scalar.specs.declared.values.Quote.{Quote}
use Rattle.saphyr_scalar.specs.Spelling.IndentedQuotes.{HasIndentedLines}
use Rattle.saphyr_scalar.specs.Spelling.LaterLines.{is_quoted_line}
use Rattle.saphyr_scalar.specs.Spelling.LineBreaks.{break_len}
use Rattle.saphyr_scalar.specs.Spelling.Quoted.{IsText, closed, itself, broken, two_quotes, escaped, numbered, escaped_break}

line_left : (m n : ℕ) (line : List ℕ) → m ≤ n → IsTrue (is_quoted_line n line) → IsTrue (is_quoted_line m line)
line_left m n line le h = grind arith

line_left_or : (m n : ℕ) (line : List ℕ) (b : Bool) → m ≤ n → IsTrue (is_quoted_line n line || b)
    → IsTrue (is_quoted_line m line || b)
line_left_or m n line b le h = either (is_quoted_line n line) b ((is_quoted_line m line || b) ≡ true) h
    (λ a. or_left (is_quoted_line m line) b (line_left m n line le a)) (λ a. or_right (is_quoted_line m line) b a)

pub less_indented : (m n : ℕ) → m ≤ n → (q : Quote) (t : List ℕ) (items : List Item) (x : List ℕ)
    (is : IsText q t items x) → HasIndentedLines n q t items x is → HasIndentedLines m q t items x is
less_indented m n le _ _ _ _ (closed q x h) k = k
less_indented m n le _ _ _ _ (itself q c t items x h r) k = less_indented m n le q t items x r k
less_indented m n le _ _ _ _ (broken q t items x h r) k =
    (line_left m n (drop (break_len t) t) le k.0, less_indented m n le q (drop (break_len t) t) items x r k.1)
less_indented m n le _ _ _ _ (two_quotes t items x r) k = less_indented m n le _ t items x r k
less_indented m n le _ _ _ _ (escaped e c t items x h r) k = less_indented m n le _ t items x r k
less_indented m n le _ _ _ _ (numbered e c ds t items x h r) k = less_indented m n le _ t items x r k
less_indented m n le _ _ _ _ (escaped_break t items x h r) k = (
  line_left_or m n (drop (break_len t) t) (slice_index (drop (break_len t) t) 0 == quotation_mark) le k.0,
  less_indented m n le _ (drop (break_len t) t) items x r k.1,
)
