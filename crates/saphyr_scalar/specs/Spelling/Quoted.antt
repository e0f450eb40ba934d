-- The spellings of quoted scalars over several lines (YAML 1.2.2, 7.3.1 and 7.3.2), with their breaks as they are.
-- Each relation is between what is at a place, the items that it spells, and what comes after it.
use Rattle.std.specs.Prelude.{◌≡◌, ℕ, Bool, ◌&&◌, not, List, [], ◌∷◌, ◌++◌, drop, slice_index, Some, IsTrue}
use Rattle.saphyr_input.specs.Classes.{is_break, is_breakz}
use Rattle.saphyr_scalar.specs.Values.Flow.{mark, is_special, raw_item, apostrophe, backslash}
use Rattle.saphyr_scalar.specs.Spelling.OneLine.{IsNumber}
use Rattle.saphyr_scalar.specs.Spelling.LineBreaks.{break_len}
use Rattle.saphyr_scalar.specs.Spelling.ClosingQuote.{is_closing}
use Rattle.saphyr_scalar.specs.Values.Escapes.{short_escape}
use Rattle.saphyr_scalar.specs.declared.values.Item.{Item}
use Rattle.saphyr_scalar.specs.declared.values.Item.TheVariants.{Raw, Escaped, Break, EscapedBreak}
use Rattle.saphyr_scalar.specs.declared.values.Quote.{Quote}
use Rattle.saphyr_scalar.specs.declared.values.Quote.TheVariants.{Single, Double}

-- a character that stands for itself and is no break
abbrev pub stands_for_itself : Quote → ℕ → Bool
stands_for_itself quote c = not (is_breakz c) && not (is_special quote c)

-- what comes after the opening quote, up to the closing one
pub data IsText : Quote → List ℕ → List Item → List ℕ → Type 0 where
  closed : (q : Quote) (x : List ℕ) → IsTrue (is_closing q (mark q ∷ x)) → IsText q (mark q ∷ x) [] x
  itself : (q : Quote) (c : ℕ) (t : List ℕ) (items : List Item) (x : List ℕ) → IsTrue (stands_for_itself q c)
      → IsText q t items x → IsText q (c ∷ t) (raw_item c ∷ items) x
  broken : (q : Quote) (t : List ℕ) (items : List Item) (x : List ℕ) → IsTrue (is_break (slice_index t 0))
      → IsText q (drop (break_len t) t) items x → IsText q t (Break ∷ items) x
  two_quotes : (t : List ℕ) (items : List Item) (x : List ℕ) → IsText Single t items x
      → IsText Single (apostrophe ∷ apostrophe ∷ t) (Raw apostrophe ∷ items) x
  escaped : (e c : ℕ) (t : List ℕ) (items : List Item) (x : List ℕ) → short_escape e ≡ Some c → IsText Double t items x
      → IsText Double (backslash ∷ e ∷ t) (Escaped c ∷ items) x
  numbered : (e c : ℕ) (ds t : List ℕ) (items : List Item) (x : List ℕ) → IsNumber e c ds → IsText Double t items x
      → IsText Double (backslash ∷ e ∷ (ds ++ t)) (Escaped c ∷ items) x
  escaped_break : (t : List ℕ) (items : List Item) (x : List ℕ) → IsTrue (is_break (slice_index t 0))
      → IsText Double (drop (break_len t) t) items x → IsText Double (backslash ∷ t) (EscapedBreak ∷ items) x

-- a scalar from its opening quote to its closing one
abbrev pub IsQuotedText : Quote → List ℕ → List Item → List ℕ → Type 0
IsQuotedText quote t items x = (inside : List ℕ) × (t ≡ mark quote ∷ inside) × IsText quote inside items x
