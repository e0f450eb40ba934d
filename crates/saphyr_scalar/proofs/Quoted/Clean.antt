-- Spellings of quoted scalars in which no later line begins with a document marker, and each is indented.
use Rattle.saphyr_scalar.proofs.Common.{◌||◌, ◌==◌, quotation_mark, is_break, is_document_indicator, Item, Raw, Escaped, Break, EscapedBreak, Quote, Single, Double}
use Rattle.std.proofs.Common.{◌≡◌, ℕ, List, [], ◌∷◌, ◌++◌, drop, slice_index, Some, IsTrue, IsFalse}
use Rattle.saphyr_scalar.specs.Values.Flow.{mark, raw_item, apostrophe, backslash}
use Rattle.saphyr_scalar.specs.Values.Escapes.{short_escape}
use Rattle.saphyr_scalar.specs.Spelling.OneLine.{IsNumber}
use Rattle.saphyr_scalar.specs.Steps.Quoted.{break_len, is_closing}
use Rattle.saphyr_scalar.specs.Spelling.LaterLines.{is_quoted_line}
use Rattle.saphyr_scalar.specs.Spelling.IndentedQuotes.{HasIndentedLines}
use Rattle.saphyr_scalar.specs.Spelling.QuotedMarkers.{HasNoMarker}
use Rattle.saphyr_scalar.specs.Spelling.Quoted as quotes
pub use Rattle.saphyr_scalar.specs.Spelling.Quoted.{stands_for_itself, IsQuotedText}

abbrev pub IsCleanText : ℕ → Quote → List ℕ → List Item → List ℕ → Type 0
IsCleanText n q t items x =
    (is : quotes.IsText q t items x) × HasNoMarker q t items x is × HasIndentedLines n q t items x is

-- a line begins with no document marker
abbrev pub IsClear : List ℕ → Type 0
IsClear t = IsFalse (is_document_indicator t)

-- a line after a break, and after an escaped one
abbrev pub IsReached : ℕ → List ℕ → Type 0
IsReached n line = IsTrue (is_quoted_line n line)

abbrev pub IsReachedOrClosed : ℕ → List ℕ → Type 0
IsReachedOrClosed n line = IsTrue (is_quoted_line n line || (slice_index line 0 == quotation_mark))

pub closed : (n : ℕ) (q : Quote) (x : List ℕ) → IsTrue (is_closing q (mark q ∷ x)) → IsCleanText n q (mark q ∷ x) [] x
closed n q x h = (quotes.closed q x h, tt, tt)

pub itself : (n : ℕ) (q : Quote) (c : ℕ) (t : List ℕ) (items : List Item) (x : List ℕ) → IsTrue (stands_for_itself q c)
    → IsCleanText n q t items x → IsCleanText n q (c ∷ t) (raw_item c ∷ items) x
itself n q c t items x h r = (quotes.itself q c t items x h r.0, r.1, r.2)

pub broken : (n : ℕ) (q : Quote) (t : List ℕ) (items : List Item) (x : List ℕ) → IsTrue (is_break (slice_index t 0))
    → IsClear (drop (break_len t) t) → IsReached n (drop (break_len t) t)
    → IsCleanText n q (drop (break_len t) t) items x → IsCleanText n q t (Break ∷ items) x
broken n q t items x h k l r = (quotes.broken q t items x h r.0, (k, r.1), (l, r.2))

pub two_quotes : (n : ℕ) (t : List ℕ) (items : List Item) (x : List ℕ) → IsCleanText n Single t items x
    → IsCleanText n Single (apostrophe ∷ apostrophe ∷ t) (Raw apostrophe ∷ items) x
two_quotes n t items x r = (quotes.two_quotes t items x r.0, r.1, r.2)

pub escaped : (n e c : ℕ) (t : List ℕ) (items : List Item) (x : List ℕ) → short_escape e ≡ Some c
    → IsCleanText n Double t items x → IsCleanText n Double (backslash ∷ e ∷ t) (Escaped c ∷ items) x
escaped n e c t items x h r = (quotes.escaped e c t items x h r.0, r.1, r.2)

pub numbered : (n e c : ℕ) (ds t : List ℕ) (items : List Item) (x : List ℕ) → IsNumber e c ds
    → IsCleanText n Double t items x → IsCleanText n Double (backslash ∷ e ∷ (ds ++ t)) (Escaped c ∷ items) x
numbered n e c ds t items x h r = (quotes.numbered e c ds t items x h r.0, r.1, r.2)

pub escaped_break : (n : ℕ) (t : List ℕ) (items : List Item) (x : List ℕ) → IsTrue (is_break (slice_index t 0))
    → IsClear (drop (break_len t) t) → IsReachedOrClosed n (drop (break_len t) t)
    → IsCleanText n Double (drop (break_len t) t) items x
    → IsCleanText n Double (backslash ∷ t) (EscapedBreak ∷ items) x
escaped_break n t items x h k l r = (quotes.escaped_break t items x h r.0, (k, r.1), (l, r.2))
