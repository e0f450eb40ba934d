-- Document markers and quoted scalars (YAML 1.2.2, 9.1.2, 7.3.1, 7.3.2).
use Rattle.std.specs.Prelude.{ℕ, List, drop, IsFalse}
use Rattle.saphyr_input.specs.Places.{is_document_indicator}
use Rattle.saphyr_scalar.specs.Spelling.LineBreaks.{break_len}
use Rattle.saphyr_scalar.specs.Spelling.Quoted.{IsText, closed, itself, broken, two_quotes, escaped, numbered, escaped_break}
use Rattle.saphyr_scalar.specs.declared.values.Item.{Item}
use Rattle.saphyr_scalar.specs.declared.values.Quote.{Quote}

-- no later line of a scalar begins with a document marker
abbrev pub HasNoMarker : (q : Quote) (t : List ℕ) (items : List Item) (x : List ℕ) → IsText q t items x → Type 0
HasNoMarker _ _ _ _ (closed q x h) = Unit {0}
HasNoMarker _ _ _ _ (itself q c t items x h r) = HasNoMarker q t items x r
HasNoMarker _ _ _ _ (broken q t items x h r) =
    IsFalse (is_document_indicator (drop (break_len t) t)) × HasNoMarker q (drop (break_len t) t) items x r
HasNoMarker _ _ _ _ (two_quotes t items x r) = HasNoMarker _ t items x r
HasNoMarker _ _ _ _ (escaped e c t items x h r) = HasNoMarker _ t items x r
HasNoMarker _ _ _ _ (numbered e c ds t items x h r) = HasNoMarker _ t items x r
HasNoMarker _ _ _ _ (escaped_break t items x h r) =
    IsFalse (is_document_indicator (drop (break_len t) t)) × HasNoMarker _ (drop (break_len t) t) items x r
