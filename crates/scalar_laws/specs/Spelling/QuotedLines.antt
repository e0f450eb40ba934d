-- The lines of quoted scalars (YAML 1.2.2, 7.3.1, 7.3.2 and 6.5).
use Rattle.std.specs.Prelude.{ℕ, ◌≤◌, ◌==◌, ◌⊎◌, List, drop, slice_index, IsTrue, IsFalse}
use Rattle.std.specs.List.{prefix_len}
use Rattle.saphyr_input.specs.Classes.{is_break, space}
use Rattle.saphyr_input.specs.Places.{is_document_indicator}
use Rattle.saphyr_scalar.specs.Spelling.LineBreaks.{break_len}
use Rattle.saphyr_scalar.specs.Spelling.Quoted.{IsText, closed, itself, broken, two_quotes, escaped, numbered, escaped_break}
use Rattle.saphyr_scalar.specs.declared.values.Item.{Item}
use Rattle.saphyr_scalar.specs.declared.values.Quote.{Quote}

-- how many spaces come first
abbrev pub space_count : List ℕ → ℕ
space_count t = prefix_len (λ c. c == space) t

-- A line that begins here: no document marker does, and the line begins with `indent` spaces or more (6.1 [63]), or it
-- has spaces alone (6.4 [70]).
pub record IsLine (indent : ℕ) (t : List ℕ) : Type 0 where
  pub no_marker : IsFalse (is_document_indicator t)
  pub indented : (indent ≤ space_count t) ⊎ IsTrue (is_break (slice_index (drop (space_count t) t) 0))

-- each later line of a scalar is so
abbrev pub LinesFit : ℕ → (q : Quote) (t : List ℕ) (items : List Item) (x : List ℕ) → IsText q t items x → Type 0
LinesFit indent _ _ _ _ (closed q x h) = Unit {0}
LinesFit indent _ _ _ _ (itself q c t items x h r) = LinesFit indent q t items x r
LinesFit indent _ _ _ _ (broken q t items x h r) =
    IsLine indent (drop (break_len t) t) × LinesFit indent q (drop (break_len t) t) items x r
LinesFit indent _ _ _ _ (two_quotes t items x r) = LinesFit indent _ t items x r
LinesFit indent _ _ _ _ (escaped e c t items x h r) = LinesFit indent _ t items x r
LinesFit indent _ _ _ _ (numbered e c ds t items x h r) = LinesFit indent _ t items x r
LinesFit indent _ _ _ _ (escaped_break t items x h r) =
    IsLine indent (drop (break_len t) t) × LinesFit indent _ (drop (break_len t) t) items x r
