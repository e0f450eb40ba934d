-- Where a gap over lines is within a line's white space, what comes after it is indented.
use Rattle.std.proofs.Common.{◌≡◌, ℕ, ◌+◌, ◌≤◌, true, false, List, ◌∷◌, drop, slice_index, arith, ◌⊎◌}
use Rattle.scalar_laws.proofs.Common.{◌==◌, is_break, tab, is_document_indicator, Marker, along, QuotedGap, on_line, over_lines, space_count, IsLine}

pub record Indented (indent : ℕ) (m : Marker) (t : List ℕ) : Type 0 where
  pub marker : m.col ≡ 0 → is_document_indicator t ≡ false
  pub far : (indent ≤ m.col + space_count t) ⊎ (is_break (slice_index (drop (space_count t) t) 0) ≡ true)

abbrev pub GapFits : ℕ → QuotedGap → Marker → List ℕ → Type 0
GapFits indent (on_line bytes) m t = Unit {0}
GapFits indent (over_lines escaped n) m t = Indented indent m t

pub line_indented : (indent : ℕ) (m : Marker) (t : List ℕ) → m.col ≡ 0 → IsLine indent t → Indented indent m t
line_indented indent m t zero_col h = grind arith

pub behind_space : (indent : ℕ) (m : Marker) (t : List ℕ) → Indented indent m (32 ∷ t) → Indented indent (along m 1) t
behind_space indent m t h = grind arith

-- a character that is no space is at or right of the indentation, or it is a break
pub right_of : (indent : ℕ) (m : Marker) (c : ℕ) (t : List ℕ) → (c == 32) ≡ false → is_break c ≡ false
    → Indented indent m (c ∷ t) → indent ≤ m.col
right_of indent m c t space break h = grind arith

pub behind_tab : (indent : ℕ) (m : Marker) (t : List ℕ) → Indented indent m (tab ∷ t) → Indented indent (along m 1) t
behind_tab indent m t h = grind arith
