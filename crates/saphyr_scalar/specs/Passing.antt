-- Passing over a text: the place after each character, and after each line break (YAML 1.2.2, 5.4).
use Rattle.std.specs.Prelude.{ℕ, List, ◌∷◌, drop, slice_index, IsTrue, IsFalse}
use Rattle.saphyr_input.specs.Classes.{is_break}
use Rattle.saphyr_scalar.specs.Views.Cursor.{along, next_line}
use Rattle.saphyr_scalar.specs.Spelling.LineBreaks.{break_len}
use Rattle.saphyr_scalar.specs.declared.scalar.position.Marker.{Marker}

-- from a place and what is there to a later place and what comes after
pub data IsPassed : Marker → List ℕ → Marker → List ℕ → Type 0 where
  nothing : (m : Marker) (t : List ℕ) → IsPassed m t m t
  character : (m : Marker) (c : ℕ) (t : List ℕ) (n : Marker) (u : List ℕ) → IsFalse (is_break c)
      → IsPassed (along m 1) t n u → IsPassed m (c ∷ t) n u
  line_break : (m : Marker) (t : List ℕ) (n : Marker) (u : List ℕ) → IsTrue (is_break (slice_index t 0))
      → IsPassed (next_line m (break_len t)) (drop (break_len t) t) n u → IsPassed m t n u
