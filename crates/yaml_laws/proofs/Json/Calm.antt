-- No document marker begins a line of a text of JSON. A piece is calm where it brings none, whatever it comes before.
use Rattle.yaml_laws.proofs.Common.{Bool, List, [], append_assoc, arith, false, refl, true, ℕ, ◌++◌, ◌∷◌, ◌≡◌, not, ◌==◌, nat_tests, is_break, is_document_indicator, AreIn, has_marker}
use Rattle.yaml_laws.proofs.Json.White.{is_white}

abbrev pub IsCalm : List ℕ → Type 0
IsCalm t = (rest : List ℕ) → has_marker true rest ≡ false → has_marker true (t ++ rest) ≡ false

pub calm_both : (a b : List ℕ) → IsCalm a → IsCalm b → IsCalm (a ++ b)
calm_both a b p q rest h = rw (append_assoc a b rest) (p (b ++ rest) (q rest h))

-- a marker begins no later line where none begins a line
later_lines : (t : List ℕ) → has_marker true t ≡ false → has_marker false t ≡ false
later_lines [] h = refl
later_lines (c ∷ cs) h = grind arith

-- a character that begins no marker
pub calm_character : (c : ℕ) → (c == 45) ≡ false → (c == 46) ≡ false → IsCalm (c ∷ [])
calm_character c no_dash no_dot rest h = grind (arith, later_lines)

white_begins_none : (c : ℕ) → is_white c ≡ true → ((c == 45) ≡ false) × ((c == 46) ≡ false)
white_begins_none c h = (grind (arith, nat_tests), grind (arith, nat_tests))

pub white_calm : (w : List ℕ) → AreIn is_white w → IsCalm w
white_calm [] h rest k = k
white_calm (c ∷ w) h rest k =
    let n = white_begins_none c h.0 in calm_character c n.0 n.1 (w ++ rest) (white_calm w h.1 rest k)

-- ## Pieces without a break

abbrev pub is_no_break : ℕ → Bool
is_no_break c = not (is_break c)

no_feed : (c : ℕ) → is_no_break c ≡ true → (c == 10) ≡ false
no_feed c h = grind (arith, nat_tests)

inside_line : (t rest : List ℕ) → AreIn is_no_break t → has_marker true rest ≡ false
    → has_marker false (t ++ rest) ≡ false
inside_line [] rest h k = later_lines rest k
inside_line (c ∷ cs) rest h k = rw (no_feed c h.0) (inside_line cs rest h.1 k)

-- a piece whose front is no marker
pub calm_line : (c : ℕ) (cs : List ℕ) → AreIn is_no_break (c ∷ cs)
    → ((rest : List ℕ) → is_document_indicator (c ∷ (cs ++ rest)) ≡ false) → IsCalm (c ∷ cs)
calm_line c cs h none rest k = rw (none rest, no_feed c h.0) (inside_line cs rest h.1 k)
