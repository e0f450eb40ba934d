-- A quoted scalar ends right of a column that its lines reach.
use Rattle.yaml_laws.proofs.Common.{Bool, IsTrue, List, [], ap, arith, drop, false, inl, refl, slice_index, true, ℕ, ◌++◌, ◌+◌, ◌∷◌, ◌≡◌, ◌≤◌, ◌⊎◌, not, ◌==◌, false≢true, nat_tests, carriage_return, is_break, is_hex, line_feed, space, Marker, Quote, Double, Single, along, next_line, apostrophe, backslash, break_len, length, AreIn, le_next, back_in, no_feed, Item, IsText, closed, itself, broken, two_quotes, escaped, numbered, escaped_break, space_count, IsLine, LinesFit}
use Rattle.saphyr_scalar.proofs.Quoted.Spellings.{no_break_simple, no_break_digits}
use Rattle.saphyr_scanner.proofs.Taken.OnLine.{stands_unbroken}
use Rattle.yaml_laws.proofs.Flow.States.{moved}
use Rattle.yaml_laws.proofs.Flow.Places.{moved_append, right_along}

-- What is at a place is right of a column, or is so after spaces, or spaces end the line.
abbrev pub Reaches : ℕ → Marker → List ℕ → Type 0
Reaches column m t = (column ≤ m.col + space_count t) ⊎ IsTrue (is_break (slice_index (drop (space_count t) t) 0))

-- after a character that is no space and no break
from_content : (column : ℕ) (m : Marker) (c : ℕ) (t : List ℕ) → (c == space) ≡ false → is_break c ≡ false
    → Reaches column m (c ∷ t) → column ≤ m.col
from_content column m c t e f h = grind arith

right_reaches : (column : ℕ) (m : Marker) (t : List ℕ) → column ≤ m.col → Reaches column m t
right_reaches column m t h = inl (let n = space_count t in omega (arith, h))

on_space : (column : ℕ) (m : Marker) (t : List ℕ) → Reaches column m (space ∷ t) → Reaches column (along m 1) t
on_space column m t h = grind (arith, space_count)

feed_first : (t : List ℕ) → IsTrue (is_break (slice_index t 0)) → AreIn (λ c. not (c == carriage_return)) t
    → (cs : List ℕ) × (t ≡ line_feed ∷ cs)
feed_first [] h k = absurd (false≢true h)
feed_first (c ∷ cs) h k = (cs, ap (λ (z : ℕ). z ∷ cs) (is_feed c h k.0))
  where
    is_feed : (c : ℕ) → IsTrue (is_break c) → IsTrue (not (c == carriage_return)) → c ≡ line_feed
    is_feed c h k = grind (arith, nat_tests)

line_reaches : (column : ℕ) (m : Marker) (t : List ℕ) → m.col ≡ 0 → IsLine column t → Reaches column m t
line_reaches column m t e h = grind (arith, drop)

hex_line : (ds : List ℕ) → AreIn is_hex ds → AreIn (λ c. not (c == line_feed)) ds
hex_line [] h = tt
hex_line (d ∷ ds) h = grind (arith, hex_line ds h.1)

-- ## To the end of the text

over_feed : (m : Marker) (t : List ℕ) → (cs : List ℕ) × (t ≡ line_feed ∷ cs) → AreIn (λ c. not (c == carriage_return)) t
    → (moved m t ≡ moved (next_line m 1) (drop (break_len t) t))
    × AreIn (λ c. not (c == carriage_return)) (drop (break_len t) t)
over_feed m t (cs, is) clean = grind arith

-- A quoted text that ends the whole text ends right of the column, or at it. By recursion over the spelling: on a
-- line each character moves to the right, and a later line begins right of the column (`LinesFit`).
pub text_right : (column : ℕ) (q : Quote) (t : List ℕ) (items : List Item) (x : List ℕ) (spelled : IsText q t items x)
    → LinesFit column q t items x spelled → x ≡ [] → (m : Marker) → Reaches column m t
    → AreIn (λ c. not (c == carriage_return)) t → column ≤ (moved m t).col
text_right column _ _ _ _ (closed q x h) fit e m reach clean = grind arith
text_right column _ _ _ _ (itself q c t items x h r) fit e m reach clean =
    let same : moved m (c ∷ t) ≡ moved (along m 1) t = rw (no_feed c (stands_unbroken q c h)) refl in
    rw same (text_right column q t items x r fit e (along m 1) (by_space (c == space) refl) clean.1)
  where
    is_space : (c : ℕ) → (c == space) ≡ true → c ≡ space
    is_space c e = grind (arith, nat_tests)

    by_space : (b : Bool) → (c == space) ≡ b → Reaches column (along m 1) t
    by_space true k = on_space column m t (rw (is_space c k) at reach)
    by_space false k = right_reaches column (along m 1) t
        (le_next column m.col (from_content column m c t k (stands_unbroken q c h) reach))
text_right column _ _ _ _ (broken q t items x h r) fit e m reach clean =
    let b = over_feed m t (feed_first t h clean) clean in
    rw b.0 (text_right column q (drop (break_len t) t) items x r fit.1 e (next_line m 1)
    (line_reaches column (next_line m 1) (drop (break_len t) t) refl fit.0) b.1)
text_right column _ _ _ _ (two_quotes t items x r) fit e m reach clean =
    let here = from_content column m apostrophe (apostrophe ∷ t) refl refl reach in
    text_right column Single t items x r fit e (along (along m 1) 1)
    (right_reaches column (along (along m 1) 1) t (le_next column (m.col + 1) (le_next column m.col here))) clean.1.1
text_right column _ _ _ _ (escaped d c t items x h r) fit e m reach clean =
    let here = from_content column m backslash (d ∷ t) refl refl reach in
    let same : moved m (backslash ∷ d ∷ t) ≡ moved (along (along m 1) 1) t =
    rw (no_feed d (no_break_simple d c h)) refl in
    rw same (text_right column Double t items x r fit e (along (along m 1) 1)
    (right_reaches column (along (along m 1) 1) t (le_next column (m.col + 1) (le_next column m.col here))) clean.1.1)
text_right column _ _ _ _ (numbered d c ds t items x h r) fit e m reach clean =
    let here = from_content column m backslash (d ∷ (ds ++ t)) refl refl reach in
    let front = backslash ∷ d ∷ ds in
    rw (moved_append m front t) (text_right column Double t items x r fit e (moved m front)
    (right_reaches column (moved m front) t (right_along column m front
    ((refl, (ap not (no_feed d (no_break_digits d (length ds) h.count)), hex_line ds h.hex))) here))
    (back_in (λ c. not (c == carriage_return)) ds t clean.1.1))
text_right column _ _ _ _ (escaped_break t items x h r) fit e m reach clean =
    let n = along m 1 in
    let b = over_feed n t (feed_first t h clean.1) clean.1 in
    rw b.0 (text_right column Double (drop (break_len t) t) items x r fit.1 e (next_line n 1)
    (line_reaches column (next_line n 1) (drop (break_len t) t) refl fit.0) b.1)
