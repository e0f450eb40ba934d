-- Passing over a text.
use Rattle.saphyr_scalar.proofs.Common.{◌≡◌, ℕ, suc, ◌<◌, ◌≤◌, true, false, List, [], ◌∷◌, ◌++◌, length, drop, slice_index, refl, ap, arith, IsTrue, inl, inr, ◌⊎◌, backslash, is_break, is_hex, Marker, along, next_line}
use Rattle.saphyr_scalar.specs.Spelling.Tag.{AreIn}
use Rattle.saphyr_scalar.specs.Passing.{IsPassed, nothing, character, line_break}
use Rattle.saphyr_scalar.specs.Steps.Quoted.{break_len}
use Rattle.saphyr_scalar.proofs.Moving.{along_more, along_none}

pub letter_passed : (m : Marker) (e : ℕ) (t : List ℕ) (n : Marker) (x : List ℕ) → is_break e ≡ false
    → IsPassed (along m 2) t n x → IsPassed m (backslash ∷ e ∷ t) n x
letter_passed m e t n x h p = character m 92 (e ∷ t) n x refl
    (character (along m 1) e t n x h (rw (along_more m 1 1 2 refl) p))

pub hex_no_break : (d : ℕ) → IsTrue (is_hex d) → is_break d ≡ false
hex_no_break d h = grind arith

pub digits_passed : (m : Marker) (ds t : List ℕ) (n : Marker) (x : List ℕ) → AreIn is_hex ds
    → IsPassed (along m (length ds)) t n x → IsPassed m (ds ++ t) n x
digits_passed m [] t n x h p = rw (along_none m) at p
digits_passed m (d ∷ ds) t n x h p = character m d (ds ++ t) n x (hex_no_break d h.0)
    (digits_passed (along m 1) ds t n x h.1 (rw (along_more m 1 (length ds) (suc (length ds)) (omega arith)) p))

-- A place is determined by what is passed.

pub drop_less : (t : List ℕ) → is_break (slice_index t 0) ≡ true → length (drop (break_len t) t) < length t
drop_less t h = grind arith

passed_shorter : (m : Marker) (t : List ℕ) (n : Marker) (u : List ℕ) → IsPassed m t n u → length u ≤ length t
passed_shorter _ _ _ _ (nothing m t) = omega arith
passed_shorter _ _ _ _ (character m c t n u h p) = omega (arith, passed_shorter (along m 1) t n u p)
passed_shorter _ _ _ _ (line_break m t n u h p) =
    omega (arith, passed_shorter (next_line m (break_len t)) (drop (break_len t) t) n u p, drop_less t h)

-- what a passing begins with
record StaysHere (m : Marker) (s : List ℕ) (n : Marker) (u : List ℕ) : Type 0 where
  text : u ≡ s
  place : n ≡ m

behind_character : (m : Marker) (s : List ℕ) (n : Marker) (u : List ℕ) → IsPassed m s n u → (c : ℕ) (t : List ℕ)
    → s ≡ c ∷ t → is_break c ≡ false → StaysHere m s n u ⊎ IsPassed (along m 1) t n u
behind_character u0 u1 u2 u3 u4 c t e h = grind arith

behind_break : (m : Marker) (s : List ℕ) (n : Marker) (u : List ℕ) → IsPassed m s n u
    → is_break (slice_index s 0) ≡ true
    → StaysHere m s n u ⊎ IsPassed (next_line m (break_len s)) (drop (break_len s) s) n u
behind_break u0 u1 u2 u3 u4 h = grind arith

same_as_nothing : (m : Marker) (s : List ℕ) (n : Marker) (u : List ℕ) → IsPassed m s n u → length s ≤ length u → n ≡ m
same_as_nothing u0 u1 u2 u3 u4 le = grind (arith, passed_shorter, drop, drop_less)

pub one_place : (m : Marker) (s : List ℕ) (n : Marker) (u : List ℕ) → IsPassed m s n u → (k : Marker) → IsPassed m s k u
    → k ≡ n
one_place _ _ _ _ (nothing m s) k q = same_as_nothing m s k s q (omega arith)
one_place _ _ _ _ (character m c s n u h p) k q = elim (behind_character m (c ∷ s) k u q c s refl h) [
  | inl stays ↦ absurd (omega (arith, passed_shorter (along m 1) s n u p, ap (λ (l : List ℕ). length l) stays.text))
  | inr r ↦ one_place (along m 1) s n u p k r
]
one_place _ _ _ _ (line_break m s n u h p) k q = elim (behind_break m s k u q h) [
  | inl stays ↦ absurd (omega (
    arith,
    passed_shorter (next_line m (break_len s)) (drop (break_len s) s) n u p,
    drop_less s h,
    ap
        (λ (l : List ℕ). length l) stays.text,
  ))
  | inr r ↦ one_place (next_line m (break_len s)) (drop (break_len s) s) n u p k r
]
