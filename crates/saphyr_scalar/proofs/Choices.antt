-- Tests: two choices by tests that come out alike, and what a test of a character says of the text that shows it.
use Rattle.std.proofs.Common.{◌≡◌, ℕ, Bool, true, false, List, slice_index, sym, ap, ◌∙◌, cond, arith}

-- a choice by a test that comes out alike on both sides
pub both_by : {X Y : Type 0} (a b : Bool) (x y : X) (z w : Y) (P : X → Y → Type 0) → a ≡ b
    → (a ≡ true → b ≡ true → P x z) → (a ≡ false → b ≡ false → P y w) → P (cond a x y) (cond b z w)
both_by u0 u1 x y z w u2 e then else = grind arith

-- what a test of the character that was looked at says of the text
pub shows : (p : ℕ → Bool) (xs : List ℕ) (c : ℕ) (b d : Bool) → c ≡ slice_index xs 0 → b ≡ p c → b ≡ d
    → p (slice_index xs 0) ≡ d
shows p xs c b d read is e = ap p (sym read) ∙ sym is ∙ e
