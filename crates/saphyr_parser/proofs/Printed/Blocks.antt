-- Texts that are looked at in blocks of some bytes.
use Rattle.std.proofs.Common.{◌≡◌, ℕ, zero, suc, ◌+◌, ◌%◌, ◌^◌, ◌<◌, ◌≤◌, Bool, false, cond, eqb, leb, List, [], ◌∷◌, length, take, map, get_or, replicate, w8, refl, sym, ◌∙◌, arith, rules}
use Rattle.std.proofs.lemmas.Simd.{bitmask_splat, length-chunk, none_from_empty_mask}
use lib.Lanes.{chunk, mask_l, top, zip2}
use Rattle.saphyr_parser.specs.Printed.{ArePlain, printed_byte, printed_bytes}
use Rattle.saphyr_parser.proofs.Printed.Escapes.{plain_more}

-- where the mask of a comparison of a block with one byte is empty, no byte of the block passes
none_passes : (t : ℕ → ℕ → Bool) (text : List ℕ) (start n y : ℕ) → n ≤ 64 → start + n ≤ length text
    → mask_l (map (top 7) (zip2 (λ a b. cond (t a b) 255 0) (chunk start n text) (replicate n y))) % 2 ^ 64 ≡ 0
    → (k : ℕ) → start ≤ k → k < start + n → t (get_or text k 0) y ≡ false
none_passes t text start n y most room e =
    none_from_empty_mask (λ x. t x y) text start n 0 room
    (sym (bitmask_splat w8 t (chunk start n text) n y (length-chunk start n text room) most) ∙ e)

-- a byte that isn't escaped
plain_byte : (x : ℕ) → leb x 13 ≡ false → eqb x 92 ≡ false → printed_byte x ≡ x ∷ []
plain_byte x low slash = search rules

-- a block has no byte that is escaped
pub plain_block : (text : List ℕ) (start n : ℕ) → n ≤ 64 → start + n ≤ length text
    → mask_l (map (top 7) (zip2 (λ a b. cond (leb a b) 255 0) (chunk start n text) (replicate n 13))) % 2 ^ 64 ≡ 0
    → mask_l (map (top 7) (zip2 (λ a b. cond (eqb a b) 255 0) (chunk start n text) (replicate n 92))) % 2 ^ 64 ≡ 0
    → ArePlain text start (start + n)
plain_block text start n most room low slash i l m =
    plain_byte (get_or text i 0) (none_passes leb text start n 13 most room low i l m)
    (none_passes eqb text start n 92 most room slash i l m)

pub plain_up_to : (text : List ℕ) (n : ℕ) → n ≤ length text → ArePlain text 0 n
    → printed_bytes (take n text) ≡ take n text
plain_up_to text zero l p = refl
plain_up_to text (suc n) l p =
    let more : suc n ≡ n + 1 = omega arith in
    rw more (plain_more text n (omega arith) (p n (omega arith) (omega arith))
    (plain_up_to text n (omega arith) (λ i a b. p i a (omega arith))))
