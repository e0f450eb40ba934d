-- Sets whose runs scalars take off, and the characters that are not ASCII.
use Rattle.saphyr_scalar.proofs.Common.{◌≡◌, ℕ, ◌≤◌, Bool, true, false, arith, ◌==◌, nat_tests, Quote, Single, Double}
use Rattle.saphyr_scalar.specs.Steps.Quoted.{is_literal}
use Rattle.saphyr_scalar.specs.Steps.Sets.{in_plain}

-- all but the byte order mark are in plain scalars
pub wide_in_plain : (in_flow : Bool) (c : ℕ) → 128 ≤ c → (c == 65279) ≡ false → in_plain in_flow c ≡ true
wide_in_plain true c wide mark = rw mark (grind (arith, nat_tests))
wide_in_plain false c wide mark = rw mark (grind (arith, nat_tests))

-- and each is between quotes
pub wide_is_literal : (quote : Quote) (c : ℕ) → 128 ≤ c → is_literal quote c ≡ true
unfolding is_literal
wide_is_literal Single c wide = grind (arith, nat_tests)
wide_is_literal Double c wide = grind (arith, nat_tests)
