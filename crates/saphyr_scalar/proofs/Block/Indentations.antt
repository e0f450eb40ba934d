-- Which characters belong to the indentation of a block scalar's line: spaces alone.
use Rattle.saphyr_scalar.proofs.Common.{◌≡◌, ℕ, true, false, refl, ◌==◌, nat_lt, Option, Some, None, eqb-true, space, and_true_left}
use Rattle.saphyr_scalar.specs.Steps.Block.{is_indentation}

pub nul_no_indentation : (limit : Option ℕ) (col : ℕ) → is_indentation limit col 0 ≡ false
nul_no_indentation None col = refl
nul_no_indentation (Some limit) col = refl

pub indentation_is_space : (limit : Option ℕ) (col c : ℕ) → is_indentation limit col c ≡ true → c ≡ space
indentation_is_space None col c e = eqb-true c 32 e
indentation_is_space (Some limit) col c e = eqb-true c 32 (and_true_left (c == 32) (nat_lt col limit) e)
