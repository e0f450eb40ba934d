use Rattle.std.proofs.Common.{◌≡◌, ◌≢◌, ℕ, false, refl, arith}
use Rattle.std.specs.Prelude.{◌==◌}
use Rattle.std.proofs.lemmas.Bool.Decides.{nat_tests}
use Rattle.saphyr_input.specs.Classes as class
use Rattle.saphyr_input.proofs.char_traits.is_break.Goals as goal

-- what is no line feed is a break if it is CR
other_break : (c : ℕ) → c ≢ class.line_feed → (c == class.carriage_return) ≡ class.is_break c
other_break c other = let off : (c == 10) ≡ false = grind (arith, nat_tests) in rw off refl

pub returns-else-c-eq10-clause-test : goal.returns-else-c-eq10-clause-test
returns-else-c-eq10-clause-test c = other_break c.args.c c.if-c-eq10.false
