use Rattle.std.proofs.Common.{arith}
use Rattle.std.proofs.lemmas.Bool.Decides.{nat_tests}
use Rattle.saphyr_input.proofs.input.str.wide.wide_len.Goals as goal

pub returns-then-byte-lt224 : goal.returns-then-byte-lt224
unfolding lib.Utf8.encode
returns-then-byte-lt224 c ch first = grind (arith, nat_tests)

pub returns-then-byte-lt240 : goal.returns-then-byte-lt240
unfolding lib.Utf8.encode
returns-then-byte-lt240 c ch first = grind (arith, nat_tests)

pub returns-else-byte-lt240 : goal.returns-else-byte-lt240
unfolding lib.Utf8.encode
returns-else-byte-lt240 c ch first = grind (arith, nat_tests)
