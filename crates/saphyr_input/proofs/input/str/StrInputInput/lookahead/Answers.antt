use Rattle.std.proofs.Common.{arith, subst, IsUtf8}
use Rattle.saphyr_input.proofs.Texts.{length-chars}
use Rattle.saphyr_input.proofs.input.str.StrInputInput.lookahead.Goals as goal

pub returns-then-self-count-clause-countable : goal.returns-then-self-count-clause-countable
returns-then-self-count-clause-countable c =
    omega (arith, length-chars c.args.self.now.rest.now (subst IsUtf8 c.as_bytes.ensures.value c.as_bytes.ensures.utf8))

pub returns-else-self-count-clause-countable : goal.returns-else-self-count-clause-countable
returns-else-self-count-clause-countable c =
    omega (arith, length-chars c.args.self.now.rest.now (subst IsUtf8 c.as_bytes.ensures.value c.as_bytes.ensures.utf8))
