use Rattle.std.proofs.Common.{◌<◌, ◌^◌, List, ℕ, arith, length, subst}
use Rattle.saphyr_input.proofs.Texts.{length-chars}
use Rattle.saphyr_pieces.proofs.owned.OwnedTextInput.lookahead.Goals as goal

pub returns-then-self-count-clause-countable : goal.returns-then-self-count-clause-countable
returns-then-self-count-clause-countable c =
    subst (λ (cs : List ℕ). length cs < 2 ^ 63) c.as_str.ensures
    (omega (arith, length-chars c.as_str.result.now c.as_str.utf8))

pub returns-else-self-count-clause-countable : goal.returns-else-self-count-clause-countable
returns-else-self-count-clause-countable c =
    subst (λ (cs : List ℕ). length cs < 2 ^ 63) c.as_str.ensures
    (omega (arith, length-chars c.as_str.result.now c.as_str.utf8))
