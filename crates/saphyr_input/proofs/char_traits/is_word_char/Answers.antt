use Rattle.std.proofs.Common.{◌≡◌}
use Rattle.std.specs.Prelude.{◌==◌, ◌≢◌}
use Rattle.saphyr_input.specs.Classes as spec
use Rattle.saphyr_input.specs.Indicators.{low_line}
use Rattle.saphyr_input.proofs.Sets.{is_char, and_not, and_first}
use Rattle.saphyr_input.proofs.char_traits.is_word_char.Goals as goal

pub returns-then-is_alpha-clause-set : goal.returns-then-is_alpha-clause-set
returns-then-is_alpha-clause-set c =
    and_not (c.args.c == low_line) (spec.IsAlpha c.args.c) (c.args.c ≡ low_line)
    (c.is_alpha.ensures.set.0 c.if-is_alpha.true) (is_char c.args.c low_line)

pub returns-else-is_alpha-clause-set : goal.returns-else-is_alpha-clause-set
returns-else-is_alpha-clause-set c =
    and_first c.is_alpha.result (spec.IsAlpha c.args.c) (c.args.c ≢ low_line) c.if-is_alpha.false
    c.is_alpha.ensures.set.1
