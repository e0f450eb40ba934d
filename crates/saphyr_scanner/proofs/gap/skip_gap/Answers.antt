use Rattle.std.proofs.Common.{rules}
use Rattle.saphyr_scanner.proofs.Gaps.{nothing_passed}
use Rattle.saphyr_scanner.proofs.gap.skip_gap.Goals as goal

pub returns : goal.returns
returns g c = nothing_passed c.args.least _ _ _ c.look-c.ensures.value c.look-c.ensures.same (search rules)
    (search rules) (search rules)
