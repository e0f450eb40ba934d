use Rattle.saphyr_input.proofs.WideChars.{sized}
use Rattle.saphyr_input.proofs.input.str.wide.is_sized.Goals as goal

pub returns-then-wide_len-size : goal.returns-then-wide_len-size
returns-then-wide_len-size g c =
    λ in_class. sized g.C.CharSet.test c.args.byte _ _ c.if-byte-lt128.false c.if-wide_len-size.true c.wide_len.ensures
    (c.has_wide.ensures in_class)
