use Rattle.saphyr_scalar.proofs.Common.{false, wide_first, no_mark}
use Rattle.saphyr_scalar.proofs.WideSets.{wide_in_plain}
use Rattle.saphyr_scalar.proofs.scalar.plain.words.PlainOutsideCharSet.has_wide.Goals as goal

pub returns : goal.returns
returns c =
    λ other x first. wide_in_plain false x (wide_first c.args.byte x c.requires first)
    (no_mark c.args.byte x other first)
