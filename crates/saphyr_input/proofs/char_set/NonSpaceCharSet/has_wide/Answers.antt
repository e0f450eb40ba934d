use Rattle.saphyr_input.proofs.Ascii.{wide_non_space}
use Rattle.saphyr_input.proofs.char_set.NonSpaceCharSet.has_wide.Goals as goal

pub returns : goal.returns
returns c = λ other x first. wide_non_space c.args.byte x c.requires other first
