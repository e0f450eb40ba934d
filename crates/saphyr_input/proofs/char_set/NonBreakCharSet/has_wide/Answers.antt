use Rattle.saphyr_input.proofs.Ascii.{wide_non_break}
use Rattle.saphyr_input.proofs.char_set.NonBreakCharSet.has_wide.Goals as goal

pub returns : goal.returns
returns c = λ other x first. wide_non_break c.args.byte x c.requires other first
