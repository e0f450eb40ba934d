use Rattle.saphyr_scalar.proofs.Common.{true, false≢true, is_blank_or_break, shows_character, cursor_of}
use Rattle.saphyr_scalar.proofs.scalar.reader.Reader.skip_plain_white.Goals as goal

pub skip_blank-requires : goal.skip_blank-requires
skip_blank-requires g c =
    shows_character (cursor_of c.args.self.now).rest is_blank_or_break true c.requires.white (λ e. false≢true e)
