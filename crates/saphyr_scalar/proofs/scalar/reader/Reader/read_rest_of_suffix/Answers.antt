-- A character that no suffix has ends it.
use Rattle.saphyr_scalar.proofs.Common.{string_bytes, sym, ◌∙◌, cursor_of}
use Rattle.saphyr_scalar.proofs.Properties.TagSteps.{no_suffix_left}
use Rattle.saphyr_scalar.proofs.scalar.reader.Reader.read_rest_of_suffix.Goals as goal

pub returns-then-not-is_tag_char : goal.returns-then-not-is_tag_char
returns-then-not-is_tag_char g c =
    no_suffix_left c.args.start (string_bytes c.args.text.now) (cursor_of c.args.self.now) c.args.c c.requires.first
    c.requires.inside (sym c.is_tag_char.ensures.test ∙ c.if-not-is_tag_char.true)
