-- A word was put behind `!`.
use Rattle.saphyr_scalar.proofs.Common.{string_bytes, cursor_of}
use Rattle.saphyr_scalar.proofs.Properties.TagSteps.{word_put}
use Rattle.saphyr_scalar.proofs.scalar.reader.Reader.read_marked_word.Goals as goal

pub returns-clause-word : goal.returns-clause-word
returns-clause-word g c =
    word_put (cursor_of c.args.self.now) (cursor_of c.skip_non_blank.new.self) (cursor_of c.read_run.new.self)
    (cursor_of c.look.new.self) (string_bytes c.args.text.now) (string_bytes c.push.new.self)
    (string_bytes c.read_run.new.text) c.skip_non_blank.ensures c.in_ok-push.ensures.bytes c.in_ok-read_run.ensures
    c.look.ensures.same
