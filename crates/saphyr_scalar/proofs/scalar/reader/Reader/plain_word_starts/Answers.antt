use Rattle.saphyr_scalar.specs.Views.Reader.{cursor_of}
use Rattle.saphyr_scalar.proofs.Plain.SingleSpaces.{any_word_begins}
use Rattle.saphyr_scalar.proofs.scalar.reader.Reader.plain_word_starts.Goals as goal

pub returns-then-begins_any_word : goal.returns-then-begins_any_word
returns-then-begins_any_word g c =
    any_word_begins c.args.in_flow (cursor_of c.args.self.now) (cursor_of c.load.new.self) _ _ c.peek-c.ensures
    c.load.ensures.same c.begins_any_word.ensures c.if-begins_any_word.true
