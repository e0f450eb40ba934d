use Rattle.std.proofs.Common.{true, false}
use Rattle.saphyr_scalar.proofs.TakenWords.{on_ok}
use Rattle.saphyr_scalar.proofs.Plain.SingleSpaces.{words_moved}
use Rattle.saphyr_scalar.proofs.scalar.reader.Reader.read_plain_words.Goals as goal

pub returns-then-in_flow-clause-words : goal.returns-then-in_flow-clause-words
returns-then-in_flow-clause-words g c =
    rw c.if-in_flow.true (on_ok c.move_words.result (words_moved true _ _ _ _) c.move_words.ensures.moved)

pub returns-else-in_flow-clause-words : goal.returns-else-in_flow-clause-words
returns-else-in_flow-clause-words g c =
    rw c.if-in_flow.false
    (on_ok c.move_words-else-in_flow.result (words_moved false _ _ _ _) c.move_words-else-in_flow.ensures.moved)
