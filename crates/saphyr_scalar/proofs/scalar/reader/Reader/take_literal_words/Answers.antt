use Rattle.saphyr_scalar.specs.declared.values.Quote.TheVariants.{Single, Double}
use Rattle.saphyr_scalar.proofs.TakenWords.{on_ok}
use Rattle.saphyr_scalar.proofs.Quoted.Words.{words_moved}
use Rattle.saphyr_scalar.proofs.scalar.reader.Reader.take_literal_words.Goals as goal

pub returns-in-Single-clause-moved : goal.returns-in-Single-clause-moved
returns-in-Single-clause-moved g c =
    rw c.in-Single.is (on_ok c.move_words.result (words_moved Single _ _ _ _) c.move_words.ensures.moved)

pub returns-in-Double-clause-moved : goal.returns-in-Double-clause-moved
returns-in-Double-clause-moved g c = rw c.in-Double.is
    (on_ok c.move_words-in-Double.result (words_moved Double _ _ _ _) c.move_words-in-Double.ensures.moved)
