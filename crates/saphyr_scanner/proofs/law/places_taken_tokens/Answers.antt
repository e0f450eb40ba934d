use Rattle.saphyr_scalar.specs.Views.Cursor.{start_cursor}
use Rattle.saphyr_scanner.specs.TokensTaken.{no_collections}
use Rattle.saphyr_scanner.specs.TokensTaken as taken
use Rattle.saphyr_scanner.proofs.Taken.Places.{tokens_at}
use Rattle.saphyr_scanner.proofs.law.places_taken_tokens.Goals as goal

pub returns : goal.returns
returns c = λ text pieces end h. tokens_at text no_collections pieces (start_cursor text) end
    (taken.nothing (start_cursor text).mark text) h
