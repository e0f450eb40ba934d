use Rattle.saphyr_pieces.specs.Views.{ReadsOnBy}
use Rattle.saphyr_pieces.proofs.pieces.copy.read_again.Given as goal

abbrev pub invariant-loop : goal.invariant-loop
invariant-loop l = ReadsOnBy l.counter l.fn.reader l.reader
