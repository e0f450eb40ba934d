use Rattle.saphyr_pieces.specs.Passed.{passed_tokens}
use Rattle.saphyr_pieces.specs.Views.{PassesIdleOn}
use Rattle.saphyr_pieces.proofs.pieces.copy.pass_tokens.Given as goal

abbrev pub invariant-loop : goal.invariant-loop
invariant-loop l = PassesIdleOn (passed_tokens l.fn.passed) l.fn.reader (passed_tokens l.passed) l.reader
