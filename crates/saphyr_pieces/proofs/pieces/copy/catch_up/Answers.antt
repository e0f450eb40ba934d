use Rattle.std.proofs.Common.{sym, ◌∙◌, eqb-true}
use Rattle.saphyr_pieces.proofs.Places.{over_nothing}
use Rattle.saphyr_pieces.proofs.pieces.copy.catch_up.Goals as goal

pub returns-then-is_empty : goal.returns-then-is_empty
returns-then-is_empty c =
    over_nothing c.args.since.now c.args.copy.now (eqb-true _ _ (sym c.is_empty.ensures ∙ c.if-is_empty.true))
