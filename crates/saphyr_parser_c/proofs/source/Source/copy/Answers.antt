use Rattle.std.proofs.Common.{subst}
use Rattle.saphyr_parser_c.specs.declared.coming.Coming.{Coming}
use Rattle.saphyr_parser_c.specs.Coming.{IsCopyOfPieces}
use Rattle.saphyr_parser_c.proofs.OfPieces.{source_copied}
use Rattle.saphyr_parser_c.proofs.source.Source.copy.Goals as goal

pub returns-in_ok-of_pieces-in-Pieces : goal.returns-in_ok-of_pieces-in-Pieces
returns-in_ok-of_pieces-in-Pieces c =
    let copy = c.in_ok-copy-in-Pieces.field-0 in
    source_copied _ _ c.in-Pieces.coming copy c.in-Pieces.is
    (subst (λ (m : Coming). IsCopyOfPieces m copy) c.deref.ensures c.in_ok-copy-in-Pieces.ensures)
    c.in_ok-of_pieces-in-Pieces.ensures
