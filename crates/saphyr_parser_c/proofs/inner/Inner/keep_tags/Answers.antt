use Rattle.std.proofs.Common.{◌≡◌, List, ℕ, refl, subst}
use Rattle.saphyr_parser.specs.Cursor.{keeping_tags}
use Rattle.saphyr_pieces.specs.Pieces.{at}
use Rattle.saphyr_parser_c.specs.declared.coming.Coming.{Coming}
use Rattle.saphyr_parser_c.specs.Coming.{KeepsRest}
use Rattle.saphyr_parser_c.proofs.OfPieces.{keeps_from_pieces}
use Rattle.saphyr_parser_c.proofs.inner.Inner.keep_tags.Goals as goal

pub returns-in-Pieces : goal.returns-in-Pieces
returns-in-Pieces c =
    let value = c.args.value in
    let new = c.keep_tags-in-Pieces.new.self in
    let kept = c.keep_tags-in-Pieces.ensures in
    let is = c.deref_mut.ensures.value in (
      keeps_from_pieces value _ c.in-Pieces.coming _ c.in-Pieces.is
          (subst (λ (m : Coming). (later : List ℕ) → at new.parser later ≡ keeping_tags value (at m.parser later)) is
          kept.at)
          (subst (λ (m : Coming). KeepsRest m new) is kept.same)
          (subst (λ (m : Coming). new.last_end ≡ m.last_end) is kept.last),
      refl,
    )
