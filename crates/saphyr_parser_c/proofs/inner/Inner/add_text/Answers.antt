-- The text that comes in pieces has the characters, or is lost.
use Rattle.std.proofs.Common.{refl, subst}
use Rattle.saphyr_parser_c.specs.declared.coming.Coming.{Coming}
use Rattle.saphyr_parser_c.specs.Coming.{Adds}
use Rattle.saphyr_parser_c.proofs.Adding.{adds_to_pieces}
use Rattle.saphyr_parser_c.proofs.inner.Inner.add_text.Goals as goal

pub returns-in-Pieces : goal.returns-in-Pieces
returns-in-Pieces c =
    adds_to_pieces c.args.text.now c.args.self.now _ c.in-Pieces.coming
    (record c.in-Pieces.coming { value = c.add_text.new.self }) c.add_text.result c.in-Pieces.is refl
    (subst (λ (m : Coming). Adds c.args.text.now m c.add_text.result c.add_text.new.self) c.deref_mut.ensures.value
    c.add_text.ensures) refl
