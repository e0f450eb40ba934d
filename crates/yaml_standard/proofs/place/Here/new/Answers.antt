use Rattle.std.proofs.Common.{refl, arith}
use Rattle.saphyr_input.proofs.Texts.{length-chars}
use Rattle.yaml_standard.proofs.Places.{starts_here}
use Rattle.yaml_standard.proofs.place.Here.new.Goals as goal

pub returns : goal.returns
returns c =
    starts_here _ _ _ (omega (arith, length-chars c.args.text.now c.utf8.text)) refl c.new.ensures.index
    c.new.ensures.line c.new.ensures.col
