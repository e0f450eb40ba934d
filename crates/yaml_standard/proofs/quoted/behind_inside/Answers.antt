use Rattle.std.proofs.Common.{rules}
use Rattle.std.proofs.lemmas.Option.{IfSome_then}
use Rattle.yaml_standard.proofs.Quotes.{nothing_passed, part_passed, inside_closed}
use Rattle.yaml_standard.proofs.quoted.behind_inside.Goals as goal

pub loop-part-init : goal.loop-part-init
loop-part-init c = record { text = search rules; passed = nothing_passed _ _ _ }

pub loop-part-preserved : goal.loop-part-preserved
loop-part-preserved c =
    record { text = search rules; passed = part_passed _ _ _ _ _ c.loop-part.invariant.passed c.in-Some.ensures }

pub loop-part-smaller : goal.loop-part-smaller
loop-part-smaller c = c.in-Some.ensures.shorter

pub returns : goal.returns
returns c = IfSome_then c.strip.result c.strip.ensures
    (λ x e. inside_closed _ _ _ _ _ _ c.loop-part.invariant.passed e c.mark.ensures)
