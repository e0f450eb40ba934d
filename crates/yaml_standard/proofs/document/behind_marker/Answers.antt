use Rattle.std.proofs.Common.{sym, subst}
use Rattle.std.specs.Prelude.{IfOk, IfSome}
use Rattle.std.specs.Str.{chars}
use Rattle.std.proofs.lemmas.Option.{IfSome_then}
use Rattle.yaml_standard.specs.Documents.{IsFront}
use Rattle.yaml_standard.specs.Takes.{TakesOff}
use Rattle.yaml_standard.proofs.Documents.{marker_alone}
use Rattle.yaml_standard.proofs.document.behind_marker.Goals as goal

pub returns-then-free : goal.returns-then-free
returns-then-free c =
    subst (λ free. IfOk c.behind_directives_and_marker.result (λ found. IfSome found
    (λ rest. TakesOff (IsFront free) (chars c.args.text.now) (chars rest.now)))) (sym c.if-free.true)
    c.behind_directives_and_marker.ensures

pub returns-else-free : goal.returns-else-free
returns-else-free c =
    IfSome_then c.behind_start.result c.behind_start.ensures (λ x e. marker_alone _ _ _ e)
