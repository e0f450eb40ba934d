use Rattle.std.proofs.lemmas.Option.{MatchOption-at_some, IfSome_then}
use Rattle.std.specs.Str.{chars}
use Rattle.yaml_standard.specs.Directives.{AreSomeDirectives}
use Rattle.yaml_standard.specs.Takes.{TakesOff}
use Rattle.yaml_standard.proofs.Documents.{marker_taken}
use Rattle.yaml_standard.proofs.document.behind_directives_and_marker.Goals as goal

pub returns-in-Some : goal.returns-in-Some
returns-in-Some c =
    let directives = MatchOption-at_some (Unit {0})
    (λ x. TakesOff AreSomeDirectives (chars c.args.text.now) (chars x.now)) _ c.in-Some.is
    c.in_ok-found.ensures in
    IfSome_then c.behind_start.result c.behind_start.ensures (λ x e. marker_taken _ _ _ directives e)
