use Rattle.std.proofs.lemmas.Option.{IfSome_then}
use Rattle.yaml_standard.proofs.LineDirectives.{version_name}
use Rattle.yaml_standard.proofs.directive.behind_version_name.Goals as goal

pub returns : goal.returns
returns c = IfSome_then c.strip-5.result c.strip-5.ensures
    (λ x e. version_name _ _ _ _ _ _ c.in_ok-name.ensures c.in_ok-second.ensures c.in_ok-third.ensures
    c.in_ok-fourth.ensures e)
