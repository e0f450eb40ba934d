use Rattle.std.proofs.lemmas.Option.{IfSome_then}
use Rattle.yaml_standard.proofs.LineDirectives.{version}
use Rattle.yaml_standard.proofs.directive.behind_version.Goals as goal

pub returns : goal.returns
returns c = IfSome_then c.behind_number-2.result c.behind_number-2.ensures
    (λ x t. version _ _ _ _ _ _ c.in_ok-blanks.ensures c.in_ok-major.ensures c.in_ok-dot.ensures
    c.in_ok-minor.ensures t)
