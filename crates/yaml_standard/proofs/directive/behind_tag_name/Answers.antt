use Rattle.std.proofs.lemmas.Option.{IfSome_then}
use Rattle.yaml_standard.proofs.TagDirectives.{tag_name}
use Rattle.yaml_standard.proofs.directive.behind_tag_name.Goals as goal

pub returns : goal.returns
returns c = IfSome_then c.strip-4.result c.strip-4.ensures
    (λ x e. tag_name _ _ _ _ _ c.in_ok-name.ensures c.in_ok-second.ensures c.in_ok-third.ensures e)
