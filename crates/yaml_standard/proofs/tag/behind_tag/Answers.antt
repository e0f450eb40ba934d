use Rattle.std.proofs.lemmas.Option.{IfSome_then}
use Rattle.yaml_standard.proofs.NodeProperties.{mark_alone, verbatim, shorthand}
use Rattle.yaml_standard.proofs.tag.behind_tag.Goals as goal

pub returns-in-Some : goal.returns-in-Some
returns-in-Some c = IfSome_then c.strip-in-Some.result c.strip-in-Some.ensures
    (λ x e. verbatim _ _ _ _ _ c.in_ok-mark.ensures c.in-Some.ensures c.in_ok-end.ensures e)

pub returns-in-None : goal.returns-in-None
returns-in-None c = mark_alone _ _ c.in_ok-mark.ensures

pub returns-in-Some-behind_suffix : goal.returns-in-Some-behind_suffix
returns-in-Some-behind_suffix c = shorthand _ _ _ c.in_ok-suffix.ensures c.in-Some-behind_suffix.ensures
