use Rattle.yaml_standard.proofs.Leaves.{alias_leaf, properties_leaf, quoted_leaf, plain_leaf}
use Rattle.yaml_standard.proofs.leaf.classed_leaf.Goals as goal

pub returns-in-Some : goal.returns-in-Some
returns-in-Some c = alias_leaf _ _ _ _ c.in-Some.ensures

pub returns-in-Some-behind_some_quoted : goal.returns-in-Some-behind_some_quoted
returns-in-Some-behind_some_quoted c =
    quoted_leaf _ _ _ _ _ c.behind_front-content.ensures c.in-Some-behind_some_quoted.ensures

pub returns-in-Some-behind_plain : goal.returns-in-Some-behind_plain
returns-in-Some-behind_plain c =
    plain_leaf _ _ _ _ _ c.behind_front-content.ensures c.in-Some-behind_plain.ensures

pub returns : goal.returns
returns c = properties_leaf _ _ _ _ c.in_ok-rest.ensures
