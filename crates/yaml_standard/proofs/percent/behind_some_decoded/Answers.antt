use Rattle.yaml_standard.proofs.Escapes.{some_decoded}
use Rattle.yaml_standard.proofs.percent.behind_some_decoded.Goals as goal

pub returns : goal.returns
returns g c =
    some_decoded g.C.CharSet.test _ _ _ c.in_ok-rest.ensures c.behind_decoded.ensures
