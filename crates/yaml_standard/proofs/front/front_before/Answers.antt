use Rattle.yaml_standard.proofs.Pieces.{front_is}
use Rattle.yaml_standard.proofs.front.front_before.Goals as goal

pub returns : goal.returns
returns c = λ n e. front_is _ _ _ n _ c.utf8.start c.utf8.rest c.saturating_sub.ensures c.in_ok-front.ensures.cases.0 e
