use Rattle.scalar_laws.specs.Spelling.Block.{chomping_first}
use Rattle.yaml_standard.proofs.header.chomping_first.Goals as goal

pub returns : goal.returns
returns c = λ mark. chomping_first mark _ _ _ c.chomping-kind.ensures c.indicator-digit.ensures c.in_ok-rest.ensures
