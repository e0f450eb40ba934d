use Rattle.scalar_laws.specs.Spelling.Block.{digit_first}
use Rattle.yaml_standard.proofs.header.digit_first.Goals as goal

pub returns : goal.returns
returns c = λ mark. digit_first mark _ _ _ c.indicator-digit.ensures c.chomping-kind.ensures c.in_ok-rest.ensures
