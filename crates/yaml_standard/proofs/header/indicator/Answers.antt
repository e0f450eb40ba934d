use Rattle.scalar_laws.specs.Spelling.Block.{no_digit}
use Rattle.yaml_standard.proofs.header.indicator.Goals as goal

pub returns-in-None : goal.returns-in-None
returns-in-None c = no_digit _
