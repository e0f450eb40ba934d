use Rattle.saphyr_scalar.proofs.Quoted.SpelledLines.{quoted_clean, quoted_spelled}
use Rattle.saphyr_scalar.proofs.scalar.law.spells_each_quoted.Goals as goal

pub returns : goal.returns
returns c = record {
  spelled = λ quote indent s t text opening read. quoted_spelled quote indent s text t opening read;
  lines = λ quote indent s t text opening read. quoted_clean quote indent s text t opening read;
}
