use Rattle.yaml_standard.proofs.PlainScalars.{plain_taken}
use Rattle.yaml_standard.proofs.plain.behind_plain.Goals as goal

pub returns : goal.returns
returns c = plain_taken _ _ _ _ _ c.in_ok-first.ensures c.behind_further_words.ensures
