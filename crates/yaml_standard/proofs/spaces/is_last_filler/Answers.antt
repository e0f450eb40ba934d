use Rattle.yaml_standard.proofs.Separation.{last_filler}
use Rattle.yaml_standard.proofs.spaces.is_last_filler.Goals as goal

pub returns : goal.returns
returns c = λ h. last_filler _ _ _ c.behind_filler-last.ensures c.behind_filler_text.ensures (c.is_end.ensures h)
