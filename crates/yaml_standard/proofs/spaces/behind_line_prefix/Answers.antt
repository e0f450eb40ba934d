use Rattle.yaml_standard.proofs.Separation.{line_prefix}
use Rattle.yaml_standard.proofs.spaces.behind_line_prefix.Goals as goal

pub returns : goal.returns
returns c = line_prefix _ _ _ _ c.in_ok-rest.ensures c.behind_blanks.ensures
