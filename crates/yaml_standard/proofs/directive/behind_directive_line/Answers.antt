use Rattle.yaml_standard.proofs.LineDirectives.{line_taken}
use Rattle.yaml_standard.proofs.directive.behind_directive_line.Goals as goal

pub returns : goal.returns
returns c = line_taken _ _ _ _ _ c.in_ok-kind.ensures c.in_ok-line.ensures c.behind_filler.ensures
