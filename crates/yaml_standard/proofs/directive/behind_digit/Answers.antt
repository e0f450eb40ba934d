use Rattle.std.proofs.Common.{◌∙◌, sym}
use Rattle.yaml_standard.proofs.directive.behind_digit.Goals as goal

pub returns-then-is_digit : goal.returns-then-is_digit
returns-then-is_digit c = (_, sym c.is_digit.ensures.test ∙ c.if-is_digit.true, c.in_ok-digit.ensures.some)
