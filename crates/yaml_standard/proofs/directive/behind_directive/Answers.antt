use Rattle.yaml_standard.proofs.LineDirectives.{version_line, tag_prefix_line, reserved_line}
use Rattle.yaml_standard.proofs.directive.behind_directive.Goals as goal

pub returns-in-Some : goal.returns-in-Some
returns-in-Some c = version_line _ _ _ c.in-Some.ensures c.behind_line_rest.ensures

pub returns-in-Some-tag_prefix : goal.returns-in-Some-tag_prefix
returns-in-Some-tag_prefix c =
    tag_prefix_line c.in-Some-tag_prefix.handle _ _ _ c.in-Some-tag_prefix.ensures
    c.behind_line_rest-in-Some-tag_prefix.ensures

pub returns : goal.returns
returns c = reserved_line _ _ c.in_ok-rest.ensures
