use Rattle.std.proofs.lemmas.Option.{IfSome_then}
use Rattle.yaml_standard.proofs.Leads.{line_with, line_without}
use Rattle.yaml_standard.proofs.lead.behind_front_line.Goals as goal

pub returns-then-not-has_properties : goal.returns-then-not-has_properties
returns-then-not-has_properties c =
    IfSome_then c.behind_line_end.result c.behind_line_end.ensures (λ x t. line_without _ _ _ t)

pub returns-in-None : goal.returns-in-None
returns-in-None c =
    IfSome_then c.behind_properties_line-in-None.result c.behind_properties_line-in-None.ensures
    (λ x t. line_with _ _ _ _ _ c.in_ok-indent.ensures c.in_ok-properties.ensures t)

pub returns-in-Some : goal.returns-in-Some
returns-in-Some c = line_with _ _ _ _ _ c.in_ok-indent.ensures c.in_ok-properties.ensures c.in-Some.ensures
