use Rattle.std.proofs.lemmas.Option.{IfSome_then}
use Rattle.yaml_standard.proofs.Leads.{properties_line}
use Rattle.yaml_standard.proofs.lead.behind_properties_line.Goals as goal

pub returns : goal.returns
returns c =
    IfSome_then c.behind_line_end.result c.behind_line_end.ensures
    (λ x t. properties_line _ _ _ _ c.in_ok-end.ensures t)
