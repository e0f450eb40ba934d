use Rattle.std.proofs.lemmas.Option.{IfSome_then}
use Rattle.std.proofs.Common.{◌∙◌, sym}
use Rattle.yaml_standard.proofs.Leads.{flow_gap}
use Rattle.yaml_standard.proofs.lead.behind_flow_gap.Goals as goal

pub returns : goal.returns
returns c =
    IfSome_then c.behind_gap_at.result c.behind_gap_at.ensures
    (λ x h. flow_gap _ _ _ (sym c.is_lone_tab.ensures ∙ c.if-is_lone_tab.false) h)
