use Rattle.yaml_standard.proofs.Leads.{gap_taken}
use Rattle.yaml_standard.proofs.lead.behind_gap_at.Goals as goal

pub returns-in-Some : goal.returns-in-Some
returns-in-Some c = gap_taken _ _ _ _ c.in_ok-indent.ensures c.in-Some.ensures
