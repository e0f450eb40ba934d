use Rattle.yaml_standard.proofs.Leads.{next_line_lead}
use Rattle.yaml_standard.proofs.lead.behind_next_line_lead.Goals as goal

pub returns : goal.returns
returns c =
    next_line_lead _ _ _ _ _ _ _ c.in_ok-filler.ensures c.behind_filler-line.ensures c.split_spaces-column.ensures.1
    c.if-column-least.false
