use Rattle.std.proofs.lemmas.Option.{IfSome_then}
use Rattle.yaml_standard.proofs.Leads.{compact_lead}
use Rattle.yaml_standard.proofs.lead.behind_lead.Goals as goal

pub returns : goal.returns
returns c =
    IfSome_then c.behind_compact_lead.result c.behind_compact_lead.ensures (λ x t. compact_lead _ _ _ _ _ t)
