use Rattle.std.proofs.lemmas.Option.{IfSome_then}
use Rattle.yaml_standard.proofs.Leads.{entry_indentation}
use Rattle.yaml_standard.proofs.lead.behind_entry_indentation.Goals as goal

pub returns : goal.returns
returns c =
    IfSome_then c.behind_spaces.result c.behind_spaces.ensures
    (λ x e. entry_indentation _ _ _ _ c.behind_filler-line.ensures e)
