use Rattle.std.proofs.lemmas.Option.{IfSome_then}
use Rattle.yaml_standard.proofs.Leads.{value_mark}
use Rattle.yaml_standard.proofs.lead.behind_value_mark.Goals as goal

pub returns : goal.returns
returns c =
    IfSome_then c.strip.result c.strip.ensures
    (λ x e. value_mark _ _ _ _ _ c.behind_filler-line.ensures c.in_ok-mark.ensures e)
