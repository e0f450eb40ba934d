use Rattle.std.proofs.Common.{◌∙◌, sym}
use Rattle.yaml_standard.proofs.Pieces.{found}
use Rattle.yaml_standard.proofs.Quotes.{indented_by}
use Rattle.yaml_standard.proofs.quoted.is_indented.Goals as goal

pub returns : goal.returns
returns c =
    λ h. found c.behind_spaces.result (λ x e. indented_by _ _ _ e) c.behind_spaces.ensures (sym c.is_some.ensures ∙ h)
