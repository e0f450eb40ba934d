use Rattle.std.proofs.Common.{◌∙◌, sym}
use Rattle.yaml_standard.proofs.Pieces.{found}
use Rattle.yaml_standard.proofs.Quotes.{of_spaces}
use Rattle.yaml_standard.proofs.quoted.is_of_spaces.Goals as goal

pub returns : goal.returns
returns c =
    λ h. found c.strip.result
    (λ x e. of_spaces _ _ _ c.behind_all_spaces-rest.ensures e) c.strip.ensures (sym c.is_some.ensures ∙ h)
