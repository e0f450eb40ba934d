use Rattle.std.proofs.Common.{◌∙◌, ap, sym, ◌∷◌}
use Rattle.std.specs.Str.{chars}
use Rattle.yaml_standard.proofs.Pieces.{first_passed}
use Rattle.yaml_standard.proofs.front.split.Goals as goal

pub returns-clause-some : goal.returns-clause-some
returns-clause-some c =
    first_passed _ c.chars-rest.result c.next.new.self _ c.utf8.text c.chars-rest.ensures.rest
    c.in_ok-first.ensures.steps
    ∙ ap (λ bs. c.in_ok-first.first ∷ chars bs) (sym c.as_str.ensures)
