use Rattle.std.proofs.lemmas.Option.{IfSome_then}
use Rattle.yaml_standard.proofs.Quotes.{passes_two}
use Rattle.yaml_standard.proofs.quoted.behind_two.Goals as goal

pub returns : goal.returns
returns c = IfSome_then c.strip-2.result c.strip-2.ensures (λ x e. passes_two _ _ _ _ c.in_ok-second.ensures e)
