use Rattle.std.proofs.lemmas.Option.{IfSome_then}
use Rattle.yaml_standard.proofs.Separation.{filler_line}
use Rattle.yaml_standard.proofs.spaces.behind_filler_line.Goals as goal

pub returns : goal.returns
returns c = IfSome_then c.strip.result c.strip.ensures (λ x e. filler_line _ _ _ c.behind_filler_text-rest.ensures e)
