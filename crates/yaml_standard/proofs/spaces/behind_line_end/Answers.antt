use Rattle.std.proofs.lemmas.Option.{IfSome_then}
use Rattle.yaml_standard.proofs.Separation.{line_ends}
use Rattle.yaml_standard.proofs.spaces.behind_line_end.Goals as goal

pub returns : goal.returns
returns c = IfSome_then c.strip.result c.strip.ensures (λ x e. line_ends _ _ _ c.behind_line_rest-rest.ensures e)
