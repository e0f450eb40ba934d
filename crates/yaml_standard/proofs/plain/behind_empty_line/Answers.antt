use Rattle.std.proofs.lemmas.Option.{IfSome_then}
use Rattle.yaml_standard.proofs.PlainScalars.{line_of_spaces, line_of_prefix}
use Rattle.yaml_standard.proofs.plain.behind_empty_line.Goals as goal

pub returns-in-Some : goal.returns-in-Some
returns-in-Some c = line_of_spaces _ _ _ _ c.behind_all_spaces-spaces.ensures c.in-Some.ensures

pub returns : goal.returns
returns c = IfSome_then c.strip-2.result c.strip-2.ensures (λ x e. line_of_prefix _ _ _ _ c.in_ok-rest.ensures e)
