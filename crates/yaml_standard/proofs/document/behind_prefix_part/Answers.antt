use Rattle.std.proofs.lemmas.Option.{IfSome_then}
use Rattle.yaml_standard.proofs.Documents.{part_of_line, part_of_mark}
use Rattle.yaml_standard.proofs.document.behind_prefix_part.Goals as goal

pub returns-in-None : goal.returns-in-None
returns-in-None c = IfSome_then c.behind_end_line.result c.behind_end_line.ensures (λ x h. part_of_line _ _ h)

pub returns-in-Some : goal.returns-in-Some
returns-in-Some c = part_of_mark _ _ c.in-Some.ensures
