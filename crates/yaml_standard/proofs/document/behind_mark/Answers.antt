use Rattle.std.proofs.lemmas.Option.{IfSome_then}
use Rattle.yaml_standard.proofs.Documents.{mark_taken}
use Rattle.yaml_standard.proofs.document.behind_mark.Goals as goal

pub returns : goal.returns
returns c = IfSome_then c.strip.result c.strip.ensures (λ x e. mark_taken _ _ _ c.behind_filler-mark.ensures e)
