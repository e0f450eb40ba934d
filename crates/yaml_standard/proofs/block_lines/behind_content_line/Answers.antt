use Rattle.std.proofs.lemmas.Option.{IfSome_then}
use Rattle.yaml_standard.proofs.BlockLines.{passes_content}
use Rattle.yaml_standard.proofs.block_lines.behind_content_line.Goals as goal

pub returns : goal.returns
returns c = IfSome_then c.strip.result c.strip.ensures (λ x e. passes_content _ _ _ _ _ c.in_ok-rest.ensures e)
