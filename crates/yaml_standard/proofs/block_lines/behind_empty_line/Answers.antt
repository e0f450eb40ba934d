use Rattle.std.proofs.lemmas.Option.{IfSome_then}
use Rattle.yaml_standard.proofs.BlockLines.{empty_line_taken}
use Rattle.yaml_standard.proofs.block_lines.behind_empty_line.Goals as goal

pub returns : goal.returns
returns c =
    IfSome_then c.strip.result c.strip.ensures
    (λ x e. empty_line_taken _ _ _ _ _ c.split_spaces-count.ensures e)
