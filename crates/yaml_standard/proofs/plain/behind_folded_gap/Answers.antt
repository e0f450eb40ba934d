use Rattle.std.proofs.lemmas.Option.{IfSome_then}
use Rattle.yaml_standard.proofs.PlainScalars.{folded_gap}
use Rattle.yaml_standard.proofs.plain.behind_folded_gap.Goals as goal

pub returns : goal.returns
returns c = IfSome_then c.behind_line_prefix.result c.behind_line_prefix.ensures
    (λ x t. folded_gap _ _ _ _ _ _ c.behind_blanks-blanks.ensures c.in_ok-line.ensures
    c.behind_empty_lines-content.ensures t)
