use Rattle.std.proofs.lemmas.Option.{IfSome_then}
use Rattle.yaml_standard.proofs.Separation.{next_line}
use Rattle.yaml_standard.proofs.spaces.behind_next_line.Goals as goal

pub returns : goal.returns
returns c =
    IfSome_then c.behind_line_prefix.result c.behind_line_prefix.ensures
    (λ x h. next_line _ _ _ _ _ c.in_ok-line.ensures c.behind_filler-content.ensures h)
