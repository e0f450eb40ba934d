use Rattle.std.proofs.lemmas.Option.{IfSome_then}
use Rattle.yaml_standard.proofs.Documents.{end_line}
use Rattle.yaml_standard.proofs.document.behind_end_line.Goals as goal

pub returns : goal.returns
returns c =
    IfSome_then c.behind_eol.result c.behind_eol.ensures
    (λ x h. end_line _ _ _ _ c.behind_filler-dots.ensures c.in_ok-end.ensures h)
