use Rattle.std.proofs.lemmas.Option.{IfSome_then}
use Rattle.yaml_standard.proofs.BlockLines.{content_taken}
use Rattle.yaml_standard.proofs.block_lines.behind_content.Goals as goal

pub returns-then-may_begin : goal.returns-then-may_begin
returns-then-may_begin c = IfSome_then c.behind_some.result c.behind_some.ensures
    (λ x t. content_taken _ _ _ _ _ c.in_ok-content.ensures (c.may_begin.ensures c.if-may_begin.true) t)
