use Rattle.std.proofs.Common.{◌∙◌}
use Rattle.std.proofs.lemmas.Option.{IfSome_then}
use Rattle.yaml_standard.proofs.BlockScalars.{literal_taken, folded_taken}
use Rattle.yaml_standard.proofs.block_scalar.behind_block_scalar.Goals as goal
use Rattle.yaml_standard.proofs.block_scalar.behind_block_scalar.Goals.{else-mark-ne124-via-then-mark-ne124+else-mark-ne62, else-mark-ne124-via-else-mark-ne124}

pub returns : goal.returns
returns c =
    IfSome_then c.behind_body.result c.behind_body.ensures
    (λ x lines. elim c.else-mark-ne124.branch [
      | else-mark-ne124-via-then-mark-ne124+else-mark-ne62 w ↦
          folded_taken _ _ _ _ _ _ _ _ _ _ c.in_ok-mark.ensures.some w.if-mark-ne62.false c.in_ok-digit.ensures
          (λ e. c.if-first-eq9.false (c.first.ensures ∙ e)) c.in_ok-column.ensures lines
      | else-mark-ne124-via-else-mark-ne124 w ↦
          literal_taken _ _ _ _ _ _ _ _ _ _ c.in_ok-mark.ensures.some w.if-mark-ne124.false c.in_ok-digit.ensures
          (λ e. c.if-first-eq9.false (c.first.ensures ∙ e)) c.in_ok-column.ensures lines
    ])
