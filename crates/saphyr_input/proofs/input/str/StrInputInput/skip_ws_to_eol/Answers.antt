use Rattle.std.proofs.Common.{◌∙◌, ap, arith, subst, IsUtf8}
use Rattle.std.specs.List.{prefix_len}
use Rattle.saphyr_input.specs.Classes.{is_yaml_non_break}
use Rattle.saphyr_input.specs.Separation.{is_skipped}
use Rattle.saphyr_input.proofs.SkippedBlanks.{two_runs_fit}
use Rattle.saphyr_input.proofs.input.str.StrInputInput.skip_ws_to_eol.Goals as goal

pub overflow_add-result : goal.overflow_add-result
overflow_add-result c =
    omega (
      arith,
      two_runs_fit (is_skipped c.args.skip_tabs) is_yaml_non_break c.args.self.now.rest.now c.split_blanks.result.1.now
          c.split_blanks.result.0.count c.skip_while_non_breakz-comment_len.result
          (subst IsUtf8 c.as_bytes.ensures.value c.as_bytes.ensures.utf8) c.split_blanks.ensures.count
          c.split_blanks.ensures.rest
          (c.skip_while_non_breakz-comment_len.ensures.count
          ∙ ap (prefix_len is_yaml_non_break) c.lookahead.ensures.rest),
    )
