use Rattle.saphyr_scalar.proofs.Common.{◌≡◌, false, ◌∙◌, arith, string_bytes, None, cursor_of}
use Rattle.std.specs.Prelude.{◌&&◌, nat_le, nat_lt}
use Rattle.std.proofs.lemmas.Bool.Decides.{nat_tests}
use Rattle.saphyr_scalar.specs.Steps.Block.{between_at}
use Rattle.saphyr_scalar.proofs.Block.Turns.{lines_here, text_done}
use Rattle.saphyr_scalar.proofs.scalar.reader.Reader.read_block_content.Goals as goal
use Rattle.saphyr_scalar.proofs.scalar.reader.Reader.read_block_content.Goals.{else-self-indentation-via-then-self-indentation+else-self-indent, else-self-indentation-via-else-self-indentation}

pub returns : goal.returns
returns g c =
    let s = cursor_of c.args.self.now in
    let here : (nat_lt s.mark.col c.args.indentation && nat_le c.args.indent s.mark.col) ≡ false =
    elim c.else-self-indentation.branch [
      | else-self-indentation-via-then-self-indentation+else-self-indent w ↦ grind (arith, nat_tests)
      | else-self-indentation-via-else-self-indentation w ↦ grind (arith, nat_tests)
    ] in
    lines_here c.args.style c.args.chomping c.args.indent c.args.indentation c.args.leading s here
    ∙ text_done c.args.chomping c.args.indentation s.mark
    (between_at c.args.style c.args.indentation None c.args.leading s) (string_bytes c.new-text.result) _
    (string_bytes c.push_tail.new.text) _ (cursor_of c.read_block_lines.new.self)
    (cursor_of c.is_unfinished-unfinished.new.self) _ c.new.result c.in_ok-end.ensures c.new-text.ensures.bytes
    c.is_unfinished-unfinished.ensures.value c.is_unfinished-unfinished.ensures.same c.in_ok-push_tail.ensures
    c.new.ensures.start c.new.ensures.end
