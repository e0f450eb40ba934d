use Rattle.saphyr_scalar.proofs.Common.{length, string_bytes, sym, ap, ◌∙◌, arith, Cursor, cursor_of, Double}
use Rattle.saphyr_scalar.specs.Steps.Quoted as spec
use Rattle.saphyr_scalar.proofs.Quoted.Inside.{reads_refused}
use Rattle.saphyr_scalar.proofs.Quoted.Lines.{begins_word, begins_refused}
use Rattle.saphyr_scalar.proofs.scalar.reader.Reader.read_empty_quoted_lines.Goals as goal

pub returns-in_err-check_quoted_line-clause-same : goal.returns-in_err-check_quoted_line-clause-same
returns-in_err-check_quoted_line-clause-same g c = λ quote.
    let a = c.args in
    let lines = c.in_ok-empty_lines in
    let refusal = c.in_err-check_quoted_line.field-0.0 in
    let refused = begins_refused quote a.indent a.start a.escaped lines.empty_lines (string_bytes a.text.now)
    (cursor_of c.skip_quoted_lines.new.self) refusal lines.ensures.no_blank lines.ensures.no_break
    c.in_err-check_quoted_line.ensures in
    reads_refused c.from_residual-in_err-check_quoted_line.result _ _ refusal
    c.from_residual-in_err-check_quoted_line.ensures.1
    (sym (ap (spec.with_front (string_bytes a.text.now)) (lines.ensures.same quote a.start a.escaped)) ∙ refused)

pub returns-clause-same : goal.returns-clause-same
returns-clause-same g c = λ quote.
    let a = c.args in
    let lines = c.in_ok-empty_lines in
    let there = cursor_of c.check_quoted_line.new.self in
    let word = begins_word quote a.indent a.start a.escaped lines.empty_lines (string_bytes a.text.now)
    (cursor_of c.skip_quoted_lines.new.self) there lines.ensures.no_blank lines.ensures.no_break
    c.in_ok-check_quoted_line.ensures in
    ap (λ (s : Cursor). spec.with_front (string_bytes c.push_folded_break.new.text)
    (spec.inner_text_at quote a.indent a.start spec.no_gap s)) c.look.ensures.same
    ∙ ap (λ b. spec.with_front b (spec.inner_text_at quote a.indent a.start spec.no_gap there))
    c.in_ok-push_folded_break.ensures
    ∙ word.1 ∙ ap (spec.with_front (string_bytes a.text.now)) (lines.ensures.same quote a.start a.escaped)

pub returns-clause-shorter : goal.returns-clause-shorter
returns-clause-shorter g c =
    let a = c.args in
    let lines = c.in_ok-empty_lines in
    let word = begins_word Double a.indent a.start a.escaped lines.empty_lines (string_bytes a.text.now)
    (cursor_of c.skip_quoted_lines.new.self) (cursor_of c.check_quoted_line.new.self) lines.ensures.no_blank
    lines.ensures.no_break c.in_ok-check_quoted_line.ensures in
    omega (
      arith,
      ap (λ (s : Cursor). length s.rest) word.0,
      lines.ensures.shorter,
      ap (λ (s : Cursor). length s.rest) c.look.ensures.same,
    )
