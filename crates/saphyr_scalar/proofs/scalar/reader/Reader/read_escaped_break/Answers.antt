use Rattle.saphyr_scalar.proofs.Common.{◌≡◌, slice_index, string_bytes, sym, ap, ◌∙◌, Cursor, pass_break, cursor_of}
use Rattle.saphyr_scalar.specs.Values.Flow as flow
use Rattle.saphyr_scalar.proofs.Quoted.Gaps.{behind_escaped, escaped_left, escaped_to_quote, escaped_to_line, reads_from}
use Rattle.saphyr_scalar.proofs.scalar.reader.Reader.read_escaped_break.Goals as goal

pub returns-then-c-mark-clause-same : goal.returns-then-c-mark-clause-same
returns-then-c-mark-clause-same g c =
    let a = c.args in
    let there = cursor_of c.look-c.new.self in
    let on : there ≡ behind_escaped (cursor_of a.self.now) = c.look-c.ensures.same
    ∙ c.skip_line_break.ensures ∙ ap pass_break c.skip_non_blank.ensures in
    let quote : slice_index there.rest 0 ≡ flow.mark a.quote = ap (λ (s : Cursor). slice_index s.rest 0)
    c.look-c.ensures.same ∙ sym c.look-c.ensures.value ∙ c.if-c-mark.true ∙ c.mark.ensures in
    escaped_to_quote a.quote a.indent a.start (string_bytes a.text.now) (cursor_of a.self.now) there c.requires on quote

pub returns-clause-same : goal.returns-clause-same
returns-clause-same g c =
    let a = c.args in
    let there = cursor_of c.look-c.new.self in
    let on : there ≡ behind_escaped (cursor_of a.self.now) = c.look-c.ensures.same
    ∙ c.skip_line_break.ensures ∙ ap pass_break c.skip_non_blank.ensures in
    let line = escaped_to_line a.quote a.indent a.start (string_bytes a.text.now)
    (cursor_of a.self.now) there c.requires on
    (λ e. c.if-c-mark.false
    (c.look-c.ensures.value ∙ ap (λ (s : Cursor). slice_index s.rest 0) (sym c.look-c.ensures.same) ∙ e
    ∙ sym c.mark.ensures)) in
    reads_from c.read_quoted_lines.result _ _ _ line (c.read_quoted_lines.ensures.same a.quote)

pub skip_non_blank-requires : goal.skip_non_blank-requires
skip_non_blank-requires g c = escaped_left c.args.quote (cursor_of c.args.self.now).rest c.requires
