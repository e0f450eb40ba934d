use Rattle.saphyr_scalar.proofs.Common.{string_bytes, ap, ◌∙◌, is_break, Cursor, cursor_of}
use Rattle.saphyr_scalar.proofs.Choices.{shows}
use Rattle.saphyr_scalar.proofs.Plain.LineEnds.{break_begins}
use Rattle.saphyr_scalar.proofs.Plain.BehindGaps.{gap_on_line, gap_over_lines}
use Rattle.saphyr_scalar.proofs.Quoted.Inside.{blanks_of}
use Rattle.saphyr_scalar.proofs.scalar.reader.Reader.read_word_gap.Goals as goal

pub returns-then-not-is_break : goal.returns-then-not-is_break
returns-then-not-is_break g c =
    let s = cursor_of c.args.self.now in
    let u = cursor_of c.read_blanks.new.self in
    gap_on_line c.args.indent c.args.start (string_bytes c.args.text.now) _ s u
    (blanks_of _ _ s u c.in_ok-c.ensures.moved)
    (shows is_break u.rest _ _ _ c.in_ok-c.ensures.next c.is_break.ensures.test c.if-not-is_break.true)

pub read_folded_lines-requires : goal.read_folded_lines-requires
read_folded_lines-requires g c =
    let u = cursor_of c.read_blanks.new.self in
    ap (λ (x : Cursor). x.blank_so_far) c.skip_seen_break.ensures
    ∙ break_begins u
    (shows is_break u.rest _ _ _ c.in_ok-c.ensures.next c.is_break.ensures.test c.if-not-is_break.false)

pub returns : goal.returns
returns g c =
    let s = cursor_of c.args.self.now in
    let u = cursor_of c.read_blanks.new.self in
    gap_over_lines c.args.indent c.args.start (string_bytes c.args.text.now) _ _ s u
    (cursor_of c.skip_seen_break.new.self) _ c.read_folded_lines.result (blanks_of _ _ s u c.in_ok-c.ensures.moved)
    (shows is_break u.rest _ _ _ c.in_ok-c.ensures.next c.is_break.ensures.test c.if-not-is_break.false)
    c.skip_seen_break.ensures c.read_folded_lines.ensures
