use Rattle.saphyr_scalar.proofs.Common.{false, refl, ap, ◌∙◌, string_bytes, cursor_of, z_is_nul}
use Rattle.saphyr_input.specs.Classes as class
use Rattle.saphyr_scalar.specs.Steps.Quoted as spec
use Rattle.saphyr_scalar.proofs.Choices.{shows}
use Rattle.saphyr_scalar.proofs.Quoted.Gaps.{blanks_to_break, blanks_to_end, blanks_to_word, ok_shorter, straight_to_break, reads_from}
use Rattle.saphyr_scalar.proofs.Quoted.Inside.{blanks_of}
use Rattle.saphyr_scalar.proofs.Quoted.Lines.{break_on_shorter}
use Rattle.saphyr_scalar.proofs.scalar.reader.Reader.read_quoted_gap.Goals as goal

pub returns-then-is_break-clause-same : goal.returns-then-is_break-clause-same
returns-then-is_break-clause-same g c =
    let here = cursor_of c.args.self.now in
    reads_from c.read_quoted_lines.result _ _ _
    (straight_to_break c.args.quote c.args.indent c.args.start (string_bytes c.args.text.now) here
    here (cursor_of c.skip_seen_break.new.self) refl
    (shows class.is_break here.rest _ _ _ c.requires.first c.is_break.ensures.test c.if-is_break.true)
    c.skip_seen_break.ensures)
    (c.read_quoted_lines.ensures.same c.args.quote)

pub returns-then-is_break-clause-shorter : goal.returns-then-is_break-clause-shorter
returns-then-is_break-clause-shorter g c =
    let here = cursor_of c.args.self.now in
    ok_shorter c.read_quoted_lines.result _ _ _
    (break_on_shorter here here (cursor_of c.skip_seen_break.new.self)
    (shows class.is_break here.rest _ _ _ c.requires.first c.is_break.ensures.test c.if-is_break.true)
    refl c.skip_seen_break.ensures)
    c.read_quoted_lines.ensures.shorter

pub returns-then-is_break-2-clause-same : goal.returns-then-is_break-2-clause-same
returns-then-is_break-2-clause-same g c =
    let a = c.args in
    let s = cursor_of a.self.now in
    let t = cursor_of c.read_blanks.new.self in
    let text = string_bytes a.text.now in
    let v = cursor_of c.skip_seen_break-then-is_break-2.new.self in
    let moved = blanks_of text _ s t c.in_ok-c.ensures.moved in
    let breaks = shows class.is_break t.rest _ _ _ c.in_ok-c.ensures.next c.is_break-2.ensures.test
    c.if-is_break-2.true in
    reads_from c.read_quoted_lines-then-is_break-2.result _ _ _
    (ap (λ b. spec.with_front b (spec.inner_text_at a.quote a.indent a.start (spec.over_lines false 0) v))
    (moved.gone breaks)
    ∙ blanks_to_break a.quote a.indent a.start text _ s t t v moved.run refl breaks
    c.skip_seen_break-then-is_break-2.ensures)
    (c.read_quoted_lines-then-is_break-2.ensures.same a.quote)

pub returns-then-is_z-clause-same : goal.returns-then-is_z-clause-same
returns-then-is_z-clause-same g c =
    let s = cursor_of c.args.self.now in
    let t = cursor_of c.read_blanks.new.self in
    let text = string_bytes c.args.text.now in
    let moved = blanks_of text _ s t c.in_ok-c.ensures.moved in
    blanks_to_end c.args.quote c.args.indent c.args.start text _ _ _ moved.run
    (z_is_nul _ (shows class.is_z t.rest _ _ _ c.in_ok-c.ensures.next c.is_z.ensures.test c.if-is_z.true))

pub returns-clause-same : goal.returns-clause-same
returns-clause-same g c =
    let a = c.args in
    let s = cursor_of a.self.now in
    let t = cursor_of c.read_blanks.new.self in
    let text = string_bytes a.text.now in
    let moved = blanks_of text _ s t c.in_ok-c.ensures.moved in
    let break = shows class.is_break t.rest _ _ _ c.in_ok-c.ensures.next c.is_break-2.ensures.test
    c.if-is_break-2.false in
    ap (λ b. spec.with_front b (spec.inner_text_at a.quote a.indent a.start spec.no_gap t)) (moved.kept break)
    ∙ blanks_to_word a.quote a.indent a.start text _ s t t moved.run refl break
    (shows class.is_z t.rest _ _ _ c.in_ok-c.ensures.next c.is_z.ensures.test c.if-is_z.false)
