use Rattle.saphyr_scalar.proofs.Common.{ap, sym, ◌∙◌, Ok, string_bytes, cursor_of}
use Rattle.saphyr_scalar.proofs.Lengths.{at_most_below, none_before}
use Rattle.saphyr_scalar.proofs.Block.Turns.{skipped, turn, broken, cut, last}
use Rattle.saphyr_scalar.proofs.scalar.reader.Reader.read_block_lines.Goals as goal

pub returns-then-not-block_line_starts : goal.returns-then-not-block_line_starts
returns-then-not-block_line_starts g c =
    ap Ok (sym c.loop-style.invariant.same
    ∙ last c.args.style c.args.indentation c.loop-style.above (string_bytes c.loop-style.text)
    (skipped c.skip_empty_block_lines-lines.ensures.taken) c.block_line_starts.ensures.same
    (sym c.block_line_starts.ensures.value ∙ c.if-not-block_line_starts.true) c.is_some.ensures)

pub returns-then-not-is_break : goal.returns-then-not-is_break
returns-then-not-is_break g c =
    let one = turn c.args.style c.args.indentation c.loop-style.above (string_bytes c.loop-style.text)
    (skipped c.skip_empty_block_lines-lines.ensures.taken) c.block_line_starts.ensures.same
    (sym c.block_line_starts.ensures.value ∙ c.if-not-block_line_starts.false) c.next_is_blank-below.ensures
    c.in_ok-push_break_before.ensures c.in_ok-move_run.ensures in
    ap Ok (sym c.loop-style.invariant.same ∙ one.0
    ∙ cut c.args.style c.args.indentation _ (string_bytes c.move_run.new.text) (cursor_of c.move_run.new.self)
    (cursor_of c.look-c.new.self) _ c.look-c.ensures.same c.look-c.ensures.value
    (sym c.is_break.ensures.test ∙ c.if-not-is_break.true) one.1)

pub loop-style-smaller : goal.loop-style-smaller
loop-style-smaller g c =
    let one = turn c.args.style c.args.indentation c.loop-style.above (string_bytes c.loop-style.text)
    (skipped c.skip_empty_block_lines-lines.ensures.taken) c.block_line_starts.ensures.same
    (sym c.block_line_starts.ensures.value ∙ c.if-not-block_line_starts.false) c.next_is_blank-below.ensures
    c.in_ok-push_break_before.ensures c.in_ok-move_run.ensures in
    let next = broken c.args.style c.args.indentation c.next_is_blank-below.result (string_bytes c.move_run.new.text)
    (cursor_of c.move_run.new.self) _ (cursor_of c.skip_seen_break.new.self) _ c.look-c.ensures.same
    c.look-c.ensures.value (sym c.is_break.ensures.test ∙ c.if-not-is_break.false) c.skip_seen_break.ensures in
    at_most_below _ _ _ next.1 one.2

pub loop-style-preserved : goal.loop-style-preserved
loop-style-preserved g c =
    let one = turn c.args.style c.args.indentation c.loop-style.above (string_bytes c.loop-style.text)
    (skipped c.skip_empty_block_lines-lines.ensures.taken) c.block_line_starts.ensures.same
    (sym c.block_line_starts.ensures.value ∙ c.if-not-block_line_starts.false) c.next_is_blank-below.ensures
    c.in_ok-push_break_before.ensures c.in_ok-move_run.ensures in
    let next = broken c.args.style c.args.indentation c.next_is_blank-below.result (string_bytes c.move_run.new.text)
    (cursor_of c.move_run.new.self) _ (cursor_of c.skip_seen_break.new.self) _ c.look-c.ensures.same
    c.look-c.ensures.value (sym c.is_break.ensures.test ∙ c.if-not-is_break.false) c.skip_seen_break.ensures in
    record { same = next.0 ∙ sym one.0 ∙ c.loop-style.invariant.same; few = none_before _ }
