use Rattle.std.proofs.Common.{◌≡◌, true, slice_index, sym, ap, ◌∙◌}
use Rattle.saphyr_input.specs.Classes.{is_break}
use Rattle.saphyr_scalar.specs.Views.Reader.{cursor_of}
use Rattle.saphyr_scalar.proofs.Quoted.Lines.{break_on_shorter}
use Rattle.saphyr_scanner.proofs.Gaps.{break_passed, comment_line_passed, comment_passed, spaces_passed, tab_passed}
use Rattle.saphyr_scanner.proofs.gap.skip_gap_characters.Goals as goal

pub loop-c-preserved-then-c-eq32 : goal.loop-c-preserved-then-c-eq32
loop-c-preserved-then-c-eq32 g c =
    spaces_passed c.args.least _ c.loop-c.broke c.loop-c.tabbed _ _ _ _ c.look-c.ensures.same c.skip_spaces.ensures
    c.loop-c.invariant

pub loop-c-preserved-then-c-eq9 : goal.loop-c-preserved-then-c-eq9
loop-c-preserved-then-c-eq9 g c =
    tab_passed c.args.least c.loop-c.broke c.loop-c.tabbed _ _ _ _ _ _ c.look-c.ensures.value c.look-c.ensures.same
    c.stands_behind_tab-tabbed.ensures c.skip_blanks.ensures c.if-c-eq9.true c.loop-c.invariant

pub loop-c-preserved-then-is_break : goal.loop-c-preserved-then-is_break
loop-c-preserved-then-is_break g c =
    break_passed true c.args.least c.loop-c.broke c.loop-c.tabbed _ _ _ _ _ c.look-c.ensures.value c.look-c.ensures.same
    c.skip_seen_break.ensures (sym c.is_break.ensures.test ∙ c.if-is_break.true) c.loop-c.invariant

pub loop-c-smaller-then-is_break : goal.loop-c-smaller-then-is_break
loop-c-smaller-then-is_break g c =
    let first = cursor_of c.loop-c.reader in
    let breaks : is_break (slice_index first.rest 0) ≡ true =
    ap is_break (sym c.look-c.ensures.value) ∙ sym c.is_break.ensures.test ∙ c.if-is_break.true in
    break_on_shorter first (cursor_of c.look-c.new.self) (cursor_of c.skip_seen_break.new.self) breaks
    c.look-c.ensures.same c.skip_seen_break.ensures

pub loop-c-preserved-then-skip_comment_line : goal.loop-c-preserved-then-skip_comment_line
loop-c-preserved-then-skip_comment_line g c =
    comment_line_passed c.args.least c.loop-c.broke c.loop-c.tabbed _ _ _ _ _ _ c.look-c.ensures.value
    c.look-c.ensures.same c.skip_comment_line.ensures.passed c.skip_comment_line.ensures.ends
    c.if-skip_comment_line.true c.if-c-eq35.true c.loop-c.invariant

pub loop-c-preserved : goal.loop-c-preserved
loop-c-preserved g c =
    let none = c.if-skip_comment_line.false in
    comment_passed true c.args.least c.loop-c.broke c.loop-c.tabbed _ _ _ _ _ c.look-c.ensures.value
    c.look-c.ensures.same (rw none at c.skip_comment_line.ensures.passed) c.if-c-eq35.true c.loop-c.invariant
