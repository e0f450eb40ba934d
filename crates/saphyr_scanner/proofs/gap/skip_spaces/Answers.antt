use Rattle.std.proofs.Common.{◌≡◌, true, false, slice_index, sym, ap, ◌∙◌}
use Rattle.saphyr_input.specs.Classes.{is_break}
use Rattle.saphyr_scalar.specs.Views.Reader.{cursor_of}
use Rattle.saphyr_scalar.proofs.Quoted.Lines.{break_on_shorter}
use Rattle.saphyr_scanner.proofs.Gaps.{break_passed, comment_passed, line_space_passed}
use Rattle.saphyr_scanner.proofs.gap.skip_spaces.Goals as goal

pub loop-space-preserved-then-c-eq32 : goal.loop-space-preserved-then-c-eq32
loop-space-preserved-then-c-eq32 g c =
    line_space_passed c.loop-space.space _ _ _ _ _ c.look-c.ensures.value c.look-c.ensures.same c.skip_blank.ensures
    c.if-c-eq32.true c.loop-space.invariant

pub loop-space-preserved-then-is_break : goal.loop-space-preserved-then-is_break
loop-space-preserved-then-is_break g c =
    break_passed false 0 c.loop-space.space false _ _ _ _ _ c.look-c.ensures.value c.look-c.ensures.same
    c.skip_line_break.ensures (sym c.is_break.ensures.test ∙ c.if-is_break.true) c.loop-space.invariant

pub loop-space-smaller-then-is_break : goal.loop-space-smaller-then-is_break
loop-space-smaller-then-is_break g c =
    let first = cursor_of c.loop-space.reader in
    let breaks : is_break (slice_index first.rest 0) ≡ true =
    ap is_break (sym c.look-c.ensures.value) ∙ sym c.is_break.ensures.test ∙ c.if-is_break.true in
    break_on_shorter first (cursor_of c.look-c.new.self) (cursor_of c.skip_line_break.new.self) breaks
    c.look-c.ensures.same c.skip_line_break.ensures

pub loop-space-preserved : goal.loop-space-preserved
loop-space-preserved g c =
    comment_passed false 0 c.loop-space.space false _ _ _ _ _ c.look-c.ensures.value c.look-c.ensures.same
    c.skip_comment.ensures
    c.if-c-eq35.true c.loop-space.invariant
