use Rattle.saphyr_scalar.proofs.Common.{◌≡◌, refl, true, false, slice_index, sym, ap, ◌∙◌, ◌&&◌, ◌==◌, cursor_of}
use Rattle.saphyr_input.specs.Classes as class
use Rattle.saphyr_scalar.specs.Steps.Quoted.{is_left}
use Rattle.saphyr_scalar.proofs.SpaceRuns.{inside_over_spaces}
use Rattle.saphyr_scalar.proofs.Quoted.Lines.{break_on, blank_on, tab_on, fits_right, fits_no_tab}
use Rattle.saphyr_scalar.proofs.Quoted.LineTurns.{break_turn_shorter, blank_left, blank_turn_shorter, counted_less, counted_on, count_fits, no_longer}
use Rattle.saphyr_scalar.proofs.scalar.reader.Reader.skip_quoted_lines.Goals.{else-c-eq9-via-then-c-eq9+else-self-indent, else-c-eq9-via-else-c-eq9}
use Rattle.saphyr_scalar.proofs.scalar.reader.Reader.skip_quoted_lines.Goals as goal

pub overflow_add-count : goal.overflow_add-count
overflow_add-count g c =
    let breaks : class.is_break (slice_index (cursor_of c.look_behind_spaces-c.new.self).rest 0) ≡ true =
    ap class.is_break (sym c.look_behind_spaces-c.ensures.value) ∙ sym c.is_break.ensures.test ∙ c.if-is_break.true in
    let less = break_turn_shorter _ (cursor_of c.loop-self.self) (cursor_of c.look_behind_spaces-c.new.self)
    (cursor_of c.look_behind_spaces-c.new.self) (cursor_of c.skip_seen_break.new.self)
    c.look_behind_spaces-c.ensures.passed breaks
    refl c.skip_seen_break.ensures in
    record { fits = count_fits c.loop-self.count _ _ _ _ c.loop-self.invariant.counted less c.args.self.now.fits }

pub loop-self-smaller-then-is_break : goal.loop-self-smaller-then-is_break
loop-self-smaller-then-is_break g c =
    let breaks : class.is_break (slice_index (cursor_of c.look_behind_spaces-c.new.self).rest 0) ≡ true =
    ap class.is_break (sym c.look_behind_spaces-c.ensures.value) ∙ sym c.is_break.ensures.test ∙ c.if-is_break.true in
    break_turn_shorter _ (cursor_of c.loop-self.self) (cursor_of c.look_behind_spaces-c.new.self) (cursor_of
    c.look_behind_spaces-c.new.self)
    (cursor_of c.skip_seen_break.new.self) c.look_behind_spaces-c.ensures.passed breaks refl c.skip_seen_break.ensures

pub loop-self-smaller : goal.loop-self-smaller
loop-self-smaller g c =
    let blank : class.is_blank (slice_index (cursor_of c.look_behind_spaces-c.new.self).rest 0) ≡ true =
    ap class.is_blank (sym c.look_behind_spaces-c.ensures.value) ∙ sym c.is_blank.ensures.test ∙ c.if-is_blank.true in
    blank_turn_shorter _ (cursor_of c.loop-self.self) (cursor_of c.look_behind_spaces-c.new.self) (cursor_of
    c.look_behind_spaces-c.new.self)
    (cursor_of c.skip_blank.new.self) c.look_behind_spaces-c.ensures.passed blank refl c.skip_blank.ensures

pub skip_blank-requires : goal.skip_blank-requires
skip_blank-requires g c =
    let blank : class.is_blank (slice_index (cursor_of c.look_behind_spaces-c.new.self).rest 0) ≡ true =
    ap class.is_blank (sym c.look_behind_spaces-c.ensures.value) ∙ sym c.is_blank.ensures.test ∙ c.if-is_blank.true in
    blank_left (cursor_of c.look_behind_spaces-c.new.self) (cursor_of c.look_behind_spaces-c.new.self) blank refl

pub loop-self-preserved-then-is_break : goal.loop-self-preserved-then-is_break
loop-self-preserved-then-is_break g c =
    let first = cursor_of c.loop-self.self in
    let here = cursor_of c.look_behind_spaces-c.new.self in
    let there = cursor_of c.look_behind_spaces-c.new.self in
    let behind = cursor_of c.skip_seen_break.new.self in
    let breaks : class.is_break (slice_index here.rest 0) ≡ true =
    ap class.is_break (sym c.look_behind_spaces-c.ensures.value) ∙ sym c.is_break.ensures.test ∙ c.if-is_break.true in
    record {
      same = λ q start escaped. break_on q c.args.indent start escaped c.loop-self.count here there behind breaks
          refl c.skip_seen_break.ensures
          ∙ inside_over_spaces q c.args.indent start escaped c.loop-self.count _ first here
          c.look_behind_spaces-c.ensures.passed
          ∙ c.loop-self.invariant.same q start escaped;
      counted = counted_less c.loop-self.count _ _ _ c.loop-self.invariant.counted
          (break_turn_shorter _ first here there behind c.look_behind_spaces-c.ensures.passed breaks refl
          c.skip_seen_break.ensures);
    }

pub returns-then-self-indent-clause-same : goal.returns-then-self-indent-clause-same
returns-then-self-indent-clause-same g c = λ quote start escaped.
    let first = cursor_of c.loop-self.self in
    let here = cursor_of c.look_behind_spaces-c.new.self in
    let tab : slice_index here.rest 0 ≡ 9 = sym c.look_behind_spaces-c.ensures.value ∙ c.if-c-eq9.true in
    sym (c.loop-self.invariant.same quote start escaped)
    ∙ sym (inside_over_spaces quote c.args.indent start escaped c.loop-self.count _ first here
    c.look_behind_spaces-c.ensures.passed)
    ∙ tab_on quote c.args.indent start escaped c.loop-self.count here (cursor_of c.look_behind_spaces-c.new.self) tab
    refl
    c.if-self-indent.true

pub loop-self-preserved : goal.loop-self-preserved
loop-self-preserved g c =
    let first = cursor_of c.loop-self.self in
    let here = cursor_of c.look_behind_spaces-c.new.self in
    let there = cursor_of c.look_behind_spaces-c.new.self in
    let behind = cursor_of c.skip_blank.new.self in
    let blank : class.is_blank (slice_index here.rest 0) ≡ true =
    ap class.is_blank (sym c.look_behind_spaces-c.ensures.value) ∙ sym c.is_blank.ensures.test ∙ c.if-is_blank.true in
    let fits : ((slice_index here.rest 0 == 9) && is_left c.args.indent here.mark) ≡ false =
    elim c.else-c-eq9.branch [
      | else-c-eq9-via-then-c-eq9+else-self-indent w ↦ fits_right (slice_index here.rest 0) here.mark.col c.args.indent
          w.if-self-indent.false
      | else-c-eq9-via-else-c-eq9 w ↦ fits_no_tab (slice_index here.rest 0) here.mark.col c.args.indent
          (λ is. w.if-c-eq9.false (c.look_behind_spaces-c.ensures.value ∙ is))
    ] in
    record {
      same = λ q start escaped. blank_on q c.args.indent start escaped c.loop-self.count here there behind blank fits
          refl c.skip_blank.ensures
          ∙ inside_over_spaces q c.args.indent start escaped c.loop-self.count _ first here
          c.look_behind_spaces-c.ensures.passed
          ∙ c.loop-self.invariant.same q start escaped;
      counted = counted_on c.loop-self.count _ _ _ c.loop-self.invariant.counted
          (blank_turn_shorter _ first here there behind c.look_behind_spaces-c.ensures.passed blank refl
          c.skip_blank.ensures);
    }

pub returns-else-is_blank-clause-same : goal.returns-else-is_blank-clause-same
returns-else-is_blank-clause-same g c = λ quote start escaped.
    let k = c.loop-self.count in
    inside_over_spaces quote c.args.indent start escaped k _ (cursor_of c.loop-self.self)
    (cursor_of c.look_behind_spaces-c.new.self)
    c.look_behind_spaces-c.ensures.passed ∙ c.loop-self.invariant.same quote start escaped

pub returns-else-is_blank-clause-no_blank : goal.returns-else-is_blank-clause-no_blank
returns-else-is_blank-clause-no_blank g c =
    ap class.is_blank (sym c.look_behind_spaces-c.ensures.value) ∙ sym c.is_blank.ensures.test ∙ c.if-is_blank.false

pub returns-else-is_blank-clause-no_break : goal.returns-else-is_blank-clause-no_break
returns-else-is_blank-clause-no_break g c =
    ap class.is_break (sym c.look_behind_spaces-c.ensures.value) ∙ sym c.is_break.ensures.test ∙ c.if-is_break.false

pub returns-else-is_blank-clause-shorter : goal.returns-else-is_blank-clause-shorter
returns-else-is_blank-clause-shorter g c =
    no_longer _ c.loop-self.count _ (cursor_of c.loop-self.self) (cursor_of c.look_behind_spaces-c.new.self)
    (cursor_of c.look_behind_spaces-c.new.self) c.loop-self.invariant.counted c.look_behind_spaces-c.ensures.passed refl
