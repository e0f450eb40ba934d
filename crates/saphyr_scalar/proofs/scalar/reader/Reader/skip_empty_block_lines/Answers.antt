use Rattle.saphyr_scalar.proofs.Common.{◌≡◌, true, false, slice_index, sym, ap, ◌∙◌, subst, ◌≤◌, is_break, Cursor, cursor_of}
use Rattle.saphyr_scalar.specs.Steps.Block.{is_indentation}
use Rattle.saphyr_scalar.proofs.SpaceRuns.{empty_over, none_left}
use Rattle.saphyr_scalar.proofs.Block.Lines.{break_turn, end_turn, break_index}
use Rattle.saphyr_scalar.proofs.Lengths.{countable}
use Rattle.saphyr_scalar.proofs.Quoted.LineTurns.{break_and_spaces_shorter, few_over_spaces, few_here}
use Rattle.saphyr_scalar.proofs.scalar.reader.Reader.skip_empty_block_lines.Goals as goal

pub loop-limit-init : goal.loop-limit-init
loop-limit-init g c =
    let a = c.args in
    let s = cursor_of a.self.now in
    let spaced = cursor_of c.skip_indentation.new.self in
    record {
      same = empty_over a.limit a.before _ s spaced c.indentation_left-left.ensures c.skip_indentation.ensures;
      few = few_over_spaces a.before.count _ s spaced c.requires c.skip_indentation.ensures;
      none = none_left a.limit _ s spaced c.indentation_left-left.ensures c.skip_indentation.ensures
          (countable s.mark.index s.rest a.self.now.fits);
    }

pub loop-limit-smaller : goal.loop-limit-smaller
loop-limit-smaller g c =
    let breaks : is_break (slice_index (cursor_of c.loop-limit.self).rest 0) ≡ true =
    ap is_break (sym c.look-c.ensures.value) ∙ sym c.is_break.ensures.test ∙ c.if-not-is_break.false in
    break_and_spaces_shorter _ (cursor_of c.loop-limit.self) (cursor_of c.look-c.new.self)
    (cursor_of c.skip_seen_break.new.self) (cursor_of c.skip_spaces.new.self) breaks c.look-c.ensures.same
    c.skip_seen_break.ensures c.skip_spaces.ensures

pub loop-limit-preserved : goal.loop-limit-preserved
loop-limit-preserved g c =
    let limit = c.args.limit in
    let lines = c.loop-limit.lines in
    let s = cursor_of c.loop-limit.self in
    let here = cursor_of c.look-c.new.self in
    let t = cursor_of c.skip_seen_break.new.self in
    let spaced = cursor_of c.skip_spaces.new.self in
    let test = sym c.is_break.ensures.test ∙ c.if-not-is_break.false in
    record {
      same = empty_over limit _ _ t spaced c.indentation_left-more.ensures c.skip_spaces.ensures
          ∙ break_turn limit lines s here t c.look-c.result c.max.result c.look-c.ensures.same c.look-c.ensures.value
          test c.max.ensures c.skip_seen_break.ensures
          ∙ c.loop-limit.invariant.same;
      few = few_over_spaces _ _ t spaced
          (break_index s here t c.look-c.result lines.count c.look-c.ensures.same c.look-c.ensures.value test
          c.skip_seen_break.ensures c.loop-limit.invariant.few)
          c.skip_spaces.ensures;
      none = none_left limit _ t spaced c.indentation_left-more.ensures c.skip_spaces.ensures
          (countable t.mark.index t.rest c.skip_seen_break.new.self.fits);
    }

pub returns-clause-taken : goal.returns-clause-taken
returns-clause-taken g c =
    let limit = c.args.limit in
    let lines = c.loop-limit.lines in
    let s = cursor_of c.loop-limit.self in
    let here = cursor_of c.look-c.new.self in
    let none : is_indentation limit here.mark.col c.look-c.result ≡ false =
    ap (λ (x : Cursor). is_indentation limit x.mark.col c.look-c.result) c.look-c.ensures.same
    ∙ ap (is_indentation limit s.mark.col) c.look-c.ensures.value ∙ c.loop-limit.invariant.none in
    end_turn limit lines s here c.look-c.result c.max-2.result c.look-c.ensures.same c.look-c.ensures.value
    (sym c.is_break.ensures.test ∙ c.if-not-is_break.true) none c.max-2.ensures
    ∙ c.loop-limit.invariant.same

pub overflow_add-lines : goal.overflow_add-lines
overflow_add-lines g c = record {
  fits =
      few_here c.loop-limit.lines.count (cursor_of c.loop-limit.self) c.loop-limit.invariant.few
      c.loop-limit.self.fits (ap is_break (sym c.look-c.ensures.value) ∙ sym c.is_break.ensures.test ∙
      c.if-not-is_break.false);
}

pub returns-clause-few : goal.returns-clause-few
returns-clause-few g c =
    subst (λ (x : Cursor). c.loop-limit.lines.count ≤ x.mark.index) (sym c.look-c.ensures.same)
    c.loop-limit.invariant.few
