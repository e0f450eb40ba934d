use Rattle.saphyr_scalar.proofs.Common.{string_bytes, refl, sym, ◌∙◌, cursor_of}
use Rattle.saphyr_scalar.proofs.SpaceRuns.{line_front}
use Rattle.saphyr_scalar.proofs.Plain.Pieces.{moves_refused}
use Rattle.saphyr_scalar.proofs.Plain.Lines.{past_of, white_on, white_blank, white_shorter, line_over, refused_by, taken_by}
use Rattle.saphyr_scalar.proofs.scalar.reader.Reader.skip_empty_lines.Goals as goal

pub loop-c-smaller : goal.loop-c-smaller
loop-c-smaller g c =
    let front = line_front c.args.indent c.args.start c.loop-c.tabbed (string_bytes c.loop-c.feeds) _
    (cursor_of c.loop-c.self) (cursor_of c.look_behind_spaces-c.new.self) (cursor_of c.look_behind_spaces-c.new.self)
    _ _ c.look_behind_spaces-c.ensures.passed c.look_behind_spaces-c.ensures.value refl c.is_blank_or_break.ensures in
    let past = past_of c.args.indent c.loop-c.tabbed (string_bytes c.loop-c.feeds) (cursor_of
    c.look_behind_spaces-c.new.self) _
    (string_bytes c.skip_plain_white.new.feeds) (cursor_of c.skip_plain_white.new.self) c.in_ok-tabbed.ensures in
    front.shorter _ (white_shorter _ _ _ _ _ _ _ (front.white ∙ c.if-not-is_blank_or_break.false) past)

pub loop-c-preserved : goal.loop-c-preserved
loop-c-preserved g c =
    let front = line_front c.args.indent c.args.start c.loop-c.tabbed (string_bytes c.loop-c.feeds) _
    (cursor_of c.loop-c.self) (cursor_of c.look_behind_spaces-c.new.self) (cursor_of c.look_behind_spaces-c.new.self)
    _ _ c.look_behind_spaces-c.ensures.passed c.look_behind_spaces-c.ensures.value refl c.is_blank_or_break.ensures in
    let past = past_of c.args.indent c.loop-c.tabbed (string_bytes c.loop-c.feeds) (cursor_of
    c.look_behind_spaces-c.new.self) _
    (string_bytes c.skip_plain_white.new.feeds) (cursor_of c.skip_plain_white.new.self) c.in_ok-tabbed.ensures in
    record {
      blank = white_blank _ _ _ _ _ _ _ (front.blank ∙ c.loop-c.invariant.blank) past;
      same = white_on _ c.args.start _ _ _ _ _ _ (front.white ∙ c.if-not-is_blank_or_break.false) past
          ∙ front.reached ∙ c.loop-c.invariant.same;
    }

pub returns-in_err-check_plain_tab : goal.returns-in_err-check_plain_tab
returns-in_err-check_plain_tab g c =
    let front = line_front c.args.indent c.args.start c.loop-c.tabbed (string_bytes c.loop-c.feeds) _
    (cursor_of c.loop-c.self) (cursor_of c.look_behind_spaces-c.new.self) (cursor_of c.look_behind_spaces-c.new.self)
    _ _ c.look_behind_spaces-c.ensures.passed c.look_behind_spaces-c.ensures.value refl c.is_blank_or_break.ensures in
    moves_refused _ _ _ _ c.from_residual-in_err-check_plain_tab.ensures.1
    (sym (front.reached ∙ c.loop-c.invariant.same)
    ∙ line_over _ _ _ _ (cursor_of c.look_behind_spaces-c.new.self) (front.white ∙ c.if-not-is_blank_or_break.true)
    (front.blank ∙ c.loop-c.invariant.blank)
    ∙ refused_by _ _ _ _ _ c.in_err-check_plain_tab.ensures)

pub returns : goal.returns
returns g c =
    let front = line_front c.args.indent c.args.start c.loop-c.tabbed (string_bytes c.loop-c.feeds) _
    (cursor_of c.loop-c.self) (cursor_of c.look_behind_spaces-c.new.self) (cursor_of c.look_behind_spaces-c.new.self)
    _ _ c.look_behind_spaces-c.ensures.passed c.look_behind_spaces-c.ensures.value refl c.is_blank_or_break.ensures in
    sym (front.reached ∙ c.loop-c.invariant.same)
    ∙ line_over _ _ _ _ (cursor_of c.look_behind_spaces-c.new.self) (front.white ∙ c.if-not-is_blank_or_break.true)
    (front.blank ∙ c.loop-c.invariant.blank)
    ∙ taken_by _ _ _ _ _ c.in_ok-check_plain_tab.ensures
