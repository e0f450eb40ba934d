use Rattle.saphyr_scalar.proofs.Common.{◌≡◌, length, string_bytes, refl, sym, ◌∙◌, rules, cursor_of}
use Rattle.saphyr_scalar.specs.Steps.Plain as spec
use Rattle.saphyr_scalar.proofs.Plain.BehindGaps.{gap_cuts, behind_gap_read, behind_refused, behind_ends, behind_words, behind_words_refused, behind_shorter}
use Rattle.saphyr_scalar.proofs.Plain.Pieces.{started, moves_refused, moves_failed}
use Rattle.saphyr_scalar.proofs.scalar.reader.Reader.read_plain_behind.Goals as goal

pub loop-text-init : goal.loop-text-init
loop-text-init g c = record { same = refl; cut = c.requires }

pub returns-in_err-next_plain_word_starts : goal.returns-in_err-next_plain_word_starts
returns-in_err-next_plain_word_starts g c =
    moves_refused _ _ _ _ c.from_residual.ensures.1
    (sym c.loop-text.invariant.same
    ∙ behind_refused c.args.in_flow c.args.indent c.args.start _ (string_bytes c.loop-text.text) _
    (cursor_of c.loop-text.self) _ _ c.in_err-next_plain_word_starts.ensures)

pub truncate-requires : goal.truncate-requires
truncate-requires g c _ = c.loop-text.invariant.cut

pub returns-then-not-branch : goal.returns-then-not-branch
returns-then-not-branch g c =
    let s = cursor_of c.loop-text.self in
    let there = cursor_of c.next_plain_word_starts.new.self in
    let over = started (spec.next_word_starts c.args.in_flow c.args.indent) s there _ _ c.if-not-branch.true
    c.in_ok-next_plain_word_starts.ensures in
    sym c.loop-text.invariant.same
    ∙ behind_ends c.args.in_flow c.args.indent c.args.start c.loop-text.word_end.mark (string_bytes c.loop-text.text)
    _ c.loop-text.word_end.tabbed s there _ c.loop-text.word_end.len _ over c.truncate.ensures.bytes
    c.plain_comment-comment.ensures.value c.plain_comment-comment.ensures.same

pub returns-in_err-tabbed : goal.returns-in_err-tabbed
returns-in_err-tabbed g c =
    let s = cursor_of c.loop-text.self in
    let there = cursor_of c.next_plain_word_starts.new.self in
    let goes = started (spec.next_word_starts c.args.in_flow c.args.indent) s there _ _ c.if-not-branch.false
    c.in_ok-next_plain_word_starts.ensures in
    moves_failed _ _ _ _ _ c.from_residual-in_err-tabbed.ensures.1 c.in_err-tabbed.ensures
    (λ r h. sym c.loop-text.invariant.same
    ∙ behind_words_refused c.args.in_flow c.args.indent c.args.start c.loop-text.word_end.mark
    (string_bytes c.loop-text.text) _ c.loop-text.word_end.tabbed s there (cursor_of c.read_plain_words.new.self)
    c.loop-text.word_end.len r goes c.in_ok-read_plain_words.ensures.words h)

pub loop-text-smaller : goal.loop-text-smaller
loop-text-smaller g c =
    let s = cursor_of c.loop-text.self in
    let there = cursor_of c.next_plain_word_starts.new.self in
    let goes = started (spec.next_word_starts c.args.in_flow c.args.indent) s there _ _ c.if-not-branch.false
    c.in_ok-next_plain_word_starts.ensures in
    behind_shorter c.args.in_flow c.args.indent c.args.start _ _ _ _ s there (cursor_of c.read_plain_words.new.self)
    (cursor_of c.read_word_gap.new.self) goes c.in_ok-read_plain_words.ensures.words c.in_ok-tabbed.ensures

pub loop-text-preserved : goal.loop-text-preserved
loop-text-preserved g c =
    let f = c.args.in_flow in
    let i = c.args.indent in
    let start = c.args.start in
    let len : c.len-len.result ≡ length (string_bytes c.read_plain_words.new.text) = search rules in
    let s = cursor_of c.loop-text.self in
    let there = cursor_of c.next_plain_word_starts.new.self in
    let behind = cursor_of c.read_plain_words.new.self in
    let goes = started (spec.next_word_starts f i) s there _ _ c.if-not-branch.false
    c.in_ok-next_plain_word_starts.ensures in
    record {
      same = behind_gap_read f i start behind.mark _ _ (spec.gap i start behind) _ (cursor_of
          c.read_word_gap.new.self) _
          c.in_ok-tabbed.ensures len
          ∙ sym (behind_words f i start c.loop-text.word_end.mark (string_bytes c.loop-text.text) _
          c.loop-text.word_end.tabbed s there behind c.loop-text.word_end.len goes
          c.in_ok-read_plain_words.ensures.words)
          ∙ c.loop-text.invariant.same;
      cut = gap_cuts i start _ _ behind (cursor_of c.read_word_gap.new.self) _ _ c.in_ok-tabbed.ensures len;
    }
