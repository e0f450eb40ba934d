use Rattle.std.proofs.Common.{◌≡◌, Bool, true, false, rules, ap, sym, refl, ◌∙◌}
use Rattle.std.specs.Prelude.{◌||◌}
use Rattle.saphyr_scalar.specs.Views.Reader.{cursor_of}
use Rattle.saphyr_scanner.specs.Steps.Core.{in_block}
use Rattle.saphyr_scanner.specs.Steps.State.{State}
use Rattle.saphyr_scanner.specs.Views.Engine.{state}
use Rattle.saphyr_scanner.specs.Views.Lines.{is_whole_break}
use Rattle.saphyr_scanner.proofs.Ahead.LinesPassed.{line_to}
use Rattle.saphyr_scanner.proofs.engine.Engine.pass_line.Goals as goal

allowed : (block k : Bool) → block ≡ true → true ≡ (block || k)
allowed true k e = refl
allowed false k e = absurd (cc)

as_before : (block k : Bool) → block ≡ false → k ≡ (block || k)
as_before true k e = absurd (cc)
as_before false k e = refl

pub returns-then-in_block : goal.returns-then-in_block
returns-then-in_block g c = λ passed.
    let there : State = state c.is_at_whole_break.new.self in
    let block : in_block there.core ≡ true = search rules in
    line_to (state c.args.self.now) there (cursor_of c.skip_seen_break.new.self) true
    (c.is_at_whole_break.ensures.same ∙ c.pass_comment-c.ensures.passed) c.skip_seen_break.ensures
    (ap (λ (s : State). is_whole_break s.core.cursor.rest) c.is_at_whole_break.ensures.same
    ∙ sym c.is_at_whole_break.ensures.whole ∙ c.if-not-is_at_whole_break.false)
    (allowed _ _ block)

pub returns-else-in_block : goal.returns-else-in_block
returns-else-in_block g c = λ passed.
    let there : State = state c.is_at_whole_break.new.self in
    let block : in_block there.core ≡ false = search rules in
    line_to (state c.args.self.now) there (cursor_of c.skip_seen_break.new.self) _
    (c.is_at_whole_break.ensures.same ∙ c.pass_comment-c.ensures.passed) c.skip_seen_break.ensures
    (ap (λ (s : State). is_whole_break s.core.cursor.rest) c.is_at_whole_break.ensures.same
    ∙ sym c.is_at_whole_break.ensures.whole ∙ c.if-not-is_at_whole_break.false)
    (as_before _ _ block)
