use Rattle.saphyr_scalar.proofs.Common.{refl, string_bytes, ap, ◌∙◌, arith, cursor_of}
use Rattle.saphyr_scalar.specs.Steps.Quoted as spec
use Rattle.saphyr_scalar.proofs.SpaceRuns.{inside_over_spaces}
use Rattle.saphyr_scalar.proofs.Quoted.Gaps.{ok_no_longer, reads_from}
use Rattle.saphyr_scalar.proofs.Quoted.Lines.{begins_later_word}
use Rattle.saphyr_scalar.proofs.Quoted.LineTurns.{no_longer}
use Rattle.saphyr_scalar.proofs.scalar.reader.Reader.read_quoted_lines.Goals as goal

pub returns-then-not-is_later_word-clause-same : goal.returns-then-not-is_later_word-clause-same
returns-then-not-is_later_word-clause-same g c = λ quote.
    let a = c.args in
    reads_from c.read_empty_quoted_lines.result _ _ _
    (ap (spec.with_front (string_bytes a.text.now))
    (inside_over_spaces quote a.indent a.start a.escaped 0 _ (cursor_of a.self.now)
    (cursor_of c.look_behind_spaces-c.new.self) c.look_behind_spaces-c.ensures.passed))
    (c.read_empty_quoted_lines.ensures.same quote)

pub returns-then-not-is_later_word-clause-shorter : goal.returns-then-not-is_later_word-clause-shorter
returns-then-not-is_later_word-clause-shorter g c =
    let here = cursor_of c.look_behind_spaces-c.new.self in
    ok_no_longer c.read_empty_quoted_lines.result _ _ _
    (no_longer _ 0 _ (cursor_of c.args.self.now) here here (omega arith) c.look_behind_spaces-c.ensures.passed refl)
    c.read_empty_quoted_lines.ensures.shorter

pub returns-clause-same : goal.returns-clause-same
returns-clause-same g c = λ quote.
    let a = c.args in
    let here = cursor_of c.look_behind_spaces-c.new.self in
    let non_space = c.is_later_word.ensures c.if-not-is_later_word.false in
    ap (λ b. spec.with_front b (spec.inner_text_at quote a.indent a.start spec.no_gap here))
    c.in_ok-push_folded_break.ensures
    ∙ begins_later_word quote a.indent a.start a.escaped (string_bytes a.text.now) here c.look_behind_spaces-c.result
    c.look_behind_spaces-c.ensures.value non_space.0 non_space.1
    ∙ ap (spec.with_front (string_bytes a.text.now))
    (inside_over_spaces quote a.indent a.start a.escaped 0 _ (cursor_of a.self.now) here
    c.look_behind_spaces-c.ensures.passed)

pub returns-clause-shorter : goal.returns-clause-shorter
returns-clause-shorter g c =
    let here = cursor_of c.look_behind_spaces-c.new.self in
    no_longer _ 0 _ (cursor_of c.args.self.now) here here (omega arith) c.look_behind_spaces-c.ensures.passed refl
