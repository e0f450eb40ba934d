-- A plain scalar is put behind a text.
use Rattle.saphyr_scalar.proofs.Common.{string_bytes, refl, sym, ap, ◌∙◌, is_break, Cursor, refuse_open, cursor_of}
use Rattle.saphyr_scalar.specs.declared.scalar.fault.FaultText.TheVariants as fault
use Rattle.saphyr_scalar.specs.Steps.Plain as spec
use Rattle.saphyr_scalar.proofs.Plain.LineEnds.{stays_there, blank_there, ended_at_once, behind_and_rest}
use Rattle.saphyr_scalar.proofs.Plain.Pieces.{started, words_and_rest, plain_refused, no_plain, moves_refused, moves_failed}
use Rattle.saphyr_scalar.proofs.scalar.reader.Reader.read_plain_onto.Goals as goal

pub returns-in_err-plain_word_starts : goal.returns-in_err-plain_word_starts
returns-in_err-plain_word_starts g c =
    moves_refused _ _ _ _ c.from_residual.ensures.1 (ap (spec.with_text (string_bytes c.args.text.now))
    (plain_refused c.args.in_flow c.args.indent (cursor_of c.args.self.now) _ c.in_err-plain_word_starts.ensures))

pub returns-then-not-branch : goal.returns-then-not-branch
returns-then-not-branch g c =
    let f = c.args.in_flow in
    let s = cursor_of c.args.self.now in
    let there = cursor_of c.plain_word_starts.new.self in
    ap (spec.with_text (string_bytes c.args.text.now)) (no_plain f c.args.indent s there
    (started (spec.word_starts f) s there _ _ c.if-not-branch.true c.in_ok-plain_word_starts.ensures)
    ∙ ap (λ b. refuse_open b fault.PlainEnd s.mark) (sym c.is_at_open_end.ensures.value))

pub returns-then-ends_plain : goal.returns-then-ends_plain
returns-then-ends_plain g c =
    let f = c.args.in_flow in
    let s = cursor_of c.args.self.now in
    let end = cursor_of c.read_plain_words.new.self in
    let grown = string_bytes c.read_plain_words.new.text in
    let words = c.in_ok-c.ensures.words in
    sym (words_and_rest f c.args.indent s _ end end (string_bytes c.args.text.now) grown
    (started (spec.word_starts f) _ _ _ _ c.if-not-branch.false c.in_ok-plain_word_starts.ensures) words refl)
    ∙ ended_at_once f c.args.indent s.mark grown end (cursor_of c.ends_plain.new.self) _ words.stops words.on_line
    c.ends_plain.ensures.value c.if-ends_plain.true c.ends_plain.ensures.passed

pub read_plain_on-requires : goal.read_plain_on-requires
read_plain_on-requires g c =
    let end = cursor_of c.read_plain_words.new.self in
    let there = cursor_of c.ends_plain.new.self in
    let words = c.in_ok-c.ensures.words in
    let same = ap is_break (sym c.in_ok-c.ensures.end) in
    let passed = c.ends_plain.ensures.passed in
    record {
      lines = λ breaks. blank_there end there (same ∙ breaks) passed;
      ended = λ none. ap (λ (x : Cursor). spec.is_in_word c.args.in_flow x.rest)
          (stays_there end there (same ∙ none) passed) ∙ words.stops;
      on_line = λ none. ap (λ (x : Cursor). x.blank_so_far)
          (stays_there end there (same ∙ none) passed) ∙ words.on_line;
    }

pub returns-in_err-rest : goal.returns-in_err-rest
returns-in_err-rest g c =
    let same = behind_and_rest _ c.args.in_flow c.args.indent (cursor_of c.args.self.now)
    (cursor_of c.plain_word_starts.new.self) (cursor_of c.read_plain_words.new.self) (cursor_of c.ends_plain.new.self)
    (string_bytes c.args.text.now) _ _
    (started (spec.word_starts c.args.in_flow) _ _ _ _ c.if-not-branch.false c.in_ok-plain_word_starts.ensures)
    c.in_ok-c.ensures.words (ap is_break (sym c.in_ok-c.ensures.end)) c.ends_plain.ensures.passed refl in
    moves_failed _ _ _ _ _ c.from_residual-in_err-rest.ensures.1 c.in_err-rest.ensures (λ r h. sym same ∙ h)

pub returns : goal.returns
returns g c =
    let same = behind_and_rest _ c.args.in_flow c.args.indent (cursor_of c.args.self.now)
    (cursor_of c.plain_word_starts.new.self) (cursor_of c.read_plain_words.new.self) (cursor_of c.ends_plain.new.self)
    (string_bytes c.args.text.now) _ _
    (started (spec.word_starts c.args.in_flow) _ _ _ _ c.if-not-branch.false c.in_ok-plain_word_starts.ensures)
    c.in_ok-c.ensures.words (ap is_break (sym c.in_ok-c.ensures.end)) c.ends_plain.ensures.passed refl in
    sym same ∙ c.in_ok-rest.ensures
