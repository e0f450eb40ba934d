-- A reader goes on over a text that begins with its own.
use Rattle.std.proofs.Common.{◌≡◌, ◌++◌, List, ℕ, sym, ap, ◌∙◌, arith, length, drop}
use Rattle.std.specs.Prelude.{string_bytes}
use Rattle.std.specs.Str.{chars}
use Rattle.std.proofs.lemmas.Str.{IsUtf8-string_bytes, chars-append}
use Rattle.saphyr_input.proofs.Texts.{length-chars}
use Rattle.saphyr_scanner.specs.Views.Scanning.{Scanning}
use Rattle.saphyr_machine.specs.Views.Readers.{scanning_of}
use Rattle.saphyr_pieces.proofs.Places.{reads_on}
use Rattle.saphyr_pieces.proofs.pieces.copy.grow.Goals as goal
use Rattle.saphyr_pieces.proofs.pieces.copy.grow.Goals.{After-exchange-old}

pub exchange-old-requires : goal.exchange-old-requires
exchange-old-requires c =
    let there = sym c.index.ensures in
    let text = c.push_str-2.new.self in
    let bytes : length c.as_str.result.now ≡ length (string_bytes text) = ap length c.as_str.ensures.value in
    let counted = length-chars (string_bytes text) (IsUtf8-string_bytes text) in
    rw (c.new-2.ensures, c.replace-text.ensures.value) (omega (arith, there, bytes, counted, c.in-Some.ensures))

-- the text that the reader goes on over
text : (c : After-exchange-old) → chars (drop c.new-2.result.start (string_bytes c.new-2.result.text))
    ≡ (scanning_of c.args.reader.now).state.core.cursor.rest ++ chars c.args.more.now
text c =
    let rest = c.as_str-rest.result.now in
    let more = c.args.more.now in
    let bytes = c.in_ok-push_str-2.ensures.bytes ∙ ap (λ (bs : List ℕ). bs ++ more)
    (c.in_ok-push_str.ensures.bytes ∙ ap (λ (bs : List ℕ). bs ++ rest) (c.in_ok-reserve.ensures.bytes
    ∙ c.clear.ensures.bytes)) in
    c.new-2.ensures ∙ ap (λ s. chars (string_bytes s)) c.replace-text.ensures.value ∙ ap chars bytes
    ∙ chars-append rest more c.as_str-rest.utf8 ∙ ap (λ (cs : List ℕ). cs ++ chars more)
    (c.as_str-rest.ensures ∙ c.input.ensures)

pub returns-clause-cursor : goal.returns-clause-cursor
returns-clause-cursor c =
    reads_on c.args.reader.now c.exchange-old.new.self c.args.growth
    (chars (drop c.new-2.result.start (string_bytes c.new-2.result.text))) (chars c.args.more.now)
    (sym c.growth.ensures ∙ c.in-Growing.is) c.exchange-old.ensures.scanner c.exchange-old.ensures.cursor
    (text (goal.at.returns-clause-cursor c).After-exchange-old)

pub returns-clause-rest : goal.returns-clause-rest
returns-clause-rest c =
    ap (λ (s : Scanning). s.state.core.cursor.rest) c.exchange-old.ensures.scanner
    ∙ text (goal.at.returns-clause-rest c).After-exchange-old
