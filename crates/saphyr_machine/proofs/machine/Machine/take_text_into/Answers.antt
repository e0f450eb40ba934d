-- The text of the next token is taken.
use Rattle.std.proofs.Common.{◌≡◌, rules, Some}
use Rattle.std.specs.Prelude.{OnOk, string_bytes}
use Rattle.saphyr_scanner.specs.Views.Scanning.{tokens_in}
use Rattle.saphyr_scanner.specs.Views.Tokens.{text_of}
use Rattle.saphyr_machine.specs.Views.Machines.{machine_in}
use Rattle.saphyr_machine.proofs.Passing.{if_taken, with_tokens}
use Rattle.saphyr_machine.proofs.machine.Machine.take_text_into.Goals as goal

pub returns-clause-text : goal.returns-clause-text
returns-clause-text g c more text =
    let old = c.args.self.now in
    if_taken (tokens_in more old.scanner) (machine_in more old)
    (λ t m. text_of t.kind ≡ Some text → OnOk c.take_text_into.result (string_bytes c.take_text_into.new.into ≡ text))
    (λ t left is. c.take_text_into.ensures.text more t left text is)

pub returns-clause-left : goal.returns-clause-left
returns-clause-left g c more =
    let old = c.args.self.now in
    if_taken (tokens_in more old.scanner) (machine_in more old)
    (λ t m. OnOk c.take_text_into.result
    (with_tokens (tokens_in more c.take_text_into.new.self) (machine_in more old) ≡ m))
    (λ t left is. let taken = c.take_text_into.ensures.left more t left is in search (rules, taken))
