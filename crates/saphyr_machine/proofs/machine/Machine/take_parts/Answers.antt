-- The parts of the next token are taken.
use Rattle.std.proofs.Common.{◌≡◌, rules}
use Rattle.std.specs.Prelude.{IfOk, OnOk}
use Rattle.saphyr_scanner.specs.Views.Scanning.{tokens_in}
use Rattle.saphyr_scanner.specs.Views.Tokens.{kind_with, parts_view, token_kind}
use Rattle.saphyr_machine.specs.Views.Machines.{machine_in}
use Rattle.saphyr_machine.proofs.Passing.{if_taken, with_tokens}
use Rattle.saphyr_machine.proofs.machine.Machine.take_parts.Goals as goal

pub returns-clause-parts : goal.returns-clause-parts
returns-clause-parts g c more =
    let old = c.args.self.now in
    if_taken (tokens_in more old.scanner) (machine_in more old)
    (λ t m. IfOk c.take_parts.result (λ x. t.kind ≡ kind_with (token_kind t.kind) (parts_view x)))
    (c.take_parts.ensures.parts more)

pub returns-clause-left : goal.returns-clause-left
returns-clause-left g c more =
    let old = c.args.self.now in
    if_taken (tokens_in more old.scanner) (machine_in more old)
    (λ t m. OnOk c.take_parts.result (with_tokens (tokens_in more c.take_parts.new.self) (machine_in more old) ≡ m))
    (λ t left is. let taken = c.take_parts.ensures.left more t left is in search (rules, taken))
