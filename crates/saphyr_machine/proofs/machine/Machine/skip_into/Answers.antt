-- The next token is taken.
use Rattle.std.proofs.Common.{◌≡◌, ap}
use Rattle.saphyr_scanner.specs.Views.Scanning.{tokens_in}
use Rattle.saphyr_machine.specs.Views.Machines.{machine_in}
use Rattle.saphyr_machine.proofs.Passing.{if_taken, with_tokens}
use Rattle.saphyr_machine.proofs.machine.Machine.skip_into.Goals as goal

pub returns-clause-span : goal.returns-clause-span
returns-clause-span g c more =
    let old = c.args.self.now in
    if_taken (tokens_in more old.scanner) (machine_in more old) (λ t m. c.skip_into.new.span ≡ t.span)
    (c.skip_into.ensures.span more)

pub returns-clause-left : goal.returns-clause-left
returns-clause-left g c more =
    let old = c.args.self.now in
    if_taken (tokens_in more old.scanner) (machine_in more old)
    (λ t m. with_tokens (tokens_in more c.skip_into.new.self) (machine_in more old) ≡ m)
    (λ t left is. ap (λ r. with_tokens r (machine_in more old)) (c.skip_into.ensures.left more t left is))
