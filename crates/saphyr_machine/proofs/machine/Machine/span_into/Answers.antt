-- The span of the next token.
use Rattle.std.proofs.Common.{◌≡◌}
use Rattle.saphyr_scanner.specs.Views.Scanning.{tokens_in}
use Rattle.saphyr_machine.specs.Views.Machines.{machine_in}
use Rattle.saphyr_machine.proofs.Passing.{if_taken}
use Rattle.saphyr_machine.proofs.machine.Machine.span_into.Goals as goal

pub returns : goal.returns
returns g c more =
    let old = c.args.self.now in
    if_taken (tokens_in more old.scanner) (machine_in more old) (λ t m. c.span_into.new.span ≡ t.span)
    (c.span_into.ensures more)
