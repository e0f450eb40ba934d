-- The next token is shown.
use Rattle.std.proofs.Common.{◌∙◌, ap, sym}
use Rattle.saphyr_scanner.specs.Views.Scanning.{tokens_in}
use Rattle.saphyr_scanner.specs.Views.Tokens.{piece_with}
use Rattle.saphyr_machine.specs.Steps.Machine.{taken_token}
use Rattle.saphyr_machine.specs.Views.Machines.{machine_in}
use Rattle.saphyr_machine.proofs.Passing.{first_taken, with_tokens}
use Rattle.saphyr_machine.proofs.machine.Machine.peek.Goals as goal

pub returns-in-Some : goal.returns-in-Some
returns-in-Some g c =
    let old = c.args.self.now in
    let shown = rw c.in-Some.is at c.in_ok-kind.ensures in (
      (
        (
          λ more. (shown.0 more).0.0,
          λ more. (shown.0 more).0.1,
          λ more. with_tokens (shown.0 more).0.2 (machine_in more old),
          λ more.
              let first = (shown.0 more).0 in
              first_taken (tokens_in more c.peek.new.self) first.2 (machine_in more old)
              (piece_with first.0 c.in-Some.kind first.1) ((shown.0 more).1 ∙ first.3),
        ),
        shown.1,
      ),
      λ more. ap (λ r. taken_token (with_tokens r (machine_in more old))) (sym (shown.0 more).1),
    )
