use Rattle.std.proofs.Common.{ap, refl, ◌∙◌}
use Rattle.saphyr_scanner.specs.Views.Scanning.{Scanning, tokens_in, tokens_over}
use Rattle.saphyr_machine.specs.Views.Machines.{machine_before}
use Rattle.saphyr_machine.specs.Views.Readers.{cursor_in, cursor_over}
use Rattle.saphyr_machine.proofs.Copies.{same_reader}
use Rattle.saphyr_machine.proofs.reader.EventReader.try_clone.Goals as goal

pub returns-in-Ok-try_clone-clause-over : goal.returns-in-Ok-try_clone-clause-over
returns-in-Ok-try_clone-clause-over g c rest =
    same_reader _ (cursor_over rest c.args.self.now) c.in-Ok.ensures c.in_ok-kept.ensures
    (ap (λ (s : Scanning). machine_before (tokens_over rest s) c.in-Ok-try_clone.machine)
    c.in-Ok-try_clone.ensures.scanner
    ∙ c.in-Ok-try_clone.ensures.machine _) refl refl

pub returns-in-Ok-try_clone-clause-cursor : goal.returns-in-Ok-try_clone-clause-cursor
returns-in-Ok-try_clone-clause-cursor g c more =
    same_reader _ (cursor_in more c.args.self.now) c.in-Ok.ensures c.in_ok-kept.ensures
    (ap (λ (s : Scanning). machine_before (tokens_in more s) c.in-Ok-try_clone.machine)
    c.in-Ok-try_clone.ensures.scanner
    ∙ c.in-Ok-try_clone.ensures.machine _) refl refl
