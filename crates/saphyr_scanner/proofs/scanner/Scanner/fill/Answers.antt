-- Where the first token can be handed out, none is read.
use Rattle.std.proofs.Common.{◌≡◌, Ok, false, rules, refl}
use Rattle.saphyr_scanner.specs.Steps.Fetch.{needs_token, without_far_key}
use Rattle.saphyr_scanner.proofs.Handing.Filling.{settled_once}
use Rattle.saphyr_scanner.proofs.Handing.Turns.{filled_ready}
use Rattle.saphyr_scanner.proofs.scanner.Scanner.fill.Goals as goal

pub returns : goal.returns
returns g c =
    let s = c.args.self.now.state in
    let settled : without_far_key s ≡ Ok s = search rules in
    let none : needs_token s ≡ false = search rules in
    (λ more. refl, filled_ready s (settled_once s s settled) none)
