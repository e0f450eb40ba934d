-- A candidate that is too far is dropped, and the tokens stay.
use Rattle.std.proofs.Common.{◌≡◌, false, rules}
use Rattle.saphyr_scanner.specs.Steps.Fetch.{needs_token}
use Rattle.saphyr_scanner.proofs.Handing.Filling.{settled_once, still_settled}
use Rattle.saphyr_scanner.proofs.Handing.Turns.{filled_ready, readies_from, stays_so}
use Rattle.saphyr_scanner.proofs.scanner.Scanner.fill_past_candidate.Goals as goal

pub read_on-requires-clause-settled : goal.read_on-requires-clause-settled
read_on-requires-clause-settled g c = still_settled _ _ c.in_ok-drop_far_key.ensures.dropped.0

pub returns-then-needs_token : goal.returns-then-needs_token
returns-then-needs_token g c = readies_from c.read_on.result _ _ _
    (stays_so _ _ c.in_ok-drop_far_key.ensures.dropped) c.read_on.ensures.read

pub returns : goal.returns
returns g c =
    let new = c.drop_far_key.new.self in
    let none : needs_token new.state ≡ false = search rules in (
      stays_so _ _ c.in_ok-drop_far_key.ensures.dropped,
      filled_ready new.state (settled_once _ new.state c.in_ok-drop_far_key.ensures.dropped.0) none,
    )
