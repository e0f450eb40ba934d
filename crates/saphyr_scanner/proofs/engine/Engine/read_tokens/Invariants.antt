use Rattle.std.proofs.Common.{◌≡◌, suc, true}
use Rattle.saphyr_scanner.specs.Steps.Fetch.{fill, fill_in, needs_token, size}
use Rattle.saphyr_scanner.specs.Views.Engine.{state}
use Rattle.saphyr_scanner.proofs.engine.Engine.read_tokens.Given as goal

abbrev pub invariant-loop-self : goal.invariant-loop-self
invariant-loop-self g l = record {
  same : fill_in (suc (size (state l.self).core)) l.limit (state l.self) ≡ fill l.fn.limit (state l.fn.self);
  needed : needs_token (state l.self) ≡ true;
}

abbrev pub decreases-loop-self : goal.decreases-loop-self
decreases-loop-self g l = size (state l.self).core
