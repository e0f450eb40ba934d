use Rattle.std.proofs.Common.{◌≡◌, None, rules}
use Rattle.saphyr_scanner.specs.Views.Engine.{state}
use Rattle.saphyr_scanner.proofs.Handing.Filling.{no_key_settles}
use Rattle.saphyr_scanner.proofs.engine.Engine.has_no_candidate.Goals as goal

pub returns-then-not-self-clause-settled : goal.returns-then-not-self-clause-settled
returns-then-not-self-clause-settled g c =
    let none : (state c.args.self.now).core.level.key ≡ None = search rules in
    λ _. no_key_settles (state c.args.self.now) none
