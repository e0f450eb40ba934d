-- What ends the tokens where a candidate is too far ends them whatever comes.
use Rattle.std.proofs.Common.{◌≡◌, List, ℕ, OnErr, true, false, rules, subst}
use Rattle.saphyr_scanner.specs.Views.Engine.{state}
use Rattle.saphyr_scanner.specs.Views.Scanning.{EndsTokens, Scanning, is_decided, is_growing, tokens_in}
use Rattle.saphyr_scanner.proofs.Handing.Turns.{refuses_far}
use Rattle.saphyr_scanner.proofs.scanner.Scanner.drop_far_key.Goals as goal

pub returns-then-not-matches-clause-refused : goal.returns-then-not-matches-clause-refused
returns-then-not-matches-clause-refused g c =
    let old : Scanning = record {
      state = state c.self.inside.engine;
      limit = c.self.inside.limit;
      growth = c.self.inside.growth;
      stop = c.self.inside.engine.stop;
    } in
    let new : Scanning = record old {
      state = state c.drop_far_key-dropped.new.self;
      stop = c.drop_far_key-dropped.new.self.stop;
    } in
    let whole : is_growing old.growth ≡ false = search rules in
    refuses_far old c.args.self.now new c.drop_far_key-dropped.result old.state.core.cursor.rest c.self.view_is
    (λ grows. absurd (cc)) c.drop_far_key-dropped.ensures

pub returns-then-is_decided-clause-refused : goal.returns-then-is_decided-clause-refused
returns-then-is_decided-clause-refused g c =
    let old : Scanning = record {
      state = state c.self.inside.engine;
      limit = c.self.inside.limit;
      growth = c.self.inside.growth;
      stop = c.self.inside.engine.stop;
    } in
    let read : Scanning = record old {
      state = state c.drop_far_key-dropped.new.self;
      stop = c.drop_far_key-dropped.new.self.stop;
    } in
    let decided : is_decided c.drop_far_key-dropped.result read.state.core.cursor.rest read.stop ≡ true =
    search rules in
    let same : read ≡ record read { state = state c.is_decided.new.self; stop = c.is_decided.new.self.stop } =
    search rules in
    subst (λ (new : Scanning). OnErr c.drop_far_key-dropped.result
    ((more : List ℕ) → EndsTokens new.stop (tokens_in more c.args.self.now))) same
    (refuses_far old c.args.self.now read c.drop_far_key-dropped.result read.state.core.cursor.rest c.self.view_is
    (λ _. decided) c.drop_far_key-dropped.ensures)
