-- The first token is shown.
use Rattle.std.proofs.Common.{◌≡◌, ◌∙◌, true, rules, ap}
use Rattle.saphyr_scanner.specs.Steps.Fetch.{is_ready}
use Rattle.saphyr_scanner.specs.Views.Engine.{state}
use Rattle.saphyr_scanner.specs.Views.Scanning.{Scanning, tokens_in, tokens_over}
use Rattle.saphyr_scanner.proofs.Handing.Turns.{shows}
use Rattle.saphyr_scanner.proofs.scanner.Scanner.peek.Goals as goal

pub returns : goal.returns
unfolding tokens_over tokens_in
returns g c =
    let read : Scanning = record {
      state = state c.self.inside.engine;
      limit = c.self.inside.limit;
      growth = c.self.inside.growth;
      stop = c.self.inside.engine.stop;
    } in
    let ready : is_ready read.state ≡ true = search rules in
    let shown = shows c.peek.result c.args.self.now read
    (λ more. ap (tokens_in more) c.self.view_is ∙ c.in_ok-fill.ensures.0 more) ready c.peek.ensures.kind
    c.peek.ensures.counted in
    search (rules, shown)
