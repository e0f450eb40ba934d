-- What is passed is a part of the way to the next token.
use Rattle.std.proofs.Common.{◌≡◌, rules, slice_index, ap, ◌∙◌}
use Rattle.saphyr_scalar.specs.Views.Cursor.{Cursor}
use Rattle.saphyr_scanner.specs.Steps.Passing.{with_cursor}
use Rattle.saphyr_scanner.specs.Steps.State.{with_core}
use Rattle.saphyr_scanner.specs.Views.Ahead.{fetched}
use Rattle.saphyr_scanner.specs.Views.Engine.{state}
use Rattle.saphyr_scanner.proofs.Ahead.Feeds.{fed_ahead, spaced_ahead}
use Rattle.saphyr_scanner.proofs.engine.Engine.pass_spaces.Goals as goal

pub returns-then-c-eq10-clause-ahead : goal.returns-then-c-eq10-clause-ahead
returns-then-c-eq10-clause-ahead g c =
    let s = state c.args.self.now in
    let first : slice_index s.core.cursor.rest 0 ≡ 10 = search rules in
    ap fetched c.pass_feed.ensures.passed ∙ fed_ahead s first

pub returns-clause-ahead : goal.returns-clause-ahead
returns-clause-ahead g c =
    let s = state c.args.self.now in
    ap (λ (t : Cursor). fetched (with_core (with_cursor t s.core) s)) (c.load.ensures.same ∙ c.skip_spaces.ensures)
    ∙ spaced_ahead s
