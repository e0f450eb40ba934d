-- A candidate that is too far is dropped where a token begins.
use Rattle.std.proofs.Common.{◌≡◌, rules, slice_index, true, false, None}
use Rattle.std.specs.Prelude.{◌&&◌}
use Rattle.saphyr_scanner.specs.Steps.Core.{in_block, is_too_far}
use Rattle.saphyr_scanner.specs.Views.Ahead.{may_begin}
use Rattle.saphyr_scanner.specs.Views.Engine.{state}
use Rattle.saphyr_scanner.proofs.Ahead.Feeds.{dropped_ahead}
use Rattle.saphyr_scanner.proofs.engine.Engine.lets_key_go.Goals as goal

pub returns-then-not-self-clause-ahead : goal.returns-then-not-self-clause-ahead
returns-then-not-self-clause-ahead g c =
    let s = state c.args.self.now in
    let begins : may_begin (slice_index s.core.cursor.rest 0) ≡ true = search rules in
    let none : s.core.comment ≡ None = search rules in
    let far : (in_block s.core && is_too_far s.core.level.key s.core.cursor.mark) ≡ true = search rules in
    let free : s.core.required ≡ false = search rules in
    dropped_ahead s begins none far free
