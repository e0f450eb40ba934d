use Rattle.std.proofs.Common.{◌≡◌, true, false, None, rules, tests, slice_index, nat_lt}
use Rattle.std.specs.Prelude.{◌&&◌}
use Rattle.saphyr_scanner.specs.Steps.Core.{in_block, is_too_far, least_column}
use Rattle.saphyr_scanner.specs.Views.Ahead.{may_begin}
use Rattle.saphyr_scanner.specs.Views.Engine.{state}
use Rattle.saphyr_scanner.proofs.Ahead.RightHere.{arrived}
use Rattle.saphyr_scanner.proofs.engine.Engine.has_arrived.Goals as goal

pub returns : goal.returns
returns g c right =
    let s = state c.args.self.now in
    let begins : may_begin (slice_index s.core.cursor.rest 0) ≡ true = search rules in
    let none : s.core.comment ≡ None = search rules in
    let near : (in_block s.core && is_too_far s.core.level.key s.core.cursor.mark) ≡ false = search rules in
    let column : nat_lt s.core.cursor.mark.col (least_column s.core) ≡ false = search (rules, tests) in
    arrived s begins none column near
