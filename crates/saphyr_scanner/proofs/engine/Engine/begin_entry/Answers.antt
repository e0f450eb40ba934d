-- A space before content, or a line feed.
use Rattle.std.proofs.Common.{◌≡◌, rules, slice_index, sym, ◌∙◌}
use Rattle.saphyr_scanner.specs.Views.Engine.{core, state}
use Rattle.saphyr_scanner.proofs.Ahead.Dashes.{entry_fed, entered_spaced}
use Rattle.saphyr_scanner.proofs.engine.Engine.begin_entry.Goals as goal

pub returns-then-passes_dash_and_space : goal.returns-then-passes_dash_and_space
returns-then-passes_dash_and_space g c =
    let passes = c.passes_dash_and_space in
    let entered = entered_spaced c.args.column (state c.args.self.now) (state passes.new.self)
    (sym passes.ensures.decides ∙ c.if-passes_dash_and_space.true)
    (passes.ensures.passed c.if-passes_dash_and_space.true) in
    rw (← entered) c.roll.ensures

pub returns-then-next-eq10 : goal.returns-then-next-eq10
returns-then-next-eq10 g c =
    let second : slice_index (core c.args.self.now).cursor.rest 1 ≡ 10 = search rules in
    rw (entry_fed c.args.column (core c.args.self.now) second) (search rules)
