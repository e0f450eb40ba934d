use Rattle.std.proofs.Common.{◌∙◌, sym}
use Rattle.saphyr_scanner.proofs.Levels.{one_holds, none_holds}
use Rattle.saphyr_scanner.proofs.engine.Engine.is_held_around.Goals as goal

pub returns-then-holds : goal.returns-then-holds
returns-then-holds g c =
    let items = c.deref-level-items.ensures.value in
    one_holds _ c.loop-level.level-index c.args.self.now.outer.items c.level-item.result
    (rw (sym items) c.loop-level-test.true) (rw (sym items) c.level-item.is)
    (sym c.holds.ensures ∙ c.if-holds.true) c.loop-level.invariant.others

pub returns : goal.returns
returns g c =
    let items = c.deref-level-items.ensures.value in
    none_holds _ c.loop-level.level-index c.args.self.now.outer.items
    (rw (sym items) c.loop-level-test.false) c.loop-level.invariant.others
