use Rattle.std.proofs.Common.{◌≡◌, ◌+◌, ◌<◌, ◌^◌}
use Rattle.saphyr_scanner.specs.Steps.Unrolling.{end_blocks, unroll}
use Rattle.saphyr_scanner.specs.Views.Engine.{state}
use Rattle.saphyr_scanner.proofs.Blocks.{most_ends, with_ends}
use Rattle.saphyr_scanner.proofs.engine.Engine.unroll.Given as goal

abbrev pub invariant-loop-column : goal.invariant-loop-column
invariant-loop-column g l =
    (end_blocks l.column l.mark (state l.self).core.outer_indents (with_ends l.count l.mark (state l.self))
    ≡ unroll l.fn.column l.fn.mark (state l.fn.self))
    × (l.count + most_ends l.column (state l.self) < 2 ^ 64)

abbrev pub decreases-loop-column : goal.decreases-loop-column
decreases-loop-column g l = most_ends l.column (state l.self)
