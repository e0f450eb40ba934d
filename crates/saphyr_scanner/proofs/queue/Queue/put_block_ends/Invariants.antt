use Rattle.std.proofs.Common.{◌≡◌}
use Rattle.saphyr_scanner.specs.Views.Queue.{queue, with_block_ends}
use Rattle.saphyr_scanner.proofs.queue.Queue.put_block_ends.Given as goal

abbrev pub invariant-loop-done : goal.invariant-loop-done
invariant-loop-done l = queue l.self ≡ with_block_ends l._done l.fn.mark (queue l.fn.self)
