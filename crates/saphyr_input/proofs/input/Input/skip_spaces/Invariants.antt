use Rattle.std.proofs.Common.{◌≤◌, length}
use Rattle.std.specs.Prelude.{◌==◌}
use Rattle.saphyr_input.proofs.Runs.{Ran}
use Rattle.saphyr_input.proofs.input.Input.skip_spaces.Given as goal

abbrev pub invariant-loop-count : goal.invariant-loop-count
invariant-loop-count g l = record {
  ran : Ran (λ c. c == 32) (g.Self.Input.rest l.fn.self) (g.Self.Input.rest l.self) l.count;
  limit : l.count ≤ l.most;
}

abbrev pub decreases-loop-count : goal.decreases-loop-count
decreases-loop-count g l = length (g.Self.Input.rest l.self)
