use Rattle.std.proofs.Common.{◌≡◌, length, take}
use Rattle.std.specs.Prelude.{◌==◌}
use Rattle.std.specs.List.{list_any}
use Rattle.saphyr_input.specs.Classes as class
use Rattle.saphyr_input.specs.Separation as separation
use Rattle.saphyr_input.proofs.Runs.{TakesRun}
use Rattle.saphyr_input.proofs.input.Input.skip_ws_to_eol.Given as goal

abbrev pub invariant-loop-skip_tabs : goal.invariant-loop-skip_tabs
invariant-loop-skip_tabs g l = record {
  runs : TakesRun (separation.is_skipped l.skip_tabs) (g.Self.Input.rest l.fn.self) (g.Self.Input.rest l.self)
      l.count l.c
      (g.Self.Input.loaded l.self);
  tabs : l.tabs ≡ list_any (λ c. c == class.tab) (take l.count (g.Self.Input.rest l.fn.self));
  spaces : l.spaces ≡ list_any (λ c. c == class.space) (take l.count (g.Self.Input.rest l.fn.self));
}

abbrev pub decreases-loop-skip_tabs : goal.decreases-loop-skip_tabs
decreases-loop-skip_tabs g l = length (g.Self.Input.rest l.self)
