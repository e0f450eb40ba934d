use Rattle.std.proofs.Common.{◌≡◌, ◌++◌, length, take, encode_utf8_all, string_bytes}
use Rattle.saphyr_input.proofs.Runs.{TakesRun}
use Rattle.saphyr_input.proofs.input.Input.fetch_while.Given as goal

abbrev pub invariant-loop-c : goal.invariant-loop-c
invariant-loop-c g l = record {
  runs : TakesRun g.C.CharSet.test (g.Self.Input.rest l.fn.self) (g.Self.Input.rest l.self) l.count l.c
      (g.Self.Input.loaded l.self);
  text : string_bytes l.out ≡ string_bytes l.fn.out ++ encode_utf8_all (take l.count (g.Self.Input.rest l.fn.self));
}

abbrev pub decreases-loop-c : goal.decreases-loop-c
decreases-loop-c g l = length (g.Self.Input.rest l.self)
