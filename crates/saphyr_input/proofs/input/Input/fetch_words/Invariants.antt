use Rattle.std.proofs.Common.{length, string_bytes}
use Rattle.saphyr_input.proofs.WordRuns.{TakesWords}
use Rattle.saphyr_input.proofs.input.Input.fetch_words.Given as goal

abbrev pub invariant-loop-out : goal.invariant-loop-out
invariant-loop-out g l =
    TakesWords g.C.CharSet.test g.C.WordSet.joint (g.Self.Input.rest l.fn.self) (g.Self.Input.rest l.self)
    (string_bytes l.fn.out) (string_bytes l.out) l.count l.c (g.Self.Input.loaded l.self)

abbrev pub decreases-loop-out : goal.decreases-loop-out
decreases-loop-out g l = length (g.Self.Input.rest l.self)
