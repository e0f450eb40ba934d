use Rattle.std.proofs.Common.{◌≡◌, true, false, ◌∙◌, sym}
use Rattle.saphyr_input.proofs.Runs.{runs_more, runs_text, transfers_all, run_counts, run_shorter, one_ready}
use Rattle.saphyr_input.proofs.input.Input.fetch_while.Goals as goal

pub loop-c-preserved : goal.loop-c-preserved
loop-c-preserved g c =
    let p = g.C.CharSet.test in
    let z = g.met.C.CharSet.without_nul in
    let passes : p c.loop-c.c ≡ true = sym c.has.ensures ∙ c.loop-c-test.true in
    let next = c.look_ch-c-in-loop-c.ensures in
    record {
      runs = runs_more p _ _ _ _ _ _ _ _ z passes c.loop-c.invariant.runs (next.rest ∙ c.skip.ensures.rest)
          (rw next.rest next.value) (one_ready _ _ next.loaded);
      text = runs_text p _ _ _ _ _ _ _ _ z passes c.loop-c.invariant.runs c.loop-c.invariant.text
          c.in_ok-push.ensures.bytes;
    }

pub returns-clause-ok : goal.returns-clause-ok
returns-clause-ok g c =
    let stops : g.C.CharSet.test c.loop-c.c ≡ false = sym c.has.ensures ∙ c.loop-c-test.false in
    transfers_all g.C.CharSet.test _ _ _ _ _ _ _ stops c.loop-c.invariant.runs c.loop-c.invariant.text

pub overflow_add-count : goal.overflow_add-count
overflow_add-count g c =
    let p = g.C.CharSet.test in
    let z = g.met.C.CharSet.without_nul in
    let passes : p c.loop-c.c ≡ true = sym c.has.ensures ∙ c.loop-c-test.true in
    record { fits = run_counts p _ _ _ _ _ z passes c.loop-c.invariant.runs }

pub loop-c-smaller : goal.loop-c-smaller
loop-c-smaller g c =
    let p = g.C.CharSet.test in
    let z = g.met.C.CharSet.without_nul in
    let passes : p c.loop-c.c ≡ true = sym c.has.ensures ∙ c.loop-c-test.true in
    run_shorter p _ _ _ _ _ _ z passes c.loop-c.invariant.runs
    (c.look_ch-c-in-loop-c.ensures.rest ∙ c.skip.ensures.rest)
