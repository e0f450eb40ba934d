use Rattle.std.proofs.Common.{◌≡◌, true, false, ◌∙◌, sym}
use Rattle.saphyr_input.proofs.Runs.{runs_more, runs_all, run_counts, run_shorter, one_ready}
use Rattle.saphyr_input.proofs.input.Input.skip_while.Goals as goal

pub loop-self-preserved : goal.loop-self-preserved
loop-self-preserved g c =
    let passes : g.C.CharSet.test c.loop-self.c ≡ true = sym c.has.ensures ∙ c.loop-self-test.true in
    let next = c.look_ch-c-in-loop-self.ensures in
    runs_more g.C.CharSet.test _ _ _ _ _ _ _ _ g.met.C.CharSet.without_nul passes c.loop-self.invariant
    (next.rest ∙ c.skip.ensures.rest) (rw next.rest next.value) (one_ready _ _ next.loaded)

pub returns-clause-count : goal.returns-clause-count
returns-clause-count g c =
    let stops : g.C.CharSet.test c.loop-self.c ≡ false = sym c.has.ensures ∙ c.loop-self-test.false in
    runs_all g.C.CharSet.test _ _ _ _ _ stops c.loop-self.invariant

pub overflow_add-count : goal.overflow_add-count
overflow_add-count g c =
    let passes : g.C.CharSet.test c.loop-self.c ≡ true = sym c.has.ensures ∙ c.loop-self-test.true in
    record { fits = run_counts g.C.CharSet.test _ _ _ _ _ g.met.C.CharSet.without_nul passes c.loop-self.invariant }

pub loop-self-smaller : goal.loop-self-smaller
loop-self-smaller g c =
    let passes : g.C.CharSet.test c.loop-self.c ≡ true = sym c.has.ensures ∙ c.loop-self-test.true in
    run_shorter g.C.CharSet.test _ _ _ _ _ _ g.met.C.CharSet.without_nul passes c.loop-self.invariant
    (c.look_ch-c-in-loop-self.ensures.rest ∙ c.skip.ensures.rest)
