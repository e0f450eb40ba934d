use Rattle.std.proofs.Common.{sym, ◌∙◌, arith}
use Rattle.saphyr_input.proofs.WordRuns.{takes_more, takes_all}
use Rattle.saphyr_input.proofs.input.Input.fetch_words.Goals as goal

pub loop-out-preserved : goal.loop-out-preserved
loop-out-preserved g c =
    takes_more c.loop-out.invariant c.peek_nth.ensures (c.goes_on.ensures.some c.loop-out-test.true)
    (sym c.goes_on.ensures.value ∙ c.loop-out-test.true)
    (c.lookahead-in-loop-out.ensures.rest ∙ c.skip.ensures.rest) c.in_ok-push.ensures.bytes
    c.peek-c-in-loop-out.ensures (omega (arith, c.lookahead-in-loop-out.ensures.loaded))

pub returns-clause-ok : goal.returns-clause-ok
returns-clause-ok g c =
    takes_all c.loop-out.invariant c.peek_nth.ensures
    (sym c.goes_on.ensures.value ∙ c.loop-out-test.false)
