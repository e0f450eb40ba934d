use Rattle.std.proofs.Common.{arith, rules}
use Rattle.std.specs.Str.{chars}
use Rattle.saphyr_input.proofs.Texts.{run_fits, ran_wide}
use Rattle.saphyr_input.proofs.input.str.text.run.Goals as goal

pub overflow_add-count : goal.overflow_add-count
overflow_add-count g c =
    let fits = run_fits g.C.CharSet.test c.args.text.now c.utf8.text in
    omega (arith, c.in-Some.ensures.part, c.ascii_run-ascii.ensures.part, c.loop-wide.invariant.run, fits)

pub overflow_add-count-in-Some : goal.overflow_add-count-in-Some
overflow_add-count-in-Some g c =
    let fits = run_fits g.C.CharSet.test c.args.text.now c.utf8.text in
    omega (arith, c.in-Some.ensures.part, c.ascii_run-ascii.ensures.part, c.loop-wide.invariant.run, fits)

pub loop-wide-preserved : goal.loop-wide-preserved
loop-wide-preserved g c =
    let h = ran_wide g.C.CharSet.test (chars c.args.text.now) (chars c.loop-wide.rest.now) (chars c.in-Some.beyond.now)
    (chars c.ascii_run-ascii.result.1.now) c.loop-wide.count c.in-Some.wide c.ascii_run-ascii.result.0
    c.loop-wide.invariant.run c.loop-wide.invariant.behind c.in-Some.ensures.part c.in-Some.ensures.rest
    c.ascii_run-ascii.ensures.part c.ascii_run-ascii.ensures.rest in
    record { text = search rules; run = h.run; stops = c.ascii_run-ascii.ensures.stops; behind = h.behind }
