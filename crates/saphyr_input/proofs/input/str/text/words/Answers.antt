use Rattle.std.proofs.Common.{arith, rules}
use Rattle.saphyr_input.proofs.WordRuns.{words_past, words_more, words_fit}
use Rattle.saphyr_input.proofs.input.str.text.words.Goals as goal

pub loop-piece-init : goal.loop-piece-init
loop-piece-init g c = record {
  text = search rules;
  past = record {
    run = words_past g.C.CharSet.test g.C.WordSet.joint _ _ _ c.ascii_run-count.ensures.part
        c.ascii_run-count.ensures.rest;
    behind = c.ascii_run-count.ensures.rest;
  };
  stops = c.ascii_run-count.ensures.stops;
}

pub overflow_add-count : goal.overflow_add-count
overflow_add-count g c =
    let h = words_more g.C.CharSet.test g.C.WordSet.joint _ _ _ _ _ _ _ c.loop-piece.invariant.past
    c.in-Some.ensures.part c.in-Some.ensures.rest c.ascii_run-ascii.ensures.part c.ascii_run-ascii.ensures.rest in
    record { fits = omega (arith, h.run, words_fit g.C.CharSet.test g.C.WordSet.joint c.args.text.now c.utf8.text) }

pub overflow_add-count-in-Some : goal.overflow_add-count-in-Some
overflow_add-count-in-Some g c =
    let h = words_more g.C.CharSet.test g.C.WordSet.joint _ _ _ _ _ _ _ c.loop-piece.invariant.past
    c.in-Some.ensures.part c.in-Some.ensures.rest c.ascii_run-ascii.ensures.part c.ascii_run-ascii.ensures.rest in
    record { fits = omega (arith, h.run, words_fit g.C.CharSet.test g.C.WordSet.joint c.args.text.now c.utf8.text) }

pub loop-piece-smaller : goal.loop-piece-smaller
loop-piece-smaller g c =
    let h = words_more g.C.CharSet.test g.C.WordSet.joint _ _ _ _ _ _ _ c.loop-piece.invariant.past
    c.in-Some.ensures.part c.in-Some.ensures.rest c.ascii_run-ascii.ensures.part c.ascii_run-ascii.ensures.rest in
    omega (arith, c.loop-piece.invariant.past.run, h.run, c.in-Some.ensures.some)

pub loop-piece-preserved : goal.loop-piece-preserved
loop-piece-preserved g c = record {
  text = search rules;
  past = words_more g.C.CharSet.test g.C.WordSet.joint _ _ _ _ _ _ _ c.loop-piece.invariant.past
      c.in-Some.ensures.part c.in-Some.ensures.rest c.ascii_run-ascii.ensures.part c.ascii_run-ascii.ensures.rest;
  stops = c.ascii_run-ascii.ensures.stops;
}
