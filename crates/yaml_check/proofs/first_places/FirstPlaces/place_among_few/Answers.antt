use Rattle.std.proofs.Common.{◌∙◌, sym, arith}
use Rattle.yaml_check.proofs.KeyMaps.{is_before_last, is_last}
use Rattle.yaml_check.proofs.first_places.FirstPlaces.place_among_few.Goals as goal

pub returns-then-eq : goal.returns-then-eq
returns-then-eq c = sym (is_last c.args.text.now c.args.self.now.few.items _ c.loop-count.count c.index.result.now _ _
    c.eq.result (omega (arith, c.loop-count-test.true)) c.loop-count.invariant.within c.index.ensures
    c.as_bytes.ensures c.as_bytes-in-loop-count.ensures c.eq.ensures c.if-eq.true) ∙ c.loop-count.invariant.same

pub loop-count-preserved : goal.loop-count-preserved
loop-count-preserved c = record {
  within = omega (arith, c.loop-count.invariant.within);
  same = sym (is_before_last c.args.text.now c.args.self.now.few.items _ c.loop-count.count c.index.result.now _ _
      c.eq.result (omega (arith, c.loop-count-test.true)) c.loop-count.invariant.within c.index.ensures
      c.as_bytes.ensures c.as_bytes-in-loop-count.ensures c.eq.ensures c.if-eq.false) ∙ c.loop-count.invariant.same;
}
