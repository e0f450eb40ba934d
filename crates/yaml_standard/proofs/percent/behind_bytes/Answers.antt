use Rattle.std.proofs.Common.{rules, arith, ◌∙◌}
use Rattle.yaml_standard.proofs.Escapes.{bytes_more, bytes_whole}
use Rattle.yaml_standard.proofs.percent.behind_bytes.Goals as goal

pub loop-i-preserved : goal.loop-i-preserved
loop-i-preserved c = record {
  text = search rules;
  taken = bytes_more _ _ _ _ _ _ c.loop-i.invariant.taken c.in_ok-byte.ensures c.loop-i-test.true
      (c.if-byte-from.false ∙ c.from.ensures);
}

pub returns : goal.returns
returns c =
    bytes_whole c.loop-i.i _ _ _ (omega (arith, c.loop-i-test.false, c.loop-i.auto.i-end)) c.loop-i.invariant.taken
