use Rattle.std.proofs.Common.{◌∙◌, sym}
use Rattle.yaml_tree.proofs.Access.{finds_here, finds_later}
use Rattle.yaml_tree.proofs.accessors.value_of.Goals as goal

pub loop-pair-preserved : goal.loop-pair-preserved
loop-pair-preserved c = c.loop-pair.invariant ∙ finds_later c.args.key.now c.args.pairs.now c.loop-pair.pair-index
    c.pair-item.result c.loop-pair-test.true c.pair-item.is c.if-has_text.ensures

pub returns-then-has_text : goal.returns-then-has_text
returns-then-has_text c = sym (c.loop-pair.invariant ∙ finds_here c.args.key.now c.args.pairs.now
    c.loop-pair.pair-index c.pair-item.result c.loop-pair-test.true c.pair-item.is c.if-has_text.ensures)
