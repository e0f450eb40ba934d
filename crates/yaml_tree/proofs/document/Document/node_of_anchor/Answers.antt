use Rattle.std.proofs.Common.{true≢false, sym}
use Rattle.yaml_tree.proofs.AnchorSearch.{searches_node, searches_end}
use Rattle.yaml_tree.proofs.document.Document.node_of_anchor.Goals as goal

pub turns-preserved-else-has_anchor : goal.turns-preserved-else-has_anchor
turns-preserved-else-has_anchor c = searches_node c.args.id c.in-Enter.field-1 c.args.self.now.root
    c.in-Enter.node.now _ _ c.turns.invariant (rw c.in-Enter.is at c.in_ok-node.ensures.turns)
    (λ e. true≢false (sym (c.if-has_anchor.ensures.1 e)))

pub turns-preserved : goal.turns-preserved
turns-preserved c = searches_end c.args.id c.args.self.now.root _ _ c.turns.invariant
    (rw c.in-Leave.is at c.in_ok-node.ensures.turns)
