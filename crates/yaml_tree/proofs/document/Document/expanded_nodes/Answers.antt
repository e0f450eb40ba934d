use Rattle.yaml_tree.proofs.Counts.{counts_none}
use Rattle.yaml_tree.proofs.document.Document.expanded_nodes.Goals as goal

pub returns : goal.returns
returns c = c.count_all-counted.ensures c.args.self.now.root
    (counts_none c.args.self.now.root _ c.new-counter.result c.new-counter.ensures c.new-walk.ensures.events)
