use Rattle.yaml_tree.proofs.Weights.{bare_nodes, bare_pairs}
use Rattle.yaml_tree.proofs.node.Node.drop_bare.Goals as goal

pub destroy_empty-requires : goal.destroy_empty-requires
destroy_empty-requires c = (bare_nodes c.in-Seq.field-0 c.in-Seq.tag c.in-Seq.nodes).1
    (rw c.in-Seq.is at c.requires)

pub destroy_empty-requires-in-Map : goal.destroy_empty-requires-in-Map
destroy_empty-requires-in-Map c = (bare_pairs c.in-Map.field-0 c.in-Map.tag c.in-Map.pairs).1
    (rw c.in-Map.is at c.requires)
