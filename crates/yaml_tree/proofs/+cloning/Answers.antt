use Rattle.yaml_tree.proofs.Copies.{copied_sequence, copied_mapping}
use Rattle.yaml_tree.proofs.+cloning.Goals as goal

pub node::Node::try_clone-returns-in_ok-copy_nodes-in-Seq : goal.node::Node::try_clone-returns-in_ok-copy_nodes-in-Seq
node::Node::try_clone-returns-in_ok-copy_nodes-in-Seq t c =
    copied_sequence c.args.self.now _ _ _ _ _ c.in-Seq.is c.in_ok-copy_tag-in-Seq.ensures
    c.in_ok-copy_nodes-in-Seq.ensures

pub node::Node::try_clone-returns-in_ok-copy_pairs-in-Map : goal.node::Node::try_clone-returns-in_ok-copy_pairs-in-Map
node::Node::try_clone-returns-in_ok-copy_pairs-in-Map t c =
    copied_mapping c.args.self.now _ _ _ _ _ c.in-Map.is c.in_ok-copy_tag-in-Map.ensures
    c.in_ok-copy_pairs-in-Map.ensures
