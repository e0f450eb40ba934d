use Rattle.std.proofs.Common.{◌≡◌, take}
use Rattle.std.specs.List.{flat_map}
use Rattle.yaml_tree.specs.Unloading.{node_events, pair_events}
use Rattle.yaml_tree.proofs.+cloning.Given as goal

abbrev pub invariant-cloning::copy_nodes-loop-node : goal.invariant-cloning::copy_nodes-loop-node
invariant-cloning::copy_nodes-loop-node l = flat_map node_events l.copies.items ≡ flat_map node_events
    (take l.node-index l.node-items)

abbrev pub invariant-cloning::copy_pairs-loop-key : goal.invariant-cloning::copy_pairs-loop-key
invariant-cloning::copy_pairs-loop-key l = flat_map pair_events l.copies.items ≡ flat_map pair_events
    (take l.key-index l.key-items)
