use Rattle.std.proofs.Common.{◌≡◌, drop}
use Rattle.yaml_tree.specs.Following.{follow}
use Rattle.yaml_tree.proofs.node.Node.follow.Given as goal

abbrev pub invariant-loop-step : goal.invariant-loop-step
invariant-loop-step l = follow l.path l.fn.self ≡ follow (drop l.step-index l.path) l.node
