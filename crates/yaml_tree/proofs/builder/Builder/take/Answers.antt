use Rattle.std.proofs.Common.{ℕ, List, Result, subst}
use Rattle.saphyr_parser.specs.Events as events
use Rattle.saphyr_parser.specs.Events.{Happening}
use Rattle.saphyr_parser.specs.Nesting.{place_behind_node, with_next_place}
use Rattle.yaml_tree.specs.declared.builder.Builder.{Builder}
use Rattle.yaml_tree.specs.declared.fault.TreeFault.{TreeFault}
use Rattle.yaml_tree.specs.declared.node.Node.{Alias}
use Rattle.yaml_tree.specs.BuilderSeen.{nest_of, Grows, Follows}
use Rattle.yaml_tree.specs.Unloading.{node_events}
use Rattle.yaml_tree.proofs.Walks.{events-Alias}
use Rattle.yaml_tree.proofs.builder.Builder.take.Goals as goal

alias_follows : (r : Result (Unit {0}) TreeFault) (id : ℕ) (old new : Builder)
    → Grows r (node_events (Alias id)) (with_next_place place_behind_node (nest_of old)) old new
    → Follows r (events.Alias id) old new
alias_follows r id old new h =
    subst (λ (hs : List Happening). Grows r hs (with_next_place place_behind_node (nest_of old)) old new)
    (events-Alias id) h

pub returns-in-Alias : goal.returns-in-Alias
returns-in-Alias c =
    rw c.in-Alias.is (alias_follows c.add.result c.in-Alias.id c.args.self.now c.add.new.self c.add.ensures)
