use Rattle.std.proofs.Common.{◌∙◌, sym}
use Rattle.yaml_tree.specs.declared.walk.Walk.{Walk}
use Rattle.yaml_tree.proofs.Walks.{comes_next, comes_first, turn_begins, turn_enters, turn_leaves}
use Rattle.yaml_tree.proofs.Leads.{opens, begins_root, enters_within, leaves_within}
use Rattle.yaml_tree.proofs.walk.Walk.turn.Goals as goal

pub returns-in-None-next_part-clause-turns : goal.returns-in-None-next_part-clause-turns
returns-in-None-next_part-clause-turns c =
    let behind : Walk = record { root = c.take.new.self; levels = c.pop.new.self; spans = c.args.self.now.spans } in
    let end = c.in-None-next_part.ensures in
    turn_leaves c.args.self.now behind c.in-Some-pop.rest end.0 (sym c.take.ensures.value ∙ c.in_default.is)
    c.take.ensures.after c.in-Some-pop.ensures.items end.1 end.2

pub returns-in_ok-push-in-Some-next_part-clause-turns : goal.returns-in_ok-push-in-Some-next_part-clause-turns
returns-in_ok-push-in-Some-next_part-clause-turns c =
    turn_enters c.enter-in-Some-next_part.result c.args.self.now c.enter-in-Some-next_part.new.self
    c.pop.new.self.items c.push.new.self.items c.in-Some-pop.rest c.in-Some-next_part.others
    c.in-Some-next_part.node.now (sym c.take.ensures.value ∙ c.in_default.is)
    (c.enter-in-Some-next_part.ensures.root ∙ c.take.ensures.after) c.in-Some-pop.ensures.items
    c.in_ok-push-in-Some-next_part.ensures.items c.in-Some-next_part.ensures.0 c.enter-in-Some-next_part.ensures.turns

pub returns-in-Some-clause-turns : goal.returns-in-Some-clause-turns
returns-in-Some-clause-turns c = turn_begins c.enter.result c.args.self.now c.enter.new.self c.in-Some.root
    (sym c.take.ensures.value ∙ c.in-Some.is) (c.enter.ensures.root ∙ c.take.ensures.after) c.enter.ensures.turns

pub returns-in-None-next_part-clause-within : goal.returns-in-None-next_part-clause-within
returns-in-None-next_part-clause-within c =
    let behind : Walk = record { root = c.take.new.self; levels = c.pop.new.self; spans = c.args.self.now.spans } in
    leaves_within c.args.self.now behind c.in-Some-pop.rest (sym c.take.ensures.value ∙ c.in_default.is)
    c.take.ensures.after c.in-Some-pop.ensures.items

pub returns-in_ok-push-in-Some-next_part-clause-within : goal.returns-in_ok-push-in-Some-next_part-clause-within
returns-in_ok-push-in-Some-next_part-clause-within c =
    let others = c.in-Some-next_part.others in
    let node = c.in-Some-next_part.node.now in
    let none = sym c.take.ensures.value ∙ c.in_default.is in
    enters_within c.enter-in-Some-next_part.result c.args.self.now c.enter-in-Some-next_part.new.self node
    c.push.new.self.items _ _ _
    (opens c.args.self.now c.pop.new.self.items c.push.new.self.items c.in-Some-pop.rest others node none
    c.in-Some-pop.ensures.items c.in_ok-push-in-Some-next_part.ensures.items c.in-Some-next_part.ensures.1)
    c.enter-in-Some-next_part.ensures.turns c.enter-in-Some-next_part.ensures.below
    c.enter-in-Some-next_part.ensures.path (c.enter-in-Some-next_part.ensures.root ∙ c.take.ensures.after)
    (comes_next c.args.self.now c.pop.new.self.items c.push.new.self.items c.in-Some-pop.rest others node none
    c.in-Some-pop.ensures.items c.in_ok-push-in-Some-next_part.ensures.items c.in-Some-next_part.ensures.0)

pub returns-in-Some-clause-within : goal.returns-in-Some-clause-within
returns-in-Some-clause-within c =
    let some = sym c.take.ensures.value ∙ c.in-Some.is in
    enters_within c.enter.result c.args.self.now c.enter.new.self c.in-Some.root.now
    c.args.self.now.levels.items _ _ _ (begins_root c.args.self.now c.in-Some.root some) c.enter.ensures.turns
    c.enter.ensures.below c.enter.ensures.path (c.enter.ensures.root ∙ c.take.ensures.after)
    (comes_first c.args.self.now c.in-Some.root some)
