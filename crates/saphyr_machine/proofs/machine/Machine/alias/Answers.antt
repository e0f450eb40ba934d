-- The alias has the name that was taken.
use Rattle.std.proofs.Common.{rules, ap}
use Rattle.saphyr_scanner.specs.Views.Tokens.{text_of}
use Rattle.saphyr_machine.specs.Steps.Nodes.{alias_node}
use Rattle.saphyr_machine.proofs.machine.Machine.alias.Goals as goal

pub returns-in_default : goal.returns-in_default
unfolding alias_node
returns-in_default g c more t m name is of =
    let known = (rw is at (c.take_text.ensures.text more name)) (ap text_of of) in
    let left = rw is at (c.take_text.ensures.left more) in
    search (rules, known, left, is)

pub returns : goal.returns
unfolding alias_node
returns g c more t m name is of =
    let known = (rw is at (c.take_text.ensures.text more name)) (ap text_of of) in
    let left = rw is at (c.take_text.ensures.left more) in
    search (rules, known, left, is)
