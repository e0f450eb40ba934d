-- An alias, or properties with the content behind them.
use Rattle.std.proofs.Common.{◌≡◌, rules, ap}
use Rattle.saphyr_scanner.specs.declared.token.TokenKind.TheVariants as code
use Rattle.saphyr_scanner.specs.Views.Tokens.{kind_with, piece_with}
use Rattle.saphyr_machine.specs.Steps.Nodes.{node}
use Rattle.saphyr_machine.specs.Views.Machines.{machine_in}
use Rattle.saphyr_machine.proofs.Passing.{next_in}
use Rattle.saphyr_machine.proofs.Properties.{node_is_behind}
use Rattle.saphyr_machine.proofs.machine.Machine.node_with_properties.Goals as goal

pub returns-in-Alias : goal.returns-in-Alias
unfolding node
returns-in-Alias g c more =
    let next = next_in c.args.kind c.args.self.now more c.requires in
    let is : c.args.kind ≡ code.Alias = c.in-Alias.is in
    rw (next.3, is) (c.alias.ensures more (piece_with next.0 c.args.kind next.1) next.2 next.1.text
    (rw c.give_back.ensures.same next.3) (ap (λ k. kind_with k next.1) is))

pub returns-in_err-properties : goal.returns-in_err-properties
returns-in_err-properties g c more =
    let next = next_in c.args.kind c.args.self.now more c.requires in
    let whole = node_is_behind (machine_in more c.args.self.now) next.2 c.args.kind next.0 next.1 c.args.context next.3
    c.in_default.not-Alias in
    let failed = rw c.give_back.ensures.same at (c.in_err-properties.ensures more) in
    rw whole (search (rules, failed))

pub returns-in_err-content : goal.returns-in_err-content
returns-in_err-content g c more =
    let next = next_in c.args.kind c.args.self.now more c.requires in
    let whole = node_is_behind (machine_in more c.args.self.now) next.2 c.args.kind next.0 next.1 c.args.context next.3
    c.in_default.not-Alias in
    let read = rw c.give_back.ensures.same at (c.in_ok-properties.ensures more) in
    let failed = c.in_err-content.ensures more in
    rw (whole, read) (search (rules, failed))

pub returns : goal.returns
returns g c more =
    let next = next_in c.args.kind c.args.self.now more c.requires in
    let whole = node_is_behind (machine_in more c.args.self.now) next.2 c.args.kind next.0 next.1 c.args.context next.3
    c.in_default.not-Alias in
    let read = rw c.give_back.ensures.same at (c.in_ok-properties.ensures more) in
    rw (whole, read) (c.in_ok-content.ensures more)
