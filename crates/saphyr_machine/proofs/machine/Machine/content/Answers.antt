-- A scalar follows the properties, or nothing does.
use Rattle.std.proofs.Common.{rules, ap, sym, ◌∙◌}
use Rattle.saphyr_scanner.specs.Views.Tokens.{text_of}
use Rattle.saphyr_machine.specs.Steps.Nodes.{next_content, node_content}
use Rattle.saphyr_machine.proofs.Passing.{next_in, scalar_of}
use Rattle.saphyr_machine.proofs.machine.Machine.content.Goals as goal

pub returns-in_ok-take_text-in-Some : goal.returns-in_ok-take_text-in-Some
unfolding next_content node_content
returns-in_ok-take_text-in-Some g c more =
    let shown = c.in_ok-kind.ensures in
    let next = next_in c.in_ok-kind.kind c.peek.new.self more shown.0 in
    let is = scalar_of c.in_ok-kind.kind c.in-Some.style next.1 (sym c.style.ensures ∙ c.in-Some.is) in
    let taken = shown.1 more ∙ next.3 in
    let span = rw next.3 at (c.span_into-in-Some.ensures more) in
    let text = (rw next.3 at (c.in_ok-take_text-in-Some.ensures.text more next.1.text)) (ap text_of is) in
    let left = rw next.3 at (c.in_ok-take_text-in-Some.ensures.left more) in
    rw (taken, is) (search (rules, span, text, left))

pub returns-in-None : goal.returns-in-None
unfolding next_content node_content
returns-in-None g c more =
    let shown = c.in_ok-kind.ensures in
    let next = next_in c.in_ok-kind.kind c.peek.new.self more shown.0 in
    let taken = shown.1 more ∙ next.3 in
    let without = rw next.3 at (c.without_content.ensures more c.args.properties.start) in
    rw taken (search (rules, without))
