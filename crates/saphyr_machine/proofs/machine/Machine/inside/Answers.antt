-- A node inside a collection.
use Rattle.std.proofs.Common.{rules, subst, ap, sym, ◌∙◌}
use Rattle.saphyr_scanner.specs.Steps.State.{State}
use Rattle.saphyr_scanner.specs.Views.Scanning.{IsReady}
use Rattle.saphyr_scanner.specs.Views.Tokens.{piece_with, text_of}
use Rattle.saphyr_machine.specs.Steps.Machine.{push, taken_token}
use Rattle.saphyr_machine.specs.Steps.Nodes.{node, node_content}
use Rattle.saphyr_machine.specs.Views.Machines.{machine_in}
use Rattle.saphyr_machine.proofs.Passing.{next_in, pushed, scalar_of}
use Rattle.saphyr_machine.proofs.machine.Machine.inside.Goals as goal

pub node-requires : goal.node-requires
node-requires g c =
    let next = c.requires.0 in
    let new = c.push.new.self.scanner in (
      (
        next.0,
        next.1,
        λ more. push c.args.state (next.2 more),
        λ more. ap taken_token (c.in_ok-push.ensures.moved more)
            ∙ pushed c.args.state (machine_in more c.args.self.now) (next.2 more)
            (piece_with (next.0 more) c.args.kind (next.1 more)) (next.3 more),
      ),
      subst (λ (s : State). IsReady (record { state = s; limit = new.limit; growth = new.growth; stop = new.stop }))
          (sym c.in_ok-push.ensures.state) c.requires.1,
    )

pub returns-in_default : goal.returns-in_default
returns-in_default g c more =
    let next = next_in c.args.kind c.args.self.now more c.requires in
    let t = piece_with next.0 c.args.kind next.1 in
    let took = ap taken_token (c.in_ok-push.ensures.moved more)
    ∙ pushed c.args.state (machine_in more c.args.self.now) next.2 t next.3 in
    rw next.3 (rw took at (c.node.ensures more))

pub returns : goal.returns
unfolding node node_content
returns g c more =
    let next = next_in c.args.kind c.args.self.now more c.requires in
    let t = piece_with next.0 c.args.kind next.1 in
    let is = scalar_of c.args.kind c.in-Some.style next.1 (sym c.style.ensures ∙ c.in-Some.is) in
    let span = rw next.3 at (c.span_into.ensures more) in
    let text = (rw next.3 at (c.in_ok-text.ensures.text more next.1.text)) (ap text_of is) in
    let left = rw next.3 at (c.in_ok-text.ensures.left more) in
    rw (next.3, is) (search (rules, span, text, left))

pub returns-in-Scalar-Owned-default-default-None : goal.returns-in-Scalar-Owned-default-default-None
unfolding node node_content
returns-in-Scalar-Owned-default-default-None g c more =
    let next = next_in c.args.kind c.args.self.now more c.requires in
    let is = scalar_of c.args.kind c.in-Some.style next.1 (sym c.style.ensures ∙ c.in-Some.is) in
    let span = rw next.3 at (c.span_into.ensures more) in
    let text = (rw next.3 at (c.in_ok-take_text_into.ensures.text more next.1.text)) (ap text_of is) in
    let left = rw next.3 at (c.in_ok-take_text_into.ensures.left more) in
    rw (next.3, is) (search (rules, span, text, left))
