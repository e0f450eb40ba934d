-- The kind of the first token.
use Rattle.std.proofs.Common.{rules}
use Rattle.saphyr_scanner.proofs.QueuedPlaces.{kind_kept}
use Rattle.saphyr_scanner.proofs.FirstQueued.{first_queued, no_place}
use Rattle.saphyr_scanner.proofs.queue.Queue.peek.Goals as goal

pub returns-in_err-place-clause-kind : goal.returns-in_err-place-clause-kind
returns-in_err-place-clause-kind c =
    let none = no_place c.args.self.now c.in_err-place.ensures in
    search (rules, none)

pub returns-in-Nothing-clause-kind : goal.returns-in-Nothing-clause-kind
returns-in-Nothing-clause-kind c =
    let first = first_queued c.args.self.now c.in_ok-place.place c.in_ok-place.ensures in
    search (rules, first, kind_kept)

pub returns-in-Key-clause-kind : goal.returns-in-Key-clause-kind
returns-in-Key-clause-kind c =
    let first = first_queued c.args.self.now c.in_ok-place.place c.in_ok-place.ensures in
    search (rules, first)

pub returns-in-BlockMappingAndKey-clause-kind : goal.returns-in-BlockMappingAndKey-clause-kind
returns-in-BlockMappingAndKey-clause-kind c =
    let first = first_queued c.args.self.now c.in_ok-place.place c.in_ok-place.ensures in
    search (rules, first)

pub returns-in-FlowMappingAndKey-clause-kind : goal.returns-in-FlowMappingAndKey-clause-kind
returns-in-FlowMappingAndKey-clause-kind c =
    let first = first_queued c.args.self.now c.in_ok-place.place c.in_ok-place.ensures in
    search (rules, first)
