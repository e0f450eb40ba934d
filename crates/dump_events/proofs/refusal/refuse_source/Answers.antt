use Rattle.std.proofs.Common.{◌++◌, codes}
use Rattle.saphyr_parser.proofs.Printed.Written.{begins_longer, begins_behind}
use Rattle.dump_events.proofs.refusal.refuse_source.Goals as goal

pub returns-then-not-writes-clause-says : goal.returns-then-not-writes-clause-says
returns-then-not-writes-clause-says g c = begins_longer _ _ (codes "dump_events: can't read ")
    (c.args.name.now ++ codes "\n") c.writes.ensures.beginning

pub returns-then-writes-clause-says : goal.returns-then-writes-clause-says
returns-then-writes-clause-says g c =
    let name = c.args.name.now in
    begins_behind _ _ _ (codes "dump_events: can't read ") (name ++ codes "\n")
    (c.writes.ensures.all c.if-not-writes.false)
    (begins_behind _ _ _ name (codes "\n") (c.writes-2.ensures.all c.if-writes.true)
    c.writes-then-writes.ensures.beginning)

pub returns-else-writes-clause-says : goal.returns-else-writes-clause-says
returns-else-writes-clause-says g c =
    let name = c.args.name.now in
    begins_behind _ _ _ (codes "dump_events: can't read ") (name ++ codes "\n")
    (c.writes.ensures.all c.if-not-writes.false)
    (begins_longer _ _ name (codes "\n") c.writes-2.ensures.beginning)
