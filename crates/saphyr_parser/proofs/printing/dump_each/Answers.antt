use Rattle.std.proofs.Common.{◌≡◌, Err, rules}
use Rattle.saphyr_parser.specs.declared.printing.fault.DumpFault.TheVariants.{Write}
use Rattle.saphyr_machine.specs.Cursor.{event_of}
use Rattle.saphyr_machine.proofs.Calls.Handing.{advances_less}
use Rattle.saphyr_parser.proofs.Printed.Dumping.{cuts_line, leaves_all, leaves_cut, prints_all, prints_more, prints_up_to_fault}
use Rattle.saphyr_parser.proofs.printing.dump_each.Goals as goal

pub loop-out-preserved : goal.loop-out-preserved
loop-out-preserved g c =
    prints_more _ _ _ _ _ _ (event_of c.next_event_into.new.next) c.loop-out.invariant c.in-Event.ensures.leaves
    c.in_ok-write_line-in-Event.ensures

pub loop-out-smaller : goal.loop-out-smaller
loop-out-smaller g c = advances_less (event_of c.next_event_into.new.next) _ _ c.in-Event.ensures.leaves

pub returns-in_err-write_line-in-Event-clause-dumps : goal.returns-in_err-write_line-in-Event-clause-dumps
returns-in_err-write_line-in-Event-clause-dumps g c =
    let known : c.from_residual.result ≡ Err Write = search rules in
    rw known (cuts_line _ _ _ _ _ _ (event_of c.next_event_into.new.next) c.loop-out.invariant c.in-Event.ensures.leaves
    c.in_err-write_line-in-Event.ensures)

pub returns-in_err-write_line-in-Event-clause-leaves : goal.returns-in_err-write_line-in-Event-clause-leaves
returns-in_err-write_line-in-Event-clause-leaves g c =
    let known : c.from_residual.result ≡ Err Write = search rules in
    rw known (leaves_cut _ _ _ _ _ _ (event_of c.next_event_into.new.next) c.loop-out.invariant
    c.in-Event.ensures.leaves c.in_err-write_line-in-Event.ensures)

pub returns-in-Fault-clause-dumps : goal.returns-in-Fault-clause-dumps
returns-in-Fault-clause-dumps g c =
    prints_up_to_fault c.next_event_into.new.fault _ _ _ _ _ c.loop-out.invariant c.in-Fault.ensures.leaves

pub returns-in-Over-clause-dumps : goal.returns-in-Over-clause-dumps
returns-in-Over-clause-dumps g c = prints_all _ _ _ _ _ c.loop-out.invariant c.in-Over.ensures.leaves

pub returns-in-Over-clause-leaves : goal.returns-in-Over-clause-leaves
returns-in-Over-clause-leaves g c =
    leaves_all _ _ _ (g.W.Write.contents c.args.out.now) (g.W.Write.contents c.loop-out.out) c.loop-out.invariant
    c.in-Over.ensures.leaves
