use Rattle.std.proofs.Common.{◌≡◌, ◌∙◌, Err, rules, sym}
use Rattle.saphyr_machine.specs.Cursor.{event_of}
use Rattle.saphyr_machine.specs.Views.Readers.{cursor}
use Rattle.saphyr_machine.proofs.Calls.Handing.{advances_less}
use Rattle.saphyr_machine.proofs.HandedOver.{goes_on, ends, stops, over}
use Rattle.saphyr_machine.proofs.reader.EventReader.load_part.Goals as goal

pub loop-event-preserved : goal.loop-event-preserved
loop-event-preserved g c =
    goes_on g.R.SpannedEventReceiver.receives c.args.multi (cursor c.args.self.now) (cursor c.loop-event.self)
    (cursor c.pass.new.self) c.args.recv.now c.loop-event.recv c.send.new.recv
    (event_of (c.in-Some.event, c.in-Some.span)) c.loop-event.invariant c.in-Some.ensures
    (sym c.is_last-last.ensures ∙ c.if-last.false) c.in_ok-send.ensures

pub returns-then-last : goal.returns-then-last
returns-then-last g c =
    ends g.R.SpannedEventReceiver.receives c.args.multi (cursor c.args.self.now) (cursor c.loop-event.self)
    (cursor c.pass.new.self) c.args.recv.now c.loop-event.recv c.send.new.recv
    (event_of (c.in-Some.event, c.in-Some.span)) c.loop-event.invariant c.in-Some.ensures
    (sym c.is_last-last.ensures ∙ c.if-last.true) c.in_ok-send.ensures

pub returns-in_err-send : goal.returns-in_err-send
returns-in_err-send g c =
    let known : c.from_residual.result ≡ Err c.in_err-send.field-0.0 = search rules in
    rw known (stops g.R.SpannedEventReceiver.receives c.in_err-send.field-0.0 c.args.multi (cursor c.args.self.now)
    (cursor c.loop-event.self) (cursor c.pass.new.self) c.args.recv.now c.loop-event.recv c.send.new.recv
    (event_of (c.in-Some.event, c.in-Some.span)) c.loop-event.invariant c.in-Some.ensures c.in_err-send.ensures)

pub returns : goal.returns
returns g c =
    over g.R.SpannedEventReceiver.receives c.report_fault.result c.args.multi (cursor c.args.self.now)
    (cursor c.loop-event.self) (cursor c.pass.new.self) c.args.recv.now c.loop-event.recv c.loop-event.invariant
    c.in_default.ensures c.report_fault.ensures

pub loop-event-smaller : goal.loop-event-smaller
loop-event-smaller g c =
    advances_less (event_of (c.in-Some.event, c.in-Some.span)) (cursor c.loop-event.self) (cursor c.pass.new.self)
    c.in-Some.ensures.0
