use Rattle.std.proofs.Common.{◌≡◌, ◌∙◌, Err, ap, false, refl, rules, sym, true≢false}
use Rattle.saphyr_machine.specs.declared.progress.Progress.{Progress}
use Rattle.saphyr_parser.specs.Calls.{item_at}
use Rattle.saphyr_parser_c.specs.declared.growing.Stop.TheVariants as stop
use Rattle.saphyr_parser_c.proofs.NextDocument.{forbids, less_behind_shown, takes_event}
use Rattle.saphyr_parser_c.proofs.inner.Inner.take_next.Goals as goal

pub returns-in_err-take-in-Event-clause-takes : goal.returns-in_err-take-in-Event-clause-takes
unfolding takes_event
returns-in_err-take-in-Event-clause-takes c = λ most es h.
    let n = c.read_ahead.new.self in
    let reads = c.in_ok-read_ahead.ensures.reads in
    let answer : c.from_residual-in_err-take-in-Event.result ≡ Err (stop.Fault c.in_err-take-in-Event.field-0.0) =
    search rules in
    rw answer (forbids c.in_err-take-in-Event.field-0.0 most es c.args.self.now (record n { shown = false }) _ _
    (takes_event c.args.self.now n (record n { shown = false }) refl refl c.in_ok-read_ahead.ensures.place reads.2
    reads.1 c.in-Event.is)
    (c.in_err-take-in-Event.ensures.takes most es h))

pub returns-then-ends_document-clause-takes : goal.returns-then-ends_document-clause-takes
unfolding takes_event
returns-then-ends_document-clause-takes c = λ most es h.
    let n = c.read_ahead.new.self in
    let reads = c.in_ok-read_ahead.ensures.reads in
    let is = c.ends_document.ensures.0 c.if-ends_document.true in (
      takes_event c.args.self.now n (record n { shown = false }) refl refl c.in_ok-read_ahead.ensures.place reads.2
          reads.1 c.in-Event.is,
      c.in_ok-take-in-Event.ensures.takes most es h,
      is,
      c.in_ok-take-in-Event.ensures.ends is,
    )

pub returns-else-ends_document-clause-takes : goal.returns-else-ends_document-clause-takes
unfolding takes_event
returns-else-ends_document-clause-takes c = λ most es h.
    let n = c.read_ahead.new.self in
    let reads = c.in_ok-read_ahead.ensures.reads in (
      takes_event c.args.self.now n (record n { shown = false }) refl refl c.in_ok-read_ahead.ensures.place reads.2
          reads.1 c.in-Event.is,
      c.in_ok-take-in-Event.ensures.takes most es h,
      λ is. true≢false (sym (c.ends_document.ensures.1 is) ∙ c.if-ends_document.false),
    )

pub returns-else-ends_document-clause-less : goal.returns-else-ends_document-clause-less
returns-else-ends_document-clause-less c = λ none.
    let n = c.read_ahead.new.self in
    let reads = c.in_ok-read_ahead.ensures.reads in
    less_behind_shown c.args.self.now n n.next c.hands_out_what_comes.ensures.events reads.0
    c.in_ok-read_ahead.ensures.stays.text reads.2 reads.1
    (ap (λ (p : Progress). item_at n.next n.fault p) c.in-Event.is) c.in_ok-read_ahead.ensures.place
