use Rattle.std.proofs.Common.{◌≡◌, Bool, Err, false, true≢false, sym, ◌∙◌, rules}
use Rattle.saphyr_parser.specs.Cursor.{event_of}
use Rattle.yaml_tree.proofs.DocumentRead.{reads_nothing, reads_on, reads_end, fails_behind, refuses_behind, reads_rest}
use Rattle.yaml_tree.proofs.Leaving.{less_behind, hands_none, hands_more, leaves_all, leaves_at}
use Rattle.yaml_tree.proofs.table_loading.Grower.take_events.Goals as goal

pub events-init : goal.events-init
events-init g c = (λ limits h. reads_nothing c.args.all _ _ h, hands_none _)

pub events-preserved : goal.events-preserved
events-preserved g c = (
  λ limits h.
      let read = c.events.invariant.0 limits h in
      reads_on c.args.all _ _ _ _ (event_of c.next_event_into.new.next) read c.in-Event.ensures.hands _
      (λ off is. true≢false (sym (c.is_last.ensures.1 (off, is)) ∙ c.if-is_last.false))
      (c.in_ok-take-in-Event.ensures.takes limits read.taken read.holds),
  hands_more _ _ _ (event_of c.next_event_into.new.next) c.events.invariant.1 c.in-Event.ensures.leaves,
)

pub events-smaller : goal.events-smaller
events-smaller g c = less_behind (event_of c.next_event_into.new.next) _ _ c.in-Event.ensures.hands

pub returns-then-is_last-clause-takes : goal.returns-then-is_last-clause-takes
returns-then-is_last-clause-takes g c = λ limits h.
    let read = c.events.invariant.0 limits h in
    let last = c.is_last.ensures.0 c.if-is_last.true in
    let take = c.in_ok-take-in-Event.ensures in
    reads_end c.args.all _ _ _ _ (event_of c.next_event_into.new.next) read c.in-Event.ensures.hands _ last
    (take.takes limits read.taken read.holds, take.ends last.1)

pub returns-then-is_last-clause-leaves : goal.returns-then-is_last-clause-leaves
returns-then-is_last-clause-leaves g c = λ limits h.
    hands_more _ _ _ (event_of c.next_event_into.new.next) c.events.invariant.1 c.in-Event.ensures.leaves

pub returns-in_err-take-in-Event-clause-takes : goal.returns-in_err-take-in-Event-clause-takes
returns-in_err-take-in-Event-clause-takes g c = λ limits h.
    let read = c.events.invariant.0 limits h in
    let answer : c.from_residual.result ≡ Err c.in_err-take-in-Event.field-0.0 = search rules in
    rw answer (fails_behind c.args.all _ _ _ _ (event_of c.next_event_into.new.next) read c.in-Event.ensures.hands
    ⊥ ⊥ c.in_err-take-in-Event.field-0.0 limits (λ ill. ill) read.holds.within
    (c.in_err-take-in-Event.ensures.takes limits read.taken read.holds))

pub returns-in_err-take-in-Event-clause-leaves : goal.returns-in_err-take-in-Event-clause-leaves
returns-in_err-take-in-Event-clause-leaves g c = λ limits h.
    let read = c.events.invariant.0 limits h in
    let answer : c.from_residual.result ≡ Err c.in_err-take-in-Event.field-0.0 = search rules in
    rw answer (leaves_at ⊥ _ limits _ _ _ _ (c.in_err-take-in-Event.ensures.takes limits read.taken read.holds)
    (hands_more _ _ _ (event_of c.next_event_into.new.next) c.events.invariant.1 c.in-Event.ensures.leaves))

pub returns-in-Fault-clause-takes : goal.returns-in-Fault-clause-takes
returns-in-Fault-clause-takes g c = λ limits h.
    let read = c.events.invariant.0 limits h in
    let hands = c.in-Fault.ensures.hands in
    refuses_behind c.args.all _ c.next_event_into.new.fault limits _ _ _ read read.holds.within hands.0 hands.1

pub returns-in-Fault-clause-leaves : goal.returns-in-Fault-clause-leaves
returns-in-Fault-clause-leaves g c = λ limits h. (_, c.events.invariant.1, c.in-Fault.ensures.leaves)

pub returns-in-Over-clause-takes : goal.returns-in-Over-clause-takes
returns-in-Over-clause-takes g c = λ limits h.
    let hands = c.in-Over.ensures.hands in
    reads_rest c.args.all _ _ _ _ (c.events.invariant.0 limits h) hands.0 hands.1

pub returns-in-Over-clause-leaves : goal.returns-in-Over-clause-leaves
returns-in-Over-clause-leaves g c = λ limits h.
    let laws = c.hands_out_what_comes.ensures in
    leaves_all {X = Bool} false _ _ _ laws.events laws.over c.events.invariant.1 c.in-Over.ensures.leaves
