-- What `next_event` hands out is the head of the events that are still to come.
use Rattle.std.proofs.Common.{◌≡◌, ◌≢◌, ◌<◌, Bool, true, List, [], ◌∷◌, ◌++◌, Option, Result, Ok, refl, sym, ap, ◌∙◌, subst, arith}
use Rattle.std.specs.Prelude.{if◌then◌else◌}
use Rattle.saphyr_scalar.specs.declared.scalar.position.Span.{Span}
use Rattle.saphyr_scalar.specs.declared.scalar.fault.Refusal.{Refusal}
use Rattle.saphyr_machine.specs.declared.event.Event.{Event}
use Rattle.saphyr_machine.specs.declared.fault.Fault.{Fault}
use Rattle.saphyr_machine.specs.declared.state.State.TheVariants as state
use Rattle.saphyr_machine.specs.Events.{Happening}
use Rattle.saphyr_machine.specs.Steps.Machine.{Machine, Emitted, emit}
use Rattle.saphyr_machine.specs.Steps.Expected.{event_step, event_step_at}
use Rattle.saphyr_machine.specs.Answer.{Answer, Ending, empty_answer, fault_alone, with_first_event, answer_of_step, remaining_answer}
use Rattle.saphyr_machine.specs.Cursor.{EventCursor, Kept, HandsOutNext, Refuses, count, finished_behind, inside_behind, to_come}
use Rattle.saphyr_machine.specs.Calls.{Advances, AdvancesFrom, AdvancesOver, FailsWith, IsOver, IsOverFrom, GivesNext}
use Rattle.saphyr_machine.proofs.Unroll.{unroll, over}

-- a machine that makes a step isn't at its end
pub goes_on : (m : Machine) (x : Emitted) → event_step m ≡ Ok x → m.state ≢ state.End
unfolding event_step
goes_on m x e h = let r : event_step_at state.End m ≡ Ok x = subst (λ s. event_step_at s m ≡ Ok x) h e in absurd (cc)

pub moves : (m n : Machine) (e : Happening × Span) → event_step m ≡ emit e.0 e.1 n
    → remaining_answer m ≡ with_first_event e (remaining_answer n)
moves m n e is = unroll m (goes_on m _ is) ∙ ap (λ (r : Result Emitted Refusal). answer_of_step r remaining_answer) is

-- ## An event

advanced : (c : Option (Happening × Span)) (k : Option Kept) (m : Machine) (i : Bool) (f : Option Span)
    (e : Happening × Span) (new : EventCursor)
    → Advances e (record { current = c; kept = k; machine = m; inside = i; finished = f }) new
    → to_come (record { current = c; kept = k; machine = m; inside = i; finished = f })
    ≡ with_first_event e (to_come new)
advanced u0 k m i f e new u1 = grind (arith, moves)

pub advances : (e : Happening × Span) (old new : EventCursor) → Advances e old new
    → to_come old ≡ with_first_event e (to_come new)
advances e old new h = advanced old.current old.kept old.machine old.inside old.finished e new h

remembering : (c : Option (Happening × Span)) (k : Option Kept) (e : Happening × Span) (old new : EventCursor)
    → AdvancesFrom c k e old new
    → (new.inside ≡ inside_behind e.0 old.inside) × (new.finished ≡ finished_behind e.0 e.1 old.finished)
remembering u0 k e old new u1 = grind arith

pub remembers : (e : Happening × Span) (old new : EventCursor) → Advances e old new
    → (new.inside ≡ inside_behind e.0 old.inside) × (new.finished ≡ finished_behind e.0 e.1 old.finished)
remembers e old new h = remembering old.current old.kept e old new h

keeping : (c : Option (Happening × Span)) (k : Option Kept) (e : Happening × Span) (old new : EventCursor)
    → AdvancesFrom c k e old new → new.kept ≡ old.kept
keeping u0 k e old new u1 = grind arith

-- what was kept stays so
pub keeps : (e : Happening × Span) (old new : EventCursor) → Advances e old new → new.kept ≡ old.kept
keeps e old new h = keeping old.current old.kept e old new h

-- less is left
pub advances_less : (e : Happening × Span) (old new : EventCursor) → Advances e old new
    → count (to_come new) < count (to_come old)
advances_less e old new h = rw (advances e old new h) (omega arith)

-- ## Events, one after the other

pub over_more : (es : List (Happening × Span)) (e : Happening × Span) (old middle new : EventCursor)
    → AdvancesOver es old middle → Advances e middle new → AdvancesOver (es ++ (e ∷ [])) old new
over_more [] e old middle new is next = (new, subst (λ (c : EventCursor). Advances e c new) is next, refl)
over_more (d ∷ es) e old middle new (q, first, others) next = (q, first, over_more es e q middle new others next)

pub over_splits : (es : List (Happening × Span)) (old new : EventCursor) → AdvancesOver es old new
    → ((to_come old).events ≡ es ++ (to_come new).events) × ((to_come old).fault ≡ (to_come new).fault)
over_splits [] old new same =
    (ap (λ (c : EventCursor). (to_come c).events) (sym same), ap (λ (c : EventCursor). (to_come c).fault) (sym same))
over_splits (e ∷ es) old new (middle, first, others) =
    let is = advances e old middle first in
    let more = over_splits es middle new others in (
      ap (λ (a : Answer). a.events) is
          ∙ ap (λ (l : List (Happening × Span)). e ∷ l) more.0,
      ap (λ (a : Answer). a.fault) is ∙ more.1,
    )

-- ## The fault that ends the events

was_given : (g : Bool) (kept : Ending) → g ≡ true → (if g then empty_answer else fault_alone kept) ≡ empty_answer
was_given g kept e = rw e refl

failing : (c : Option (Happening × Span)) (k : Option Kept) (m : Machine) (i : Bool) (s : Option Span) (f : Fault)
    (new : EventCursor)
    → FailsWith f (record { current = c; kept = k; machine = m; inside = i; finished = s }) new
    → Refuses f (to_come (record { current = c; kept = k; machine = m; inside = i; finished = s }))
    × (to_come new ≡ empty_answer)
failing u0 k m i s f new h = grind arith

pub fails : (f : Fault) (old new : EventCursor) → FailsWith f old new
    → Refuses f (to_come old) × (to_come new ≡ empty_answer)
fails f old new h = failing old.current old.kept old.machine old.inside old.finished f new h

-- ## The end

over_has_none : (c : Option (Happening × Span)) (k : Option Kept) (m : Machine) (i : Bool) (s : Option Span)
    → IsOverFrom c k m → to_come (record { current = c; kept = k; machine = m; inside = i; finished = s })
    ≡ empty_answer
over_has_none u0 k m i s h = grind (arith, was_given, over)

pub nothing_left : (c : EventCursor) → IsOver c → to_come c ≡ empty_answer
nothing_left c h = over_has_none c.current c.kept c.machine c.inside c.finished h

-- ## Each answer of a call

pub gives_hands : (r : Option (Result (Event × Span) Fault)) (old new : EventCursor) → GivesNext r old new
    → HandsOutNext r (to_come old) (to_come new)
gives_hands u0 old new u1 = grind (arith, nothing_left, advances, fails)
