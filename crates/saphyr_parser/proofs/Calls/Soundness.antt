-- What holds of each parser: at its start, and after each call.
use Rattle.std.proofs.Common.{◌≡◌, Bool, List, [], ◌∷◌, Option, Some, None, Result, Ok, Err, refl, sym, ap, subst, arith}
use Rattle.std.specs.Borrow.{Bor}
use Rattle.saphyr_scalar.specs.declared.scalar.position.Span.{Span}
use Rattle.saphyr_machine.specs.declared.event.Event.{Event}
use Rattle.saphyr_machine.specs.declared.fault.Fault.{Fault}
use Rattle.saphyr_machine.specs.declared.fault.Fault.TheVariants as fault
use Rattle.saphyr_machine.specs.declared.state.State.{State}
use Rattle.saphyr_machine.specs.declared.state.State.TheVariants as state
use Rattle.saphyr_machine.specs.Events.{Happening, StreamEnd}
use Rattle.saphyr_machine.specs.Steps.Machine.{Machine}
use Rattle.saphyr_machine.specs.Answer as answer
use Rattle.saphyr_machine.specs.Answer.{Answer, Ending, empty_answer, remaining_answer}
use Rattle.saphyr_machine.specs.Cursor.{EventCursor, IsUnmoved, Kept, Refuses, Remembers, event_of, finished_behind}
use Rattle.saphyr_machine.specs.Calls.{Advances, AdvancesOver, EndsTheStream, EndsEvents, FailsWith, GivesNext, HasFinished, IsShown, IsSound, LeavesEnd, Looks, Peeks, ReadsAhead, given_fault}
use Rattle.saphyr_machine.proofs.Unroll.{over}
use Rattle.saphyr_machine.proofs.Calls.Handing.{goes_on, remembers}
use Rattle.saphyr_machine.proofs.Calls.Looking.{looks_stays, shows_head}
use Rattle.event_laws.proofs.Placeless.{closes}

-- ## After an event

abbrev IfEnd : Happening → Type 0 → Type 0
IfEnd StreamEnd P = P
IfEnd _ P = Unit {0}

if_end : (what : Happening) (P : Type 0) (s : State) → LeavesEnd what s → (s ≡ state.End → P) → IfEnd what P
if_end StreamEnd P s h go = go h
if_end _ P s h go = tt

finished_after : (what : Happening) (span : Span) (f : Option Span) (c : EventCursor)
    → IfEnd what ((c.current ≡ None) × (c.kept ≡ None) × (c.machine.state ≡ state.End)) → HasFinished f c
    → HasFinished (finished_behind what span f) c
finished_after StreamEnd span f c h k = h
finished_after _ span f c h k = k

-- where the stream's end was handed out no event is next, read ahead or not
none_ahead : (f : Option Span) (next : Happening × Span) (k l : Option Kept) (m n : Machine) (i j : Bool)
    (s t : Option Span) (d : Option (Happening × Span))
    → HasFinished f (record { current = Some next; kept = k; machine = m; inside = i; finished = s })
    → HasFinished f (record { current = d; kept = l; machine = n; inside = j; finished = t })
none_ahead None next k l m n i j s t d h = tt
none_ahead (Some span) next k l m n i j s t d (differ, free, last) = absurd (cc)

none_kept : (f : Option Span) (x : Kept) (c d : Option (Happening × Span)) (l : Option Kept) (m n : Machine)
    (i j : Bool) (s t : Option Span)
    → HasFinished f (record { current = c; kept = Some x; machine = m; inside = i; finished = s })
    → HasFinished f (record { current = d; kept = l; machine = n; inside = j; finished = t })
none_kept None x c d l m n i j s t h = tt
none_kept (Some span) x c d l m n i j s t (first, differ, last) = absurd (cc)

-- nor does the machine go on
none_read : (f : Option Span) (c d : Option (Happening × Span)) (k l : Option Kept) (m n : Machine) (i j : Bool)
    (s t : Option Span) → (m.state ≡ state.End → ⊥)
    → HasFinished f (record { current = c; kept = k; machine = m; inside = i; finished = s })
    → HasFinished f (record { current = d; kept = l; machine = n; inside = j; finished = t })
none_read None c d k l m n i j s t on h = tt
none_read (Some span) c d k l m n i j s t on h = absurd (on h.2)

abbrev cursor_of_parts : Option (Happening × Span) → Option Kept → Machine → Bool → Option Span → EventCursor
cursor_of_parts c k m i f = record { current = c; kept = k; machine = m; inside = i; finished = f }

advancing : (c : Option (Happening × Span)) (k : Option Kept) (m : Machine) (i : Bool) (f : Option Span)
    (e : Happening × Span) (new : EventCursor) → Advances e (cursor_of_parts c k m i f) new
    → IsSound (cursor_of_parts c k m i f)
    → IsSound new
advancing (Some next) None m i f e new (is, left) s =
    let closed : LeavesEnd e.0 m.state = subst (λ (x : Happening × Span). LeavesEnd x.0 m.state) is s.ahead in
    subst IsSound (sym left) (record {
      ahead = tt;
      finished = finished_after e.0 e.1 f _ (if_end e.0 _ m.state closed (λ over. (refl, refl, over)))
          (none_ahead f next None None m m i _ f _ None s.finished);
    })
advancing (Some next) (Some k) m i f e new h s = absurd s.ahead
advancing None (Some k) m i f e new h s = absurd h
advancing None None m i f e new (moved, left) s =
    subst IsSound (sym left) (record {
      ahead = tt;
      finished = finished_after e.0 e.1 f _
          (if_end e.0 _ new.machine.state (closes m _ moved) (λ over. (refl, refl, over)))
          (none_read f None None None None m new.machine i _ f _ (goes_on m _ moved) s.finished);
    })

pub sound_advances : (e : Happening × Span) (old new : EventCursor) → Advances e old new → IsSound old → IsSound new
sound_advances e old new h s = advancing old.current old.kept old.machine old.inside old.finished e new h s

pub sound_over : (es : List (Happening × Span)) (old new : EventCursor) → AdvancesOver es old new → IsSound old
    → IsSound new
sound_over [] old new same s = subst IsSound (sym same) s
sound_over (e ∷ es) old new (middle, first, others) s =
    sound_over es middle new others (sound_advances e old middle first s)

-- ## After a fault

not_none : (f : Fault) → Refuses f empty_answer → ⊥
not_none (fault.Scan e) h =
    let differ : (let o : Option Ending = None in o) ≡ Some _ = ap (λ (a : Answer). a.fault) h in absurd (cc)
not_none fault.OutOfMemory h = omega (arith, h)
not_none fault.Receiver h = h
not_none fault.InsideDocument h = h

not_over : (f : Fault) (m : Machine) → Refuses f (remaining_answer m) → m.state ≡ state.End → ⊥
not_over f m h done = not_none f (subst (Refuses f) (over m done) h)

failing : (c : Option (Happening × Span)) (k : Option Kept) (m : Machine) (i : Bool) (s : Option Span) (f : Fault)
    (new : EventCursor) → FailsWith f (cursor_of_parts c k m i s) new → IsSound (cursor_of_parts c k m i s)
    → IsSound new
failing (Some next) k m i s f new h sound = absurd h
failing None (Some kept) m i s f new (fresh, same, left) sound =
    subst IsSound (sym left)
    (record { ahead = tt; finished = none_kept s kept None None (given_fault f) m m i i s s sound.finished })
failing None None m i s f new (refuses, left) sound =
    subst IsSound (sym left)
    (record {
      ahead = tt;
      finished = none_read s None None None (given_fault f) m new.machine i i s s (not_over f m refuses) sound.finished;
    })

pub sound_fails : (f : Fault) (old new : EventCursor) → FailsWith f old new → IsSound old → IsSound new
sound_fails f old new h s = failing old.current old.kept old.machine old.inside old.finished f new h s

pub sound_gives : (r : Option (Result (Event × Span) Fault)) (old new : EventCursor) → GivesNext r old new → IsSound old
    → IsSound new
sound_gives None old new (done, same) s = subst IsSound (sym same) s
sound_gives (Some (Ok e)) old new h s = sound_advances (event_of e) old new h s
sound_gives (Some (Err f)) old new h s = sound_fails f old new h s

failing_unmoved : (c : Option (Happening × Span)) (k : Option Kept) (m : Machine) (i : Bool) (s : Option Span)
    (f : Fault) (new : EventCursor) → FailsWith f (cursor_of_parts c k m i s) new
    → IsUnmoved (cursor_of_parts c k m i s) new
failing_unmoved (Some next) k m i s f new h = absurd h
failing_unmoved None (Some kept) m i s f new (fresh, same, left) =
    (ap (λ (c : EventCursor). c.inside) left, ap (λ (c : EventCursor). c.finished) left)
failing_unmoved None None m i s f new (refuses, left) =
    (ap (λ (c : EventCursor). c.inside) left, ap (λ (c : EventCursor). c.finished) left)

pub gives_remembers : (r : Option (Result (Event × Span) Fault)) (old new : EventCursor) → GivesNext r old new
    → Remembers r old new
gives_remembers None old new (done, same) =
    (ap (λ (c : EventCursor). c.inside) same, ap (λ (c : EventCursor). c.finished) same)
gives_remembers (Some (Ok e)) old new h = remembers (event_of e) old new h
gives_remembers (Some (Err f)) old new h =
    failing_unmoved old.current old.kept old.machine old.inside old.finished f new h

-- ## After a look

no_end : (f : Ending) → EndsEvents f empty_answer → ⊥
no_end (answer.Refused mark text) h =
    let differ : (let o : Option Ending = None in o) ≡ Some _ = ap (λ (a : Answer). a.fault) h in absurd (cc)
no_end answer.OutOfMemory h = omega (arith, h)

ahead_sound : (d : Option (Happening × Span)) (l : Option Kept) (m : Machine) (i : Bool) (s : Option Span)
    (new : EventCursor) → ReadsAhead d l (cursor_of_parts None None m i s) new
    → IsSound (cursor_of_parts None None m i s) → IsSound new
ahead_sound (Some e) (Some k) m i s new h sound = absurd h
ahead_sound (Some e) None m i s new (moved, left) sound =
    subst IsSound (sym left)
    (record {
      ahead = closes m _ moved;
      finished = none_read s None (Some e) None None m new.machine i i s s (goes_on m _ moved) sound.finished;
    })
ahead_sound None (Some k) m i s new (fresh, ends, left) sound =
    subst IsSound (sym left)
    (record {
      ahead = tt;
      finished =
          none_read s None None None (Some k) m new.machine i i s s
          (λ done. no_end k.fault (subst (EndsEvents k.fault) (over m done) ends)) sound.finished;
    })
ahead_sound None None m i s new (done, same) sound = subst IsSound (sym same) sound

looking : (c : Option (Happening × Span)) (k : Option Kept) (m : Machine) (i : Bool) (s : Option Span)
    (new : EventCursor)
    → Looks (cursor_of_parts c k m i s) new → IsSound (cursor_of_parts c k m i s) → IsSound new
looking (Some next) k m i s new same sound = subst IsSound (sym same) sound
looking None (Some k) m i s new same sound = subst IsSound (sym same) sound
looking None None m i s new h sound = ahead_sound new.current new.kept m i s new h sound

pub sound_looks : (old new : EventCursor) → Looks old new → IsSound old → IsSound new
sound_looks old new h s = looking old.current old.kept old.machine old.inside old.finished new h s

-- ## The end of the stream

pub ends_stream : (c : EventCursor) → IsSound c → EndsTheStream c
ends_stream c s = λ span is keep.
    let over_now : HasFinished (Some span) c = subst (λ (f : Option Span). HasFinished f c) is s.finished in
    rw (over_now.0, over_now.1) (over _ over_now.2)

pub peeks : (old new : EventCursor) (r : Option (Result (Bor (Event × Span)) (Bor Fault))) → IsSound old → Looks old new
    → IsShown r new → Peeks old r new
peeks old new r s looks shows =
    let stays = looks_stays old new looks in
    record {
      looks = looks;
      shows = shows;
      stays = stays.0;
      head = shows_head r old new looks shows;
      same = stays.1;
      over = ends_stream new (sound_looks old new looks s);
    }
