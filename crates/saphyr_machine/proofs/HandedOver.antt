-- What one call of `load` has handed over.
use Rattle.std.proofs.Common.{◌≡◌, ◌<◌, List, [], ◌∷◌, ◌++◌, Bool, true, false, Result, Ok, Err, Option, Some, None, refl, sym, ap, ◌∙◌, subst, append_assoc, inl, inr, arith}
use Rattle.std.specs.Prelude.{if◌then◌else◌, string_bytes}
use Rattle.std.proofs.lemmas.List.{append-nil}
use Rattle.saphyr_scalar.specs.declared.scalar.position.Span.{Span}
use Rattle.saphyr_machine.specs.declared.fault.Fault.{Fault}
use Rattle.saphyr_machine.specs.declared.fault.Fault.TheVariants as faults
use Rattle.saphyr_machine.specs.declared.receiver.Refused.{Refused}
use Rattle.saphyr_machine.specs.Events.{Happening}
use Rattle.saphyr_machine.specs.Answer as answer
use Rattle.saphyr_machine.specs.Answer.{Answer, Ending, with_first_event, fault_alone}
use Rattle.saphyr_machine.specs.Cursor.{EventCursor, Kept, IsKept, IsUnmoved, Stays, count, finished_behind, inside_behind, to_come}
use Rattle.saphyr_machine.specs.Calls.{Advances, AdvancesOver, Looks}
use Rattle.saphyr_machine.specs.Loading.{Portion, is_last, with_event, portion, portion_to_send, inside_over, finished_over, Remembered, PassedOver, Keeps, ReportsFault, Sends, SendsOne, Stopped, Lost, Finished, Faulted, Loads}
use Rattle.saphyr_machine.proofs.Calls.Handing.{advances, over_more, remembers}
use Rattle.saphyr_machine.proofs.Calls.Looking.{IsUnreported, kept_answer, looked, looked_over, looks_stays, unreported}

-- ## Lists of events

inside_more : (es : List (Happening × Span)) (e : Happening × Span) (b : Bool)
    → inside_over (es ++ (e ∷ [])) b ≡ inside_behind e.0 (inside_over es b)
inside_more [] e b = refl
inside_more (d ∷ es) e b = inside_more es e (inside_behind d.0 b)

finished_more : (es : List (Happening × Span)) (e : Happening × Span) (o : Option Span)
    → finished_over (es ++ (e ∷ [])) o ≡ finished_behind e.0 e.1 (finished_over es o)
finished_more [] e o = refl
finished_more (d ∷ es) e o = finished_more es e (finished_behind d.0 d.1 o)

remembered_more : (old mid new : EventCursor) (es : List (Happening × Span)) (e : Happening × Span)
    → Remembered old es mid
    → Remembered mid (e ∷ []) new → Remembered old (es ++ (e ∷ [])) new
remembered_more old mid new es e so next = record {
  inside = next.inside ∙ ap (inside_behind e.0) so.inside ∙ sym (inside_more es e old.inside);
  finished = next.finished ∙ ap (finished_behind e.0 e.1) so.finished ∙ sym (finished_more es e old.finished);
}

-- ## A part of which some events were handed over

abbrev pub with_events : List (Happening × Span) → Portion → Portion
with_events es p = record { sent = es ++ p.sent; fault = p.fault }

with_one_more_event : (es : List (Happening × Span)) (e : Happening × Span) (p : Portion)
    → with_events (es ++ (e ∷ [])) p ≡ with_events es (with_event e p)
with_one_more_event es e p = grind (arith, append_assoc)

abbrev pub part_of : Bool → Answer → Portion
part_of multi a = portion multi a.events a.fault

pub part_all : (es : List (Happening × Span)) (f : Option Ending) → portion true es f ≡ record { sent = es; fault = f }
part_all [] f = refl
part_all (e ∷ es) f = ap (with_event e) (part_all es f)

-- what is left of a part after its first event
abbrev pub behind_first : Bool → Happening × Span → Portion → Portion
behind_first last e p = if last then (record { sent = e ∷ []; fault = None }) else with_event e p

part_before : (multi : Bool) (e : Happening × Span) (a mid : Answer) → mid ≡ with_first_event e a
    → part_of multi mid ≡ behind_first (is_last multi e.0) e (part_of multi a)
part_before multi e a mid is = ap (part_of multi) is

first_is_sent : (last : Bool) (e : Happening × Span) (p : Portion)
    → (l : List (Happening × Span)) × ((behind_first last e p).sent ≡ e ∷ l)
first_is_sent true e p = ([], refl)
first_is_sent false e p = (p.sent, refl)

remembered_one : (mid new : EventCursor) (e : Happening × Span) → Advances e mid new → Remembered mid (e ∷ []) new
remembered_one mid new e h = let r = remembers e mid new h in record { inside = r.0; finished = r.1 }

passed_more : (old mid new : EventCursor) (es : List (Happening × Span)) (e : Happening × Span) → PassedOver old es mid
    → Advances e mid new → PassedOver old (es ++ (e ∷ [])) new
passed_more old mid new es e so step =
    let is = advances e mid new step in
    let next = remembered_one mid new e step in
    record {
      events = so.events ∙ ap (λ (a : Answer). es ++ a.events) is ∙ sym (append_assoc es (e ∷ []) (to_come new).events);
      fault = so.fault ∙ ap (λ (a : Answer). a.fault) is;
      remembered = remembered_more old mid new es e so.remembered next;
    }

unmoved_too : (old mid new : EventCursor) (es : List (Happening × Span)) → Remembered old es mid → IsUnmoved mid new
    → Remembered old es new
unmoved_too old mid new es so same = record { inside = same.0 ∙ so.inside; finished = same.1 ∙ so.finished }

passed_still : (old mid new : EventCursor) (es : List (Happening × Span)) → PassedOver old es mid
    → to_come new ≡ to_come mid
    → IsUnmoved mid new → PassedOver old es new
passed_still old mid new es so is same = grind arith

-- ## Where nothing is next but a fault or the end

settled : (new : EventCursor) (k : Kept) → new.kept ≡ Some k → new.current ≡ None → IsUnreported new.current new.kept
    → to_come new ≡ kept_answer new.kept → Keeps k.fault new × (to_come new ≡ fault_alone k.fault)
settled new k is nothing unreported left = grind arith

other : (m : _) (info : _) → (let o : Option Ending = Some (answer.Refused m info) in o) ≡ Some answer.OutOfMemory → ⊥
other m info e = cc

still_refused : (mid new : Answer) (m : _) (info : _)
    → Stays mid new → new ≡ fault_alone (answer.Refused m info) → new ≡ mid
still_refused mid new m info (inl e) is = e
still_refused mid new m info (inr (p, e)) is = absurd (other m info (ap (λ (a : Answer). a.fault) (sym is ∙ e)))

abbrev fault_of : Option Ending → Ending
fault_of None = answer.OutOfMemory
fault_of (Some f) = f

same_fault : (f g : Ending) → fault_alone f ≡ fault_alone g → f ≡ g
same_fault f g e = ap (λ (a : Answer). fault_of a.fault) e

count_part : (last : Bool) (e : Happening × Span) (p : Portion)
    → 0 < count (record { events = (behind_first last e p).sent; fault = (behind_first last e p).fault })
count_part true e p = omega arith
count_part false e p = omega arith

some_of_portion : (multi : Bool) (es : List (Happening × Span)) (f : Option Ending)
    → 0 < count (record { events = es; fault = f })
    → 0 < count (record { events = (portion multi es f).sent; fault = (portion multi es f).fault })
some_of_portion multi [] f h = h
some_of_portion multi (e ∷ es) f h = count_part (is_last multi e.0) e (portion multi es f)

module _ {R : Type 0} (receives : R → Happening × Span → Result (Unit {0}) Refused → R → Type 0) where
  one_more : (r q s : R) (es : List (Happening × Span)) (e : Happening × Span) → Sends receives r es q
      → receives q e (Ok tt) s → Sends receives r (es ++ (e ∷ [])) s
  one_more r q s [] e at taken = (s, subst (λ (x : R). receives x e (Ok tt) s) at taken, refl)
  one_more r q s (d ∷ es) e (p, first, others) taken = (p, first, one_more p q s es e others taken)

  -- some events of the part were handed over
  pub record Going (multi : Bool) (old : EventCursor) (first last : R) (new : EventCursor) : Type 0 where
    pub sent : List (Happening × Span)
    pub part : portion_to_send multi old ≡ with_events sent (portion_to_send multi new)
    pub passed : PassedOver old sent new
    pub sends : Sends receives first sent last
    pub leaves : AdvancesOver sent old new
    pub kept : new.kept ≡ None

  pub goes_on : (multi : Bool) (old mid new : EventCursor) (first last next : R) (e : Happening × Span)
      → Going multi old first last mid → Advances e mid new × (new.kept ≡ None) → is_last multi e.0 ≡ false
      → receives last e (Ok tt) next → Going multi old first next new
  goes_on multi old mid new first last next e so is more taken = record {
    sent = so.sent ++ (e ∷ []);
    part = so.part ∙ ap (with_events so.sent)
        (part_before multi e (to_come new) (to_come mid) (advances e mid new is.0)
        ∙ ap (λ (b : Bool). behind_first b e (portion_to_send multi new)) more)
        ∙ sym (with_one_more_event so.sent e (portion_to_send multi new));
    passed = passed_more old mid new so.sent e so.passed is.0;
    sends = one_more first last next so.sent e so.sends taken;
    leaves = over_more so.sent e old mid new so.leaves is.0;
    kept = is.1;
  }

  pub ends : (multi : Bool) (old mid new : EventCursor) (first last next : R) (e : Happening × Span)
      → Going multi old first last mid → Advances e mid new × (new.kept ≡ None) → is_last multi e.0 ≡ true
      → receives last e (Ok tt) next → Finished receives (portion_to_send multi old) old first next new
  ends multi old mid new first last next e so is final taken =
      let p : portion_to_send multi old ≡ with_events so.sent (record { sent = e ∷ []; fault = None }) =
      so.part ∙ ap (with_events so.sent)
      (part_before multi e (to_come new) (to_come mid) (advances e mid new is.0)
      ∙ ap (λ (b : Bool). behind_first b e (portion_to_send multi new)) final) in
      let all : (portion_to_send multi old).sent ≡ so.sent ++ (e ∷ []) = ap (λ (q : Portion). q.sent) p in
      record {
        fault = ap (λ (q : Portion). q.fault) p;
        sends = subst (λ (l : List (Happening × Span)). Sends receives first l next) (sym all)
            (one_more first last next so.sent e so.sends taken);
        passed = subst (λ (l : List (Happening × Span)). PassedOver old l new) (sym all)
            (passed_more old mid new so.sent e so.passed is.0);
        leaves = subst (λ (l : List (Happening × Span)). AdvancesOver l old new) (sym all)
            (over_more so.sent e old mid new so.leaves is.0);
        kept = is.1;
      }

  pub refuses : (multi : Bool) (old mid new : EventCursor) (first last next : R) (e : Happening × Span)
      → Going multi old first last mid → Advances e mid new × (new.kept ≡ None) → receives last e (Err (record {})) next
      → Stopped receives (portion_to_send multi old) old first next new
  refuses multi old mid new first last next e so is refused =
      let c = first_is_sent (is_last multi e.0) e (portion_to_send multi new) in
      record {
        sent = so.sent;
        event = e;
        unsent = c.0;
        middle = last;
        part = ap (λ (q : Portion). q.sent) so.part
            ∙ ap (λ (l : List (Happening × Span)). so.sent ++ l)
            (ap (λ (q : Portion). q.sent) (part_before multi e (to_come new) (to_come mid) (advances e mid new is.0))
            ∙ c.1);
        sends = so.sends;
        refused = refused;
        passed = passed_more old mid new so.sent e so.passed is.0;
        leaves = over_more so.sent e old mid new so.leaves is.0;
        kept = is.1;
      }

  pub stops : (f : Fault) (multi : Bool) (old mid new : EventCursor) (first last next : R) (e : Happening × Span)
      → Going multi old first last mid → Advances e mid new × (new.kept ≡ None) → SendsOne receives (Err f) e last next
      → Loads receives (Err f) (portion_to_send multi old) old first next new
  stops faults.Receiver multi old mid new first last next e so is h =
      refuses multi old mid new first last next e so is h
  stops (faults.Scan _) multi old mid new first last next e so is h = absurd h
  stops faults.OutOfMemory multi old mid new first last next e so is h = absurd h
  stops faults.InsideDocument multi old mid new first last next e so is h = absurd h

  all_sent : (multi : Bool) (old mid : EventCursor) (first last : R) (f : Option Ending)
      (so : Going multi old first last mid) → to_come mid ≡ record { events = []; fault = f }
      → portion_to_send multi old ≡ record { sent = so.sent; fault = f }
  all_sent multi old mid first last f so is = grind (arith, append-nil)

  finished : (multi : Bool) (old mid new : EventCursor) (first last : R) → Going multi old first last mid → new ≡ mid
      → to_come new ≡ answer.empty_answer → new.kept ≡ None
      → Finished receives (portion_to_send multi old) old first last new
  finished multi old mid new first last so same over none =
      let p = all_sent multi old mid first last None so (sym (ap to_come same) ∙ over) in
      let all : (portion_to_send multi old).sent ≡ so.sent = ap (λ (q : Portion). q.sent) p in
      record {
        fault = ap (λ (q : Portion). q.fault) p;
        sends = subst (λ (l : List (Happening × Span)). Sends receives first l last) (sym all) so.sends;
        passed = subst (λ (l : List (Happening × Span)). PassedOver old l new) (sym all)
            (subst (λ (c : EventCursor). PassedOver old so.sent c) (sym same) so.passed);
        leaves = subst (λ (l : List (Happening × Span)). AdvancesOver l old new) (sym all)
            (subst (λ (c : EventCursor). AdvancesOver so.sent old c) (sym same) so.leaves);
        kept = none;
      }

  faulted : (multi : Bool) (old mid new : EventCursor) (first last : R) (f : Ending) → Going multi old first last mid
      → Looks mid new → to_come new ≡ to_come mid → to_come new ≡ fault_alone f → IsUnmoved mid new → Keeps f new
      → Faulted receives f (portion_to_send multi old) old first last new
  faulted multi old mid new first last f so looks is over same keeps =
      let p = all_sent multi old mid first last (Some f) so (sym is ∙ over) in
      let all : (portion_to_send multi old).sent ≡ so.sent = ap (λ (q : Portion). q.sent) p in
      record {
        met = ap (λ (q : Portion). q.fault) p;
        sends = subst (λ (l : List (Happening × Span)). Sends receives first l last) (sym all) so.sends;
        passed = subst (λ (l : List (Happening × Span)). PassedOver old l new) (sym all)
            (passed_still old mid new so.sent so.passed is same);
        leaves = (mid, subst (λ (l : List (Happening × Span)). AdvancesOver l old mid) (sym all) so.leaves, looks);
        keeps = keeps;
      }

  lost : (multi : Bool) (old mid new : EventCursor) (first last : R) (f : Ending) → Going multi old first last mid
      → Looks mid new → Stays (to_come mid) (to_come new) → to_come new ≡ fault_alone f
      → IsUnmoved mid new → Keeps f new
      → Lost receives (portion_to_send multi old) old first last new
  lost multi old mid new first last f so looks u0 over same keeps =
      grind (arith, all_sent, append-nil, unmoved_too, some_of_portion, same_fault)

  lost_with : (multi : Bool) (old mid new : EventCursor) (first last : R) (k : Option Kept) → new.kept ≡ k → IsKept k
      → Going multi old first last mid → Looks mid new → new.current ≡ None
      → Lost receives (portion_to_send multi old) old first last new
  lost_with multi old mid new first last None is h so looks nothing = absurd h
  lost_with multi old mid new first last (Some k) is h so looks nothing =
      let stays = looks_stays mid new looks in
      let s = settled new k is nothing (unreported mid new so.kept looks) (looked mid new looks nothing) in
      lost multi old mid new first last k.fault so looks stays.0 s.1 stays.1 s.0

  pub over : (r : Result (Unit {0}) Fault) (multi : Bool) (old mid new : EventCursor) (first last : R)
      → Going multi old first last mid → Looks mid new × (new.current ≡ None) → ReportsFault r new.kept
      → Loads receives r (portion_to_send multi old) old first last new
  over (Ok u) multi old mid new first last so (looks, nothing) h =
      finished multi old mid new first last so (looked_over mid new looks nothing h)
      (looked mid new looks nothing ∙ ap kept_answer h) h
  over (Err (faults.Scan e)) multi old mid new first last so (looks, nothing) (given, h) =
      let stays = looks_stays mid new looks in
      let s = settled new (record { fault = answer.Refused e.mark (string_bytes e.info); given = given }) h nothing
      (unreported mid new so.kept looks) (looked mid new looks nothing) in
      faulted multi old mid new first last (answer.Refused e.mark (string_bytes e.info)) so looks
      (still_refused (to_come mid) (to_come new) e.mark (string_bytes e.info) stays.0 s.1) s.1 stays.1 s.0
  over (Err faults.OutOfMemory) multi old mid new first last so (looks, nothing) h =
      lost_with multi old mid new first last new.kept refl h so looks nothing
  over (Err faults.Receiver) multi old mid new first last so gone h = absurd h
  over (Err faults.InsideDocument) multi old mid new first last so gone h = absurd h
