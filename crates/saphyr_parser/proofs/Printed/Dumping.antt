-- Printing event after event.
use Rattle.std.proofs.Common.{◌≡◌, ℕ, List, [], ◌∷◌, ◌++◌, Option, Ok, Err, refl, sym, ap, ◌∙◌, subst, append_assoc, append-nil}
use Rattle.std.specs.Io.KnownBytes.{Appends}
use Rattle.std.proofs.KnownBytes.{Appends-trans, Appends-nil}
use Rattle.saphyr_scalar.specs.declared.scalar.position.Span.{Span}
use Rattle.saphyr_machine.specs.declared.fault.Fault.{Fault}
use Rattle.saphyr_machine.specs.declared.fault.Fault.TheVariants as fault
use Rattle.saphyr_parser.specs.declared.printing.fault.DumpFault.TheVariants as dump
use Rattle.saphyr_machine.specs.Events.{Happening}
use Rattle.saphyr_machine.specs.Answer.{Answer, empty_answer}
use Rattle.saphyr_machine.specs.Cursor.{EventCursor, Refuses, to_come}
use Rattle.saphyr_machine.specs.Calls.{Advances, AdvancesOver, FailsWith, IsOver}
use Rattle.saphyr_parser.specs.Written.{TakesSome}
use Rattle.saphyr_parser.specs.Printed.{printed_line, printed_lines}
use Rattle.saphyr_parser.specs.Dumps.{Prints, Cuts, Dumps, PrintsUpTo, CutsAt, Leaves}
use Rattle.saphyr_machine.proofs.Calls.Handing.{advances, fails, nothing_left, over_more, over_splits}

pub lines-append : (es fs : List (Happening × Span)) → printed_lines (es ++ fs) ≡ printed_lines es ++ printed_lines fs
lines-append [] fs = refl
lines-append (e ∷ es) fs =
    ap (λ l. printed_line e.0 ++ l) (lines-append es fs)
    ∙ sym (append_assoc (printed_line e.0) (printed_lines es) (printed_lines fs))

lines_push : (es : List (Happening × Span)) (e : Happening × Span)
    → printed_lines (es ++ (e ∷ [])) ≡ printed_lines es ++ printed_line e.0
lines_push es e = lines-append es (e ∷ []) ∙ ap (λ l. printed_lines es ++ l) (append-nil (printed_line e.0))

pub prints_none : (c : EventCursor) (old : Option (List ℕ)) → PrintsUpTo c c old old
prints_none c old = record { printed = []; over = refl; taken = Appends-nil old }

pub prints_more : (a b c : EventCursor) (old mid new : Option (List ℕ)) (e : Happening × Span) → PrintsUpTo a b old mid
    → Advances e b c → Appends mid new (printed_line e.0) → PrintsUpTo a c old new
prints_more a b c old mid new e p h q = record {
  printed = p.printed ++ (e ∷ []);
  over = over_more p.printed e a b c p.over h;
  taken = rw (lines_push p.printed e) (Appends-trans old mid new _ _ p.taken q);
}

-- the events that were passed come before those that are left
prints_of : (a b : EventCursor) (old new : Option (List ℕ)) → PrintsUpTo a b old new
    → Prints (to_come a) (to_come b) old new
prints_of a b old new p =
    let split = over_splits p.printed a b p.over in
    record { printed = p.printed; split = split.0; fault = split.1; taken = p.taken }

-- nothing is left
all_printed : (a b : Answer) (old new : Option (List ℕ)) → Prints a b old new → b.events ≡ []
    → Appends old new (printed_lines a.events)
all_printed a b old new p h = let e = p.split ∙ ap (λ l. p.printed ++ l) h ∙ append-nil p.printed in rw e p.taken

pub prints_all : (a b c : EventCursor) (old new : Option (List ℕ)) → PrintsUpTo a b old new → IsOver b × (c ≡ b)
    → Dumps (Ok tt) (to_come a) (to_come c) old new
prints_all a b c old new p (over, same) =
    let q = prints_of a b old new p in
    let h = nothing_left b over in (
      q.fault ∙ ap (λ (x : Answer). x.fault) h,
      all_printed (to_come a) (to_come b) old new q
          (ap (λ (x : Answer). x.events) h),
      ap to_come same ∙ h,
    )

pub leaves_all : (a b c : EventCursor) (old new : Option (List ℕ)) → PrintsUpTo a b old new → IsOver b × (c ≡ b)
    → Leaves (Ok tt) a c old new
leaves_all a b c old new p (over, same) =
    let split = over_splits p.printed a b p.over in
    let all : (to_come a).events ≡ p.printed = split.0 ∙ ap (λ (x : Answer). p.printed ++ x.events)
    (nothing_left b over) ∙ append-nil p.printed in
    subst (λ (x : EventCursor). AdvancesOver (to_come a).events a x × IsOver x) (sym same)
    (subst (λ (l : List (Happening × Span)). AdvancesOver l a b) (sym all) p.over, over)

fails_at : (f : Fault) (a b c : Answer) (old new : Option (List ℕ)) → Prints a b old new → Refuses f b
    → c ≡ empty_answer
    → Dumps (Err (dump.Parse f)) a c old new
fails_at (fault.Scan e) a b c old new p h k =
    (p.fault ∙ ap (λ (x : Answer). x.fault) h, all_printed a b old new p (ap (λ (x : Answer). x.events) h), k)
fails_at fault.OutOfMemory a b c old new p h k = ((b, p, h), k)
fails_at fault.Receiver a b c old new p h k = h
fails_at fault.InsideDocument a b c old new p h k = h

pub prints_up_to_fault : (f : Fault) (a b c : EventCursor) (old new : Option (List ℕ)) → PrintsUpTo a b old new
    → FailsWith f b c
    → Dumps (Err (dump.Parse f)) (to_come a) (to_come c) old new
prints_up_to_fault f a b c old new p h =
    let failed = fails f b c h in
    fails_at f (to_come a) (to_come b) (to_come c) old new (prints_of a b old new p) failed.0 failed.1

pub cuts_line : (a b c : EventCursor) (old mid new : Option (List ℕ)) (e : Happening × Span) → PrintsUpTo a b old mid
    → Advances e b c → TakesSome mid new (printed_line e.0) → Cuts (to_come a) (to_come c) old new
cuts_line a b c old mid new e p h q =
    let split = over_splits p.printed a b p.over in
    let next = advances e b c h in
    record {
      printed = p.printed;
      event = e;
      split = split.0 ∙ ap (λ (x : Answer). p.printed ++ x.events) next;
      fault = split.1 ∙ ap (λ (x : Answer). x.fault) next;
      front = q.front;
      back = q.back;
      cut = q.split;
      missing = q.missing;
      taken = Appends-trans old mid new _ _ p.taken q.taken;
    }

pub leaves_cut : (a b c : EventCursor) (old mid new : Option (List ℕ)) (e : Happening × Span) → PrintsUpTo a b old mid
    → Advances e b c → TakesSome mid new (printed_line e.0) → CutsAt a c old new
leaves_cut a b c old mid new e p h q =
    record { middle = b; written = mid; prints = p; event = e; advances = h; cut = q }
