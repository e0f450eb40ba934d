-- What is handed out or shown of what is kept, wherever its texts are.
use Rattle.std.proofs.Common.{◌≡◌, ◌∙◌, ℕ, Bool, true, false, List, Option, None, Some, Result, Ok, Err, ◌++◌, ap, sym, subst, refl, true≢false}
use Rattle.std.specs.Prelude.{string_bytes}
use Rattle.std.specs.Str.{chars}
use Rattle.std.specs.declared.boxed.Box.{Box}
use Rattle.std.specs.Global.{Global}
use Rattle.saphyr_scalar.specs.declared.scalar.position.Marker.{Marker}
use Rattle.saphyr_scalar.specs.declared.scalar.position.Span.{Span}
use Rattle.saphyr_parser.specs.Types.Event.{Event}
use Rattle.saphyr_parser.specs.Types.Fault.{Fault}
use Rattle.saphyr_parser.specs.Types.Fault.TheVariants as fault
use Rattle.saphyr_machine.specs.declared.progress.Progress.{Progress}
use Rattle.saphyr_machine.specs.declared.progress.Progress.TheVariants as progress
use Rattle.saphyr_parser.specs.Answer.{Answer, Ending, Refused, fault_alone, remaining_answer}
use Rattle.saphyr_parser.specs.Events.{Happening}
use Rattle.saphyr_parser.specs.Calls.{Advances, FailsFrom, GivesNext, IsReportedAs, given_fault, item_at}
use Rattle.saphyr_parser.specs.Cursor.{EventCursor, Kept, Refuses, ending_of_fault}
use Rattle.saphyr_pieces.specs.Pieces.{FaultIsLast, HandsOutOrWaits, at}
use Rattle.saphyr_parser_c.specs.declared.coming.Coming.{Coming}
use Rattle.saphyr_parser_c.specs.declared.inner.Inner.{Inner}
use Rattle.saphyr_parser_c.specs.declared.shown.CEvent.{CEvent}
use Rattle.saphyr_parser_c.specs.declared.source.Source.{Source}
use Rattle.saphyr_parser_c.specs.declared.source.Source.TheVariants as source
use Rattle.saphyr_parser_c.specs.declared.status.Status.{Status}
use Rattle.saphyr_parser_c.specs.declared.status.Status.TheVariants as status
use Rattle.saphyr_parser_c.specs.Coming.{GoesBehind, KeepsRest, WritesWaiting, at_bytes, end_of_last}
use Rattle.saphyr_parser_c.specs.Inner.{EndsAtFault, HandsFrom, HandsOfComing, HandsOfPieces, HandsToC, IsAt, IsAtFrom, IsSameItem, MovesLastEnd, MovesLastEndFrom, ShowsFrom, ShowsOfComing, ShowsOfPieces, ShowsToC, WritesKept, Waits, WaitsForMore, handed}
use Rattle.saphyr_parser_c.specs.Same.{IsSameFault}
use Rattle.saphyr_parser_c.specs.Shown.{HasFields, WritesC, no_fields}
use Rattle.saphyr_parser_c.specs.Status.{IsStatusOfRefusal}

abbrev Item : Type 0
Item = Option (Result (Event × Span) Fault)

-- ## The same fault

ending_same : (f g : Fault) → IsSameFault f g → ending_of_fault f ≡ ending_of_fault g
ending_same (fault.Scan e) (fault.Scan h) (mark, info) =
    ap (λ (m : Marker). Refused m (string_bytes e.info)) (sym mark)
    ∙ ap (λ (bytes : List ℕ). Refused h.mark bytes) (sym info)
ending_same (fault.Scan e) fault.OutOfMemory same = absurd same
ending_same (fault.Scan e) fault.Receiver same = absurd same
ending_same (fault.Scan e) fault.InsideDocument same = absurd same
ending_same fault.OutOfMemory g same = ap ending_of_fault (sym same)
ending_same fault.Receiver g same = ap ending_of_fault (sym same)
ending_same fault.InsideDocument g same = ap ending_of_fault (sym same)

refuses_same : (f g : Fault) (a : Answer) → IsSameFault f g → Refuses f a → Refuses g a
refuses_same (fault.Scan e) (fault.Scan h) a same refuses =
    refuses ∙ ap fault_alone (ending_same (fault.Scan e) (fault.Scan h) same)
refuses_same (fault.Scan e) fault.OutOfMemory a same refuses = absurd same
refuses_same (fault.Scan e) fault.Receiver a same refuses = absurd same
refuses_same (fault.Scan e) fault.InsideDocument a same refuses = absurd same
refuses_same fault.OutOfMemory g a same refuses = subst (λ (h : Fault). Refuses h a) (sym same) refuses
refuses_same fault.Receiver g a same refuses = absurd refuses
refuses_same fault.InsideDocument g a same refuses = absurd refuses

reported_same : (kept : Ending) (f g : Fault) → IsSameFault f g → IsReportedAs kept f → IsReportedAs kept g
reported_same kept (fault.Scan e) (fault.Scan h) same written =
    written ∙ ending_same (fault.Scan e) (fault.Scan h) same
reported_same kept (fault.Scan e) fault.OutOfMemory same written = absurd same
reported_same kept (fault.Scan e) fault.Receiver same written = absurd same
reported_same kept (fault.Scan e) fault.InsideDocument same written = absurd same
reported_same kept fault.OutOfMemory g same written = subst (IsReportedAs kept) (sym same) written
reported_same kept fault.Receiver g same written = absurd written
reported_same kept fault.InsideDocument g same written = absurd written

given_same : (f g : Fault) → IsSameFault f g → given_fault f ≡ given_fault g
given_same f g same = ap (λ (e : Ending). Some (record { fault = e; given = true })) (ending_same f g same)

fails_same : (current : Option (Happening × Span)) (kept : Option Kept) (f g : Fault) (old new : EventCursor)
    → IsSameFault f g → FailsFrom current kept f old new → FailsFrom current kept g old new
fails_same (Some next) kept f g old new same fails = absurd fails
fails_same None (Some k) f g old new same (given, written, is) = (
  given,
  reported_same k.fault f g same written,
  is ∙ ap (λ (kept : Option Kept). record old { kept = kept }) (given_same f g same),
)
fails_same None None f g old new same (refuses, is) = (
  refuses_same f g (remaining_answer old.machine) same refuses,
  is ∙ ap (λ (kept : Option Kept). record old { kept = kept; machine = new.machine }) (given_same f g same),
)

-- ## The same item

pub gives_same : (x y : Item) (old new : EventCursor) → IsSameItem x y → GivesNext x old new → GivesNext y old new
gives_same None y old new same gives = subst (λ (z : Item). GivesNext z old new) (sym same) gives
gives_same (Some (Ok e)) y old new (f, is, same) gives =
    subst (λ (z : Item). GivesNext z old new) (sym is)
    (subst (λ (z : Happening × Span). Advances z old new) (sym same) gives)
gives_same (Some (Err f)) y old new (g, is, same) gives =
    subst (λ (z : Item). GivesNext z old new) (sym is) (fails_same old.current old.kept f g old new same gives)

-- it ends at the same place
pub ends_same : (x y : Item) (last : Marker) → IsSameItem x y → end_of_last y last ≡ end_of_last x last
ends_same None y last same = ap (λ (z : Item). end_of_last z last) same
ends_same (Some (Ok e)) y last (f, is, same) =
    ap (λ (z : Item). end_of_last z last) is ∙ ap (λ (h : Happening × Span). h.1.end) same
ends_same (Some (Err f)) y last (g, is, same) = ap (λ (z : Item). end_of_last z last) is

-- what is told of a refusal
refused_so : (Q : Status → Type 0) → Q status.Refused → Q status.TooLong → (info : List ℕ) (s : Status)
    → IsStatusOfRefusal info s → Q s
refused_so Q refused long info status.Refused tells = refused
refused_so Q refused long info status.TooLong tells = long
refused_so Q refused long info _ tells = absurd tells

-- what is told of an item is no want of more
written_so : (Q : Status → Type 0) → Q status.End → Q status.Event → Q status.Refused → Q status.TooLong
    → Q status.NoMemory → (item : Item) (s : Status) (c : CEvent) → WritesC item s c → Q s
written_so Q end event refused long memory None s c written = subst Q (sym written.0) end
written_so Q end event refused long memory (Some (Ok e)) s c written = subst Q (sym written.0) event
written_so Q end event refused long memory (Some (Err (fault.Scan e))) s c written =
    refused_so Q refused long (string_bytes e.info) s written.0
written_so Q end event refused long memory (Some (Err fault.OutOfMemory)) s c written = subst Q (sym written.0) memory
written_so Q end event refused long memory (Some (Err fault.Receiver)) s c written = subst Q (sym written.0) memory
written_so Q end event refused long memory (Some (Err fault.InsideDocument)) s c written =
    subst Q (sym written.0) memory

-- ## A text that comes in pieces

pub same_place : (old new : Coming) → KeepsRest old new → (later : List ℕ)
    → at_bytes new later ≡ at new.parser (chars (old.waiting.items ++ later))
same_place old new same later = ap (λ (n : Coming). at_bytes n later) same.0

pub gives_place : (item : Item) (old new : Coming) → KeepsRest old new
    → ((later : List ℕ) → GivesNext item (at old.parser later) (at new.parser later))
    → (later : List ℕ) → GivesNext item (at_bytes old later) (at_bytes new later)
gives_place item old new same gives later =
    subst (GivesNext item (at_bytes old later)) (sym (same_place old new same later))
    (gives (chars (old.waiting.items ++ later)))

-- what a call does to a value that is lent from a box
pub same_lent : (lent old new : Coming) → lent ≡ old → KeepsRest lent new → KeepsRest old new
same_lent lent old new is same = subst (λ (m : Coming). KeepsRest m new) is same

pub ends_at_fault : (p : Progress) (next : Event × Span) (f : Fault) (item : Item) (new : Coming)
    → FaultIsLast (Some p) new.parser → IsSameItem (item_at next f p) item → EndsAtFault item new
ends_at_fault progress.Event next f item new ended (e, is, same) =
    subst (λ (x : Item). EndsAtFault x new) (sym is) tt
ends_at_fault progress.Fault next f item new ended (g, is, same) =
    subst (λ (x : Item). EndsAtFault x new) (sym is) ended
ends_at_fault progress.Over next f item new ended is = subst (λ (x : Item). EndsAtFault x new) (sym is) tt

pub hands_lent : (p : Option Progress) (next : Event × Span) (f : Fault) (lent old new : Coming) → lent ≡ old
    → HandsOutOrWaits p next f lent.parser new.parser → HandsOutOrWaits p next f old.parser new.parser
hands_lent p next f lent old new is hands =
    subst (λ (m : Coming). HandsOutOrWaits p next f m.parser new.parser) is hands

pub behind_lent : (p : Option Progress) (next : Event × Span) (f : Fault) (lent old new : Coming) → lent ≡ old
    → GoesBehind p next f lent new → GoesBehind p next f old new
behind_lent p next f lent old new is goes = subst (λ (m : Coming). GoesBehind p next f m new) is goes

as_hands : (before after : Inner) (s : Status) (c : CEvent) (old new : Coming) → WritesC (handed after) s c
    → HandsOfPieces old before s c new after → HandsOfComing s c old before new after
as_hands before after s c old new written =
    written_so (λ (s : Status). HandsOfPieces old before s c new after → HandsOfComing s c old before new after)
    (λ h. h) (λ h. h) (λ h. h) (λ h. h) (λ h. h) (handed after) s c written

as_shows : (before after : Inner) (s : Status) (c : CEvent) (old new : Coming) → WritesC (handed after) s c
    → ShowsOfPieces old before s c new after → ShowsOfComing s c old before new after
as_shows before after s c old new written =
    written_so (λ (s : Status). ShowsOfPieces old before s c new after → ShowsOfComing s c old before new after)
    (λ h. h) (λ h. h) (λ h. h) (λ h. h) (λ h. h) (handed after) s c written

-- where nothing comes, nothing is handed out or shown
waits_to_hand : (why : Status) (old new : Coming) (before after : Inner) (c : CEvent) → WritesWaiting why new
    → WaitsForMore old before why c new after → HandsOfComing why c old before new after
waits_to_hand status.More old new before after c written w = w
waits_to_hand status.TooMuch old new before after c written w = w
waits_to_hand _ old new before after c written w = absurd written

waits_to_show : (why : Status) (old new : Coming) (before after : Inner) (c : CEvent) → WritesWaiting why new
    → WaitsForMore old before why c new after → ShowsOfComing why c old before new after
waits_to_show status.More old new before after c written w = w
waits_to_show status.TooMuch old new before after c written w = w
waits_to_show _ old new before after c written w = absurd written

-- what was shown is handed out
pub hands_shown : (before after : Inner) (s : Status) (c : CEvent) (box : Box Coming Global)
    → before.source ≡ source.Pieces box → before.shown ≡ true
    → WritesKept (record before { source = source.Pieces box; shown = false; growing = None }) s c after
    → HandsToC before s c after
hands_shown before after s c box from shown written =
    let old = box.value in (
      subst (λ (x : Source). HandsFrom x before s c after) (sym from) (
        box,
        written.others.0,
        (refl, λ enough. enough),
        subst (λ (b : Bool). MovesLastEndFrom b old old after) (sym shown) refl,
        as_hands before after s c old old written.writes (record {
          gives = λ later here is. gives_same (handed before) (handed after) here (at_bytes old later) written.same
              (subst (λ (b : Bool). IsAtFrom b old (handed before) later here) shown is);
          again = λ was. (written.same, refl);
          ended = λ was. absurd (true≢false (sym shown ∙ was));
          shown = written.others.1;
          given_up = written.others.2.1;
          writes = written.writes;
        }),
      ),
      written.others.2.0,
    )

-- what was shown is shown again
pub shows_shown : (before after : Inner) (s : Status) (c : CEvent) (box : Box Coming Global)
    → before.source ≡ source.Pieces box → before.shown ≡ true
    → WritesKept (record before { source = source.Pieces box }) s c after → ShowsToC before s c after
shows_shown before after s c box from shown written =
    let old = box.value in (
      subst (λ (x : Source). ShowsFrom x before s c after) (sym from) (
        box,
        written.others.0,
        (refl, λ enough. enough),
        subst (λ (b : Bool). MovesLastEndFrom b old old after) (sym shown) refl,
        as_shows before after s c old old written.writes (record {
          place = λ later here is. subst (λ (b : Bool). IsAtFrom b old (handed after) later here)
              (sym (written.others.1 ∙ shown))
              (gives_same (handed before) (handed after) here (at_bytes old later) written.same
              (subst (λ (b : Bool). IsAtFrom b old (handed before) later here) shown is));
          again = λ was. (written.same, refl);
          ended = λ was. absurd (true≢false (sym shown ∙ was));
          shown = written.others.1 ∙ shown;
          writes = written.writes;
        }),
      ),
      written.others.2,
    )

module _ (before : Inner) (s : Status) (c : CEvent) (from_box to_box : Box Coming Global) (next : Event × Span)
    (f : Fault) (from : before.source ≡ source.Pieces from_box) (shown : before.shown ≡ false)
    (same : KeepsRest from_box.value to_box.value) where
  abbrev old : Coming
  old = from_box.value

  abbrev new : Coming
  new = to_box.value

  abbrev read : Progress → Bool → Inner
  read p b = record before { source = source.Pieces to_box; next = next; fault = f; progress = p; shown = b }

  behind : (p : Progress) (after : Inner) → HandsOutOrWaits (Some p) next f old.parser new.parser
      → IsSameItem (item_at next f p) (handed after) → (later : List ℕ) (here : EventCursor)
      → IsAt old before later here → GivesNext (handed after) here (at_bytes new later)
  behind p after hands written later here is =
      gives_same (item_at next f p) (handed after) here (at_bytes new later) written
      (subst (λ (x : EventCursor). GivesNext (item_at next f p) x (at_bytes new later))
      (subst (λ (b : Bool). IsAtFrom b old (handed before) later here) shown is)
      (gives_place (item_at next f p) old new same hands later))

  passed : (p : Progress) (after : Inner) → GoesBehind (Some p) next f old new
      → IsSameItem (item_at next f p) (handed after) → MovesLastEndFrom before.shown old new after
  passed p after goes written =
      subst (λ (x : Bool). MovesLastEndFrom x old new after) (sym shown)
      (goes ∙ sym (ends_same (item_at next f p) (handed after) old.last_end written))

  -- what is read is handed out
  pub hands_next : (p : Progress) (after : Inner) → HandsOutOrWaits (Some p) next f old.parser new.parser
      → FaultIsLast (Some p) new.parser → GoesBehind (Some p) next f old new
      → WritesKept (record (read p before.shown) { growing = None }) s c after → HandsToC before s c after
  hands_next p after hands ended goes kept =
      let written = subst (λ (b : Bool). WritesKept (record (read p b) { growing = None }) s c after) shown kept in (
        subst (λ (x : Source). HandsFrom x before s c after) (sym from) (
          to_box,
          written.others.0,
          same,
          passed p after goes written.same,
          as_hands before after s c old new written.writes (record {
            gives = behind p after hands written.same;
            again = λ was. absurd (true≢false (sym was ∙ shown));
            ended = λ was. ends_at_fault p next f (handed after) new ended written.same;
            shown = written.others.1;
            given_up = written.others.2.1;
            writes = written.writes;
          }),
        ),
        written.others.2.0,
      )

  -- what is read is shown
  pub shows_next : (p : Progress) (after : Inner) → HandsOutOrWaits (Some p) next f old.parser new.parser
      → FaultIsLast (Some p) new.parser → GoesBehind (Some p) next f old new → WritesKept (read p true) s c after
      → ShowsToC before s c after
  shows_next p after hands ended goes written = (
    subst (λ (x : Source). ShowsFrom x before s c after) (sym from) (
      to_box,
      written.others.0,
      same,
      passed p after goes written.same,
      as_shows before after s c old new written.writes (record {
        place = λ later here is. subst (λ (b : Bool). IsAtFrom b new (handed after) later here) (sym written.others.1)
            (behind p after hands written.same later here is);
        again = λ was. absurd (true≢false (sym was ∙ shown));
        ended = λ was. ends_at_fault p next f (handed after) new ended written.same;
        shown = written.others.1;
        writes = written.writes;
      }),
    ),
    written.others.2,
  )

  waiting : (why : Status) (after : Inner) → WritesWaiting why new
      → HandsOutOrWaits None next f old.parser new.parser → GoesBehind None next f old new
      → Waits (read before.progress before.shown) why new.last_end s c after
      → WaitsForMore old before why c new (read progress.Over before.shown)
  waiting why after written hands goes waits = record {
    status = written;
    not_shown = shown;
    blank = subst (λ (m : Marker). HasFields no_fields m m c) goes waits.1;
    event = (refl, shown);
    wants = hands.0;
    growing = refl;
    place = λ later here is. subst
        (λ (b : Bool). IsAtFrom b new (handed (read progress.Over before.shown)) later here) (sym shown)
        (same_place old new same later ∙ hands.1 (chars (old.waiting.items ++ later))
        ∙ subst (λ (b : Bool). IsAtFrom b old (handed before) later here) shown is);
  }

  -- it waits in place of handing out or showing
  none_comes : (Of : Status → CEvent → Coming → Inner → Coming → Inner → Type 0) (why : Status) (after : Inner)
      → WritesWaiting why new → HandsOutOrWaits None next f old.parser new.parser → GoesBehind None next f old new
      → Waits (read before.progress before.shown) why new.last_end s c after
      → (WaitsForMore old before why c new (read progress.Over before.shown)
      → Of why c old before new (read progress.Over before.shown))
      → (n : Box Coming Global) × (after.source ≡ source.Pieces n) × KeepsRest old n.value
      × MovesLastEnd old before n.value after × Of s c old before n.value after
  none_comes Of why after written hands goes waits is =
      subst (λ (a : Inner). (n : Box Coming Global) × (a.source ≡ source.Pieces n) × KeepsRest old n.value
      × MovesLastEnd old before n.value a × Of s c old before n.value a) (sym waits.2) (
        to_box,
        refl,
        same,
        subst (λ (b : Bool). MovesLastEndFrom b old new (read progress.Over before.shown)) (sym shown) goes,
        subst (λ (s : Status). Of s c old before new (read progress.Over before.shown)) (sym waits.0)
            (is (waiting why after written hands goes waits)),
      )

  waits_at : (why : Status) (place : Marker) (after : Inner)
      → Waits (read before.progress before.shown) why place s c after → place ≡ new.last_end
      → Waits (read before.progress before.shown) why new.last_end s c after
  waits_at why place after waits is =
      subst (λ (m : Marker). Waits (read before.progress before.shown) why m s c after) is waits

  pub hands_none : (why : Status) (place : Marker) (after : Inner) → WritesWaiting why new
      → HandsOutOrWaits None next f old.parser new.parser → GoesBehind None next f old new
      → Waits (read before.progress before.shown) why place s c after → place ≡ new.last_end → HandsToC before s c after
  hands_none why place after written hands goes waits is = (
    subst (λ (x : Source). HandsFrom x before s c after) (sym from)
        (none_comes HandsOfComing why after written hands goes (waits_at why place after waits is)
        (waits_to_hand why old new before _ c written)),
    ap (λ (a : Inner). a.table) waits.2,
  )

  pub shows_none : (why : Status) (place : Marker) (after : Inner) → WritesWaiting why new
      → HandsOutOrWaits None next f old.parser new.parser → GoesBehind None next f old new
      → Waits (read before.progress before.shown) why place s c after → place ≡ new.last_end → ShowsToC before s c after
  shows_none why place after written hands goes waits is = (
    subst (λ (x : Source). ShowsFrom x before s c after) (sym from)
        (none_comes ShowsOfComing why after written hands goes (waits_at why place after waits is)
        (waits_to_show why old new before _ c written)),
    (ap (λ (a : Inner). a.table) waits.2, ap (λ (a : Inner). a.growing) waits.2),
  )
