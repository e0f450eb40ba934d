-- What a step of the reader hands out, and what holds of the reader that it leaves.
use Rattle.std.proofs.Common.{◌≡◌, ◌≢◌, ◌⊎◌, inl, inr, ℕ, List, [], ◌++◌, true, false, Option, Some, None, Result, Ok, Err, refl, sym, ap, subst, ◌∙◌}
use Rattle.std.specs.Global.{Global}
use Rattle.std.specs.Prelude.{String, string_bytes}
use Rattle.std.specs.Str.{chars}
use Rattle.saphyr_scalar.specs.declared.scalar.fault.Stop.TheVariants as stop
use Rattle.saphyr_scalar.specs.declared.scalar.position.Span.{Span}
use Rattle.saphyr_scanner.specs.Views.Tokens.{Piece}
use Rattle.saphyr_machine.specs.declared.event.Event.{Event}
use Rattle.saphyr_machine.specs.declared.fault.Fault.{Fault}
use Rattle.saphyr_machine.specs.declared.fault.Fault.TheVariants as fault
use Rattle.saphyr_machine.specs.declared.progress.Progress.{Progress}
use Rattle.saphyr_machine.specs.declared.progress.Progress.TheVariants as progress
use Rattle.saphyr_machine.specs.declared.reader.EventReader.{EventReader}
use Rattle.saphyr_machine.specs.declared.state.State.{State}
use Rattle.saphyr_machine.specs.declared.state.State.TheVariants as state
use Rattle.saphyr_machine.specs.Calls.{AdvancesFrom, FailsFrom, FailsWith, GivesNext, given_fault, item_at}
use Rattle.saphyr_machine.specs.Cursor.{EventCursor, Kept, event_of}
use Rattle.saphyr_machine.specs.Events.{Happening}
use Rattle.saphyr_machine.specs.Passed.{before_tokens}
use Rattle.saphyr_machine.specs.Steps.Documents.{is_over}
use Rattle.saphyr_machine.specs.Steps.Machine.{Machine}
use Rattle.saphyr_machine.specs.Views.Readers.{cursor, cursor_in}
use Rattle.saphyr_machine.proofs.Turns as turns
use Rattle.saphyr_pieces.specs.declared.owned.OwnedText.{OwnedText}
use Rattle.saphyr_pieces.specs.declared.pieces.PieceReader.{PieceReader}
use Rattle.saphyr_pieces.specs.declared.pieces.passed.Passed.{Passed}
use Rattle.saphyr_pieces.specs.declared.pieces.Source.{Source}
use Rattle.saphyr_pieces.specs.declared.pieces.Source.TheVariants as source
use Rattle.saphyr_pieces.specs.Pieces.{FaultIsLast, HandsOutOrWaits, at, cursor_from, wants_more, wants_more_from}
use Rattle.saphyr_pieces.specs.Passed.{passed_tokens}
use Rattle.saphyr_pieces.specs.Views.{AdvancesBy, AreIdleBefore, CountsOne, FailsOrWaits, GoesBack, GoesBackFrom, IsLack, IsReachedFrom, IsSoundFrom, IsSoundReader, LeadsCopyTo, PassesIdleOn, failed, pieces_of, place_in}
use Rattle.saphyr_pieces.proofs.IdleTokens.{gives_there, idle_along, passed_none, passes_further, stays_on}
use Rattle.saphyr_pieces.proofs.Places.{is_text, same_readers, sound_without_copy}

-- ## An event

same_behind : (a : Option (Happening × Span)) (k : Option Kept) (e : Happening × Span) (c d : EventCursor) → a ≡ None
    → AdvancesFrom a k e c d → (d.kept ≡ c.kept) × (d.current ≡ c.current)
same_behind (Some x) k e c d none h = absurd (cc)
same_behind None (Some k) e c d none h = absurd h
same_behind None None e c d none h =
    (ap (λ (v : EventCursor). v.kept) h.1, ap (λ (v : EventCursor). v.current) h.1)

-- what is known of a reader of a text
known : (p : PieceReader) → IsSoundReader p → wants_more (pieces_of p) ≡ true
    → ((cursor p.reader).kept ≡ None) × LeadsCopyTo p p.reader
known p h wants = subst (λ (s : Source). IsSoundFrom s p) (is_text p.source wants) h.source

-- a reader that goes on, with a copy that leads to it
pub sound_leading : (p q : PieceReader) → wants_more (pieces_of p) ≡ true → q.source ≡ p.source
    → (cursor q.reader).kept ≡ (cursor p.reader).kept → (cursor q.reader).current ≡ (cursor p.reader).current
    → (LeadsCopyTo p p.reader → LeadsCopyTo q q.reader) → AreIdleBefore (passed_tokens q.passed) q.reader → IsSoundReader p
    → IsSoundReader q
sound_leading p q wants text kept current leads idle h =
    let old = known p h wants in
    record {
      source = subst (λ (s : Source). IsSoundFrom s q) (sym (text ∙ is_text p.source wants))
          (kept ∙ old.0, leads old.1);
      current = current ∙ h.current;
      idle = idle;
    }

-- the same reader, with another copy
pub renewed : (p q : PieceReader) → q.reader ≡ p.reader → q.source ≡ p.source → q.passed ≡ p.passed
    → wants_more (pieces_of p) ≡ true → LeadsCopyTo q q.reader → IsSoundReader p → IsSoundReader q
renewed p q same text passed wants reached h =
    sound_leading p q wants text (ap (λ (r : EventReader OwnedText). (cursor r).kept) same)
    (ap (λ (r : EventReader OwnedText). (cursor r).current) same) (λ _. reached)
    (subst (λ (r : EventReader OwnedText). AreIdleBefore (passed_tokens q.passed) r) (sym same)
    (subst (λ (o : Option Passed). AreIdleBefore (passed_tokens o) p.reader) (sym passed) h.idle)) h

-- the reader hands out an event, which is counted
pub sound_behind_event : (p q : PieceReader) (r : EventReader OwnedText) (next : Event × Span)
    → wants_more (pieces_of p) ≡ true
    → ((more : List ℕ) → GivesNext (Some (Ok next)) (cursor_in more p.reader) (cursor_in more r))
    → CountsOne p q → q.reader ≡ r → q.source ≡ p.source → passed_tokens q.passed ≡ [] → IsSoundReader p
    → IsSoundReader q
sound_behind_event p q r next wants gives counts same text nothing h =
    let old = known p h wants in
    let c : EventCursor = cursor p.reader in
    let stays = same_behind c.current c.kept (event_of next) c (cursor r) h.current (gives []) in
    record {
      source = subst (λ (s : Source). IsSoundFrom s q) (sym (text ∙ is_text p.source wants)) (
        ap (λ (v : EventReader OwnedText). (cursor v).kept) same ∙ stays.0 ∙ old.0,
        subst (LeadsCopyTo q) (sym same)
            (counts p.reader r old.1 (λ more. (event_of next, gives more))),
      );
      current = ap (λ (v : EventReader OwnedText). (cursor v).current) same ∙ stays.1 ∙ h.current;
      idle = subst (λ (ts : List Piece). AreIdleBefore ts q.reader) (sym nothing) tt;
    }

-- ## A fault

-- the same fault, if another text was left behind it
fails_so : (a : Option (Happening × Span)) (k : Option Kept) (f : Fault) (c d : EventCursor) (m : Machine) → a ≡ None
    → k ≡ None → FailsFrom a k f c d → FailsFrom a k f c (record d { machine = m })
fails_so (Some x) k f c d m none kept h = absurd h
fails_so None (Some l) f c d m none kept h = absurd (cc)
fails_so None None f c d m none kept h = (h.0, ap (λ (v : EventCursor). record v { machine = m }) h.1)

-- memory ran out in place of that fault
lacks_so : (a : Option (Happening × Span)) (k : Option Kept) (f : Fault) (c d : EventCursor) (m : Machine) → a ≡ None
    → k ≡ None → FailsFrom a k f c d → FailsFrom a k fault.OutOfMemory c (failed (record d { machine = m }))
lacks_so (Some x) k f c d m none kept h = absurd h
lacks_so None (Some l) f c d m none kept h = absurd (cc)
lacks_so None None f c d m none kept h =
    (turns.some_refused f _ h.0, ap (λ (v : EventCursor). failed (record v { machine = m })) h.1)

-- memory ran out before an event
lacks_before : (a : Option (Happening × Span)) (k : Option Kept) (c d : EventCursor) → a ≡ None → k ≡ None
    → c.machine.state ≢ state.End → d ≡ failed (record c { machine = d.machine }) → FailsFrom a k fault.OutOfMemory c d
lacks_before (Some x) k c d none kept on is = absurd (cc)
lacks_before None (Some l) c d none kept on is = absurd (cc)
lacks_before None None c d none kept on is =
    (turns.refused c.machine stop.OutOfMemory fault.OutOfMemory on tt tt, is)

fault_leaves : (a : Option (Happening × Span)) (k : Option Kept) (f : Fault) (c d : EventCursor) → FailsFrom a k f c d
    → d.current ≡ c.current
fault_leaves (Some x) k f c d h = absurd h
fault_leaves None (Some l) f c d h = ap (λ (v : EventCursor). v.current) h.2
fault_leaves None None f c d h = ap (λ (v : EventCursor). v.current) h.1

over_is_end : (s : State) → s ≡ state.End → is_over s ≡ true
over_is_end s e = subst (λ (t : State). is_over t ≡ true) (sym e) refl

-- no more of the text is wanted
pub sound_given : (p : PieceReader) → p.source ≡ source.Given → passed_tokens p.passed ≡ []
    → (cursor p.reader).current ≡ None → IsSoundReader p
sound_given p given nothing none = record {
  source = subst (λ (s : Source). IsSoundFrom s p) (sym given) tt;
  current = none;
  idle = subst (λ (ts : List Piece). AreIdleBefore ts p.reader) (sym nothing) tt;
}

-- a fault is told, after which no more of the text is wanted
reports : (p q : PieceReader) (next : Event × Span) (f : Fault) (x : Progress) → IsSoundReader p
    → wants_more (pieces_of p) ≡ true → x ≡ progress.Fault → q.source ≡ source.Given → passed_tokens q.passed ≡ []
    → ((more : List ℕ) → FailsWith f (cursor_in more p.reader) (cursor q.reader))
    → HandsOutOrWaits (Some x) next f (pieces_of p) (pieces_of q)
reports p q next f x h wants reported given none fails later =
    let ts = passed_tokens p.passed in
    let from = ap (λ (s : Source). cursor_from s (pieces_of p) later) (is_text p.source wants) in
    let to = ap (λ (s : Source). cursor_from s (pieces_of q) later) given
    ∙ ap (λ (us : List Piece). before_tokens us (cursor q.reader)) none in
    let more = chars (string_bytes p.more) ++ later in
    subst (λ (y : Progress). GivesNext (item_at next f y) (at (pieces_of p) later) (at (pieces_of q) later))
    (sym reported)
    (subst (λ (c : EventCursor). FailsWith f c (at (pieces_of q) later)) (sym from)
    (subst (λ (d : EventCursor). FailsWith f (place_in more ts p.reader) d) (sym to)
    (gives_there ts p.reader (Some (Err f)) (cursor q.reader) more h.idle (fails more))))

pub lacks : (p q : PieceReader) (next : Event × Span) (f : Fault) (x : Progress) → IsSoundReader p
    → wants_more (pieces_of p) ≡ true → is_over (cursor p.reader).machine.state ≡ false
    → cursor q.reader ≡ failed (cursor p.reader) → q.source ≡ source.Given → passed_tokens q.passed ≡ [] → IsLack x f
    → HandsOutOrWaits (Some x) next f (pieces_of p) (pieces_of q)
lacks p q next f x h wants goes_on is given none (reported, lack) =
    reports p q next f x h wants reported given none (λ more.
    let c : EventCursor = cursor_in more p.reader in
    subst (λ (g : Fault). FailsWith g c (cursor q.reader)) (sym lack)
    (lacks_before c.current c.kept c (cursor q.reader) h.current (known p h wants).0
    (λ e. let over = over_is_end c.machine.state e in absurd (cc))
    (is ∙ ap (λ (v : EventCursor). failed (record c { machine = v.machine })) (sym is))))

-- ## A fault, or the reader went back

went_back_from : (copy : Option (EventReader OwnedText)) (since : List ℕ) (n : ℕ) (ts : List Piece) (new : PieceReader)
    (a : EventReader OwnedText) → IsReachedFrom copy since n a → GoesBackFrom copy since n ts new
    → PassesIdleOn ts a (passed_tokens new.passed) new.reader
went_back_from None since n ts new a from to = absurd to
went_back_from (Some copy) since n ts new a from (middle, to, passed) =
    passes_further ts ts (passed_tokens new.passed) a middle new.reader
    (stays_on ts a middle (same_readers since n copy a middle from to)) passed

went_back : (p q : PieceReader) (a : EventReader OwnedText) → LeadsCopyTo p a → GoesBack p q
    → PassesIdleOn (passed_tokens p.passed) a (passed_tokens q.passed) q.reader
went_back p q = went_back_from p.copy (chars (string_bytes p.since)) p.events (passed_tokens p.passed) q

module _ (p : PieceReader) (r : EventReader OwnedText) (f : Fault) (wants : wants_more (pieces_of p) ≡ true)
    (gives : (more : List ℕ) → GivesNext (Some (Err f)) (cursor_in more p.reader) (cursor_in more r))
    (h : IsSoundReader p)
  where
    fails_as : (g : Fault) (q : PieceReader)
        → ((g ≡ f) × (q.reader ≡ r)) ⊎ ((g ≡ fault.OutOfMemory) × (cursor q.reader ≡ failed (cursor r)))
        → (more : List ℕ) → FailsWith g (cursor_in more p.reader) (cursor q.reader)
    fails_as g q (inl (same, reader)) more =
        let c : EventCursor = cursor_in more p.reader in
        subst (λ (e : Fault). FailsWith e c (cursor q.reader)) (sym same)
        (subst (λ (v : EventReader OwnedText). FailsWith f c (cursor v)) (sym reader)
        (fails_so c.current c.kept f c (cursor_in more r) (cursor r).machine h.current (known p h wants).0
        (gives more)))
    fails_as g q (inr (lack, is)) more =
        let c : EventCursor = cursor_in more p.reader in
        subst (λ (e : Fault). FailsWith e c (cursor q.reader)) (sym lack)
        (subst (FailsWith fault.OutOfMemory c) (sym is)
        (lacks_so c.current c.kept f c (cursor_in more r) (cursor r).machine h.current (known p h wants).0
        (gives more)))

    pub fails_or_waits : (o : Option Progress) (next : Event × Span) (g : Fault) (q : PieceReader)
        → FailsOrWaits o f g (record p { reader = r }) q → HandsOutOrWaits o next g (pieces_of p) (pieces_of q)
    fails_or_waits (Some x) next g q (reported, given, none, fails) =
        reports p q next g x h wants reported given none (fails_as g q fails)
    fails_or_waits None next g q (back, none, more, text) =
        let is = is_text p.source wants in
        let passed = went_back p q p.reader (known p h wants).1 back in (
          ap wants_more_from text ∙ wants,
          λ later.
              ap (λ (s : Source). cursor_from s (pieces_of q) later) (text ∙ is)
              ∙ ap (λ (m : String Global). place_in (chars (string_bytes m) ++ later) (passed_tokens q.passed) q.reader)
              more
              ∙ passed.place (chars (string_bytes p.more) ++ later)
              ∙ sym (ap (λ (s : Source). cursor_from s (pieces_of p) later) is),
        )

    current_as : (g : Fault) (q : PieceReader)
        → ((g ≡ f) × (q.reader ≡ r)) ⊎ ((g ≡ fault.OutOfMemory) × (cursor q.reader ≡ failed (cursor r)))
        → (cursor q.reader).current ≡ (cursor r).current
    current_as g q (inl (same, reader)) = ap (λ (v : EventReader OwnedText). (cursor v).current) reader
    current_as g q (inr (lack, is)) = ap (λ (v : EventCursor). v.current) is

    pub sound_behind_fault : (o : Option Progress) (g : Fault) (q : PieceReader)
        → FailsOrWaits o f g (record p { reader = r }) q → IsSoundReader q
    sound_behind_fault (Some x) g q (reported, given, nothing, fails) =
        let c : EventCursor = cursor p.reader in
        sound_given q given nothing
        (current_as g q fails ∙ fault_leaves c.current c.kept f c (cursor r) (gives []) ∙ h.current)
    sound_behind_fault None g q (back, none, more, text) =
        let passed = went_back p q p.reader (known p h wants).1 back in
        let same = passed.place [] in
        sound_without_copy p q none (ap (λ (v : EventCursor). v.kept) same) text
        (ap (λ (v : EventCursor). v.current) same) (passed.idle h.idle) h

-- ## Where nothing comes

reached_along : (copy : Option (EventReader OwnedText)) (since : List ℕ) (n : ℕ) (a b : EventReader OwnedText)
    → ((more : List ℕ) → cursor_in more b ≡ cursor_in more a) → IsReachedFrom copy since n a → IsReachedFrom copy since n b
reached_along None since n a b same h = tt
reached_along (Some copy) since n a b same h = λ more.
    subst (AdvancesBy n (cursor_in (since ++ more) copy)) (sym (same more)) (h more)

pub sound_over : (p : PieceReader) (r : EventReader OwnedText) → wants_more (pieces_of p) ≡ true
    → ((more : List ℕ) → GivesNext None (cursor_in more p.reader) (cursor_in more r)) → IsSoundReader p
    → IsSoundReader (record p { reader = r })
sound_over p r wants gives h =
    let old = known p h wants in
    record {
      source = subst (λ (s : Source). IsSoundFrom s (record p { reader = r })) (sym (is_text p.source wants)) (
        ap (λ (v : EventCursor). v.kept) (gives []).1 ∙ old.0,
        reached_along p.copy (chars (string_bytes p.since)) p.events p.reader r (λ more. (gives more).1) old.1,
      );
      current = ap (λ (v : EventCursor). v.current) (gives []).1 ∙ h.current;
      idle = idle_along (passed_tokens p.passed) p.reader r (λ more. (gives more).1) h.idle;
    }

-- ## What is given of a text that came

pub leaves_none : (item : Option (Result (Event × Span) Fault)) (c d : EventCursor) → c.current ≡ None
    → GivesNext item c d → d.current ≡ None
leaves_none None c d none h = ap (λ (v : EventCursor). v.current) h.1 ∙ none
leaves_none (Some (Ok e)) c d none h = (same_behind c.current c.kept (event_of e) c d none h).1 ∙ none
leaves_none (Some (Err f)) c d none h = fault_leaves c.current c.kept f c d h ∙ none

module _ (p q : PieceReader) (item : Option (Result (Event × Span) Fault)) (nothing : passed_tokens q.passed ≡ [])
    (h : IsSoundReader p)
  where
    pub gives_of_given : p.source ≡ source.Given → q.source ≡ source.Given
        → GivesNext item (cursor p.reader) (cursor q.reader) → (later : List ℕ)
        → GivesNext item (at (pieces_of p) later) (at (pieces_of q) later)
    gives_of_given given all gives later =
        let from = ap (λ (s : Source). cursor_from s (pieces_of p) later) given in
        let to = ap (λ (s : Source). cursor_from s (pieces_of q) later) all
        ∙ ap (λ (ts : List Piece). before_tokens ts (cursor q.reader)) nothing in
        subst (λ (c : EventCursor). GivesNext item c (at (pieces_of q) later)) (sym from)
        (subst (GivesNext item (place_in [] (passed_tokens p.passed) p.reader)) (sym to)
        (gives_there (passed_tokens p.passed) p.reader item (cursor q.reader) [] h.idle gives))

    pub gives_of_text : wants_more (pieces_of p) ≡ true → q.source ≡ p.source → q.more ≡ p.more
        → ((more : List ℕ) → GivesNext item (cursor_in more p.reader) (cursor_in more q.reader)) → (later : List ℕ)
        → GivesNext item (at (pieces_of p) later) (at (pieces_of q) later)
    gives_of_text wants text same gives later =
        let is = is_text p.source wants in
        let more = chars (string_bytes p.more) ++ later in
        let from = ap (λ (s : Source). cursor_from s (pieces_of p) later) is in
        let to = ap (λ (s : Source). cursor_from s (pieces_of q) later) (text ∙ is)
        ∙ ap (λ (m : String Global). place_in (chars (string_bytes m) ++ later) (passed_tokens q.passed) q.reader) same
        ∙ ap (λ (ts : List Piece). place_in more ts q.reader) nothing in
        subst (λ (c : EventCursor). GivesNext item c (at (pieces_of q) later)) (sym from)
        (subst (GivesNext item (place_in more (passed_tokens p.passed) p.reader)) (sym to)
        (gives_there (passed_tokens p.passed) p.reader item (cursor_in more q.reader) more h.idle (gives more)))

-- where the stream is over, the reader passed no token
pub over_passed_none : (p : PieceReader) (r : EventReader OwnedText)
    → ((more : List ℕ) → GivesNext None (cursor_in more p.reader) (cursor_in more r)) → IsSoundReader p
    → passed_tokens p.passed ≡ []
over_passed_none p r gives h = passed_none (passed_tokens p.passed) p.reader (cursor r) h.idle (gives [])

-- ## A fault is the last

fault_is_kept : (a : Option (Happening × Span)) (k : Option Kept) (f : Fault) (c d : EventCursor) → FailsFrom a k f c d
    → d.kept ≡ given_fault f
fault_is_kept (Some x) k f c d h = absurd h
fault_is_kept None (Some l) f c d h = ap (λ (v : EventCursor). v.kept) h.2
fault_is_kept None None f c d h = ap (λ (v : EventCursor). v.kept) h.1

-- A reader of a text of which more is wanted keeps no fault.
wants_no_more : (s : Source) (p : PieceReader) (c : EventCursor) (f : Fault) → IsSoundFrom s p
    → (cursor_from s (pieces_of p) []).kept ≡ given_fault f → wants_more_from s ≡ false
wants_no_more source.Text p c f sound kept = let e = sound.0 in absurd (cc)
wants_no_more source.Given p c f sound kept = refl
wants_no_more source.Lost p c f sound kept = refl

pub fault_is_last : (o : Option Progress) (next : Event × Span) (f : Fault) (p q : PieceReader)
    → HandsOutOrWaits o next f (pieces_of p) (pieces_of q) → IsSoundReader q → FaultIsLast o (pieces_of q)
fault_is_last (Some progress.Fault) next f p q hands sound =
    let old = at (pieces_of p) [] in
    wants_no_more q.source q old f sound.source
    (fault_is_kept old.current old.kept f old (at (pieces_of q) []) (hands []))
fault_is_last (Some progress.Event) next f p q hands sound = tt
fault_is_last (Some progress.Over) next f p q hands sound = tt
fault_is_last None next f p q hands sound = tt
