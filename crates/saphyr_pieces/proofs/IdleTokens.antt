-- Tokens that a reader passed change nothing of what it gives next.
use Rattle.std.proofs.Common.{◌≡◌, ◌≢◌, ◌++◌, List, [], ◌∷◌, ℕ, Bool, Option, Some, None, Result, Ok, Err, refl, sym, ap, subst, ◌∙◌, append_assoc}
use Rattle.std.proofs.lemmas.List.{append-nil}
use Rattle.saphyr_scalar.specs.declared.scalar.position.Span.{Span}
use Rattle.saphyr_scalar.specs.declared.scalar.fault.Refusal.{Refusal}
use Rattle.saphyr_scanner.specs.Views.Tokens.{Piece, Remaining}
use Rattle.saphyr_machine.specs.declared.event.Event.{Event}
use Rattle.saphyr_machine.specs.declared.fault.Fault.{Fault}
use Rattle.saphyr_machine.specs.declared.reader.EventReader.{EventReader}
use Rattle.saphyr_machine.specs.declared.state.State.{State}
use Rattle.saphyr_machine.specs.declared.state.State.TheVariants as state
use Rattle.saphyr_machine.specs.Answer.{answer_of_step, remaining_answer}
use Rattle.saphyr_machine.specs.Calls.{AdvancesFrom, FailsFrom, GivesNext, IsOverFrom}
use Rattle.saphyr_machine.specs.Cursor.{EventCursor, Kept, Refuses, event_of, keeping_tags}
use Rattle.saphyr_machine.specs.Events.{Happening}
use Rattle.saphyr_machine.specs.Passed.{AreIdle, MakeNoEvent, PassesIdle, before_tokens}
use Rattle.saphyr_machine.specs.Steps.Documents.{implicit_start}
use Rattle.saphyr_machine.specs.Steps.Expected.{event_step, event_step_at}
use Rattle.saphyr_machine.specs.Steps.Machine.{Emitted}
use Rattle.saphyr_machine.specs.Views.Readers.{cursor, cursor_in}
use Rattle.saphyr_machine.proofs.Unroll.{unroll}
use Rattle.saphyr_pieces.specs.declared.owned.OwnedText.{OwnedText}
use Rattle.saphyr_pieces.specs.Views.{AreIdleBefore, PassesIdleOn, place_in}

between_is_no_end : (s : State) → s ≡ state.ImplicitDocumentStart → s ≢ state.End
between_is_no_end s is end = let both = sym is ∙ end in absurd (cc)

module _ (ts : List Piece) (c : EventCursor) (idle : AreIdle ts c) where
  step_stays : event_step (before_tokens ts c).machine ≡ event_step c.machine
  unfolding event_step
  step_stays =
      ap (λ (s : State). event_step_at s (before_tokens ts c).machine) idle.between.2
      ∙ idle.none c.machine
      ∙ sym (ap (λ (s : State). event_step_at s c.machine) idle.between.2)

  answer_stays : remaining_answer c.machine ≡ remaining_answer (before_tokens ts c).machine
  answer_stays =
      let on = between_is_no_end c.machine.state idle.between.2 in
      unroll c.machine on
      ∙ ap (λ (r : Result Emitted Refusal). answer_of_step r remaining_answer) (sym step_stays)
      ∙ sym (unroll (before_tokens ts c).machine on)

  advances_before : (a : Option (Happening × Span)) (k : Option Kept) (e : Happening × Span) (d : EventCursor)
      → a ≡ None → k ≡ None → AdvancesFrom a k e c d → AdvancesFrom a k e (before_tokens ts c) d
  advances_before (Some x) k e d none kept h = absurd (cc)
  advances_before None (Some l) e d none kept h = absurd (cc)
  advances_before None None e d none kept h = (step_stays ∙ h.0, h.1)

  fails_before : (a : Option (Happening × Span)) (k : Option Kept) (f : Fault) (d : EventCursor)
      → a ≡ None → k ≡ None → FailsFrom a k f c d → FailsFrom a k f (before_tokens ts c) d
  fails_before (Some x) k f d none kept h = absurd (cc)
  fails_before None (Some l) f d none kept h = absurd (cc)
  fails_before None None f d none kept h = (subst (Refuses f) answer_stays h.0, h.1)

  not_over : (a : Option (Happening × Span)) (k : Option Kept) → a ≡ None → k ≡ None → IsOverFrom a k c.machine → ⊥
  not_over (Some x) k none kept h = absurd (cc)
  not_over None (Some l) none kept h = absurd (cc)
  not_over None None none kept h = between_is_no_end c.machine.state idle.between.2 h

  gives_before : (item : Option (Result (Event × Span) Fault)) (d : EventCursor) → GivesNext item c d
      → GivesNext item (before_tokens ts c) d
  gives_before None d h = absurd (not_over c.current c.kept idle.between.0 idle.between.1 h.0)
  gives_before (Some (Ok e)) d h = advances_before c.current c.kept (event_of e) d idle.between.0 idle.between.1 h
  gives_before (Some (Err f)) d h = fails_before c.current c.kept f d idle.between.0 idle.between.1 h

-- what a reader gives, it gives where it had not passed the tokens
pub gives_there : (ts : List Piece) (r : EventReader OwnedText) (item : Option (Result (Event × Span) Fault))
    (d : EventCursor) (more : List ℕ) → AreIdleBefore ts r → GivesNext item (cursor_in more r) d
    → GivesNext item (place_in more ts r) d
gives_there [] r item d more idle h = h
gives_there (t ∷ ts) r item d more idle h = gives_before (t ∷ ts) (cursor_in more r) (idle more) item d h

-- where a stream is over, no token was passed
pub passed_none : (ts : List Piece) (r : EventReader OwnedText) (d : EventCursor) → AreIdleBefore ts r
    → GivesNext None (cursor r) d → ts ≡ []
passed_none [] r d idle h = refl
passed_none (t ∷ ts) r d idle h =
    let c : EventCursor = cursor r in
    absurd (not_over (t ∷ ts) c (idle []) c.current c.kept (idle []).between.0 (idle []).between.1 h.0)

-- ## Readers at the same place

pub idle_along : (ts : List Piece) (a b : EventReader OwnedText)
    → ((more : List ℕ) → cursor_in more b ≡ cursor_in more a) → AreIdleBefore ts a → AreIdleBefore ts b
idle_along [] a b same idle = tt
idle_along (t ∷ ts) a b same idle = λ more. subst (AreIdle (t ∷ ts)) (sym (same more)) (idle more)

-- a copy of the reader, and of its tokens
pub idle_of_copy : (ts us : List Piece) (a b : EventReader OwnedText) → us ≡ ts
    → ((more : List ℕ) → cursor_in more b ≡ cursor_in more a) → AreIdleBefore ts a → AreIdleBefore us b
idle_of_copy ts us a b copied same idle =
    subst (λ (vs : List Piece). AreIdleBefore vs b) (sym copied) (idle_along ts a b same idle)

pub nothing_behind : (ts us : List Piece) → us ≡ ts ++ [] → us ≡ ts
nothing_behind ts us is = is ∙ append-nil ts

-- the same, if what comes behind one comes behind more of the other
pub idle_over : (ts : List Piece) (a b : EventReader OwnedText) (text : List ℕ → List ℕ)
    → ((more : List ℕ) → cursor_in more b ≡ cursor_in (text more) a) → AreIdleBefore ts a → AreIdleBefore ts b
idle_over [] a b text same idle = tt
idle_over (t ∷ ts) a b text same idle = λ more. subst (AreIdle (t ∷ ts)) (sym (same more)) (idle (text more))

-- ## One more token is passed

both_idle : (ts : List Piece) (t : Piece) (c d : EventCursor) → AreIdle ts c → PassesIdle (t ∷ []) c d
    → AreIdle (ts ++ t ∷ []) d
both_idle ts t c d idle (moved, next) = record {
  between = next.between;
  none = λ m.
      let r : Remaining = d.machine.tokens in
      ap (λ (ps : List Piece). implicit_start (record m { tokens = record { pieces = ps; refusal = r.refusal } }))
      (append_assoc ts (t ∷ []) r.pieces)
      ∙ subst (λ (q : Remaining). MakeNoEvent ts q) (ap (λ (v : EventCursor). v.machine.tokens) moved) idle.none m
      ∙ next.none m;
}

idle_with : (ts : List Piece) (t : Piece) (a b : EventReader OwnedText)
    → ((more : List ℕ) → PassesIdle (t ∷ []) (cursor_in more a) (cursor_in more b)) → AreIdleBefore ts a
    → (more : List ℕ) → AreIdle (ts ++ t ∷ []) (cursor_in more b)
idle_with [] t a b passes idle more = (passes more).1
idle_with (u ∷ ts) t a b passes idle more =
    both_idle (u ∷ ts) t (cursor_in more a) (cursor_in more b) (idle more) (passes more)

as_idle : (ts us : List Piece) (t : Piece) (b : EventReader OwnedText) → us ≡ ts ++ t ∷ []
    → ((more : List ℕ) → AreIdle (ts ++ t ∷ []) (cursor_in more b)) → AreIdleBefore us b
as_idle ts [] t b is idle = tt
as_idle ts (u ∷ us) t b is idle = λ more. subst (λ (vs : List Piece). AreIdle vs (cursor_in more b)) (sym is) (idle more)

passes_one : (ts us : List Piece) (t : Piece) (a b : EventReader OwnedText) → us ≡ ts ++ t ∷ []
    → ((more : List ℕ) → PassesIdle (t ∷ []) (cursor_in more a) (cursor_in more b)) → PassesIdleOn ts a us b
passes_one ts us t a b is passes = record {
  place = λ more.
      let d : EventCursor = cursor_in more b in
      ap (λ (vs : List Piece). before_tokens vs d) is
      ∙ ap (λ (ps : List Piece). record d {
        machine = record d.machine { tokens = record { pieces = ps; refusal = d.machine.tokens.refusal } };
      }) (append_assoc ts (t ∷ []) d.machine.tokens.pieces)
      ∙ ap (before_tokens ts) (sym (passes more).0);
  idle = λ idle. as_idle ts us t b is (idle_with ts t a b passes idle);
}

pub passes_further : (ts us vs : List Piece) (a b c : EventReader OwnedText) → PassesIdleOn ts a us b → PassesIdleOn us b vs c
    → PassesIdleOn ts a vs c
passes_further ts us vs a b c h k = record {
  place = λ more. k.place more ∙ h.place more;
  idle = λ idle. k.idle (h.idle idle);
}

pub passes_more : (ts us vs : List Piece) (t : Piece) (a b c : EventReader OwnedText) → PassesIdleOn ts a us b
    → vs ≡ us ++ t ∷ [] → ((more : List ℕ) → PassesIdle (t ∷ []) (cursor_in more b) (cursor_in more c))
    → PassesIdleOn ts a vs c
passes_more ts us vs t a b c h is passes = passes_further ts us vs a b c h (passes_one us vs t b c is passes)

pub stays_on : (ts : List Piece) (a b : EventReader OwnedText)
    → ((more : List ℕ) → cursor_in more b ≡ cursor_in more a) → PassesIdleOn ts a ts b
stays_on ts a b same = record {
  place = λ more. ap (before_tokens ts) (same more);
  idle = idle_along ts a b same;
}

pub stays_here : (ts : List Piece) (a : EventReader OwnedText) → PassesIdleOn ts a ts a
stays_here ts a = record { place = λ more. refl; idle = λ idle. idle }

pub stays_behind : (ts us : List Piece) (a b c : EventReader OwnedText) → PassesIdleOn ts a us b
    → ((more : List ℕ) → cursor_in more c ≡ cursor_in more b) → PassesIdleOn ts a us c
stays_behind ts us a b c h same = passes_further ts us us a b c h (stays_on us b c same)

pub idle_with_setting : (ts : List Piece) (a b : EventReader OwnedText) (keep : Bool)
    → ((more : List ℕ) → cursor_in more b ≡ keeping_tags keep (cursor_in more a)) → AreIdleBefore ts a
    → AreIdleBefore ts b
idle_with_setting [] a b keep same idle = tt
idle_with_setting (t ∷ ts) a b keep same idle = λ more.
    subst (AreIdle (t ∷ ts)) (sym (same more)) (record {
      between = (idle more).between;
      none = (idle more).none;
    })
