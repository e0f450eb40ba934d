-- Tokens with a common beginning give the same events, as long as no step looks past it.
use Rattle.event_laws.proofs.Common.{◌≡◌, ◌≢◌, ℕ, zero, suc, ◌<◌, List, [], ◌∷◌, ◌++◌, Option, Some, Result, Ok, Err, refl, sym, ap, ◌∙◌, arith, ◌⊎◌, inl, inr, Span, Refusal, Kind, Piece, State, Happening, DocumentMarker, Starts, Ends, marker_event, Machine, Emitted, ending_refusal, with_pieces, Answer, with_first_event, answer_of_step, fault_alone, ending_of, remaining_answer, machine_size, with_more, BeginsAs, marker_token, unroll, over, shrinks_at, IsBetweenDocuments, Awaits}
use Rattle.saphyr_machine.specs.declared.state.State.TheVariants as state
use Rattle.saphyr_machine.specs.Steps.Documents.{unpassed_token, implicit_start, document_content}
use Rattle.saphyr_machine.specs.Steps.Expected.{event_step, event_step_at}
use Rattle.event_laws.proofs.Longer.{More, longer, IsLastOr, End, IsLeft, IsLeftBehind, left_behind, AgreesOrEndsEarly, PassesAll, steps_agree}

-- ## One step

pub or_last : (w : DocumentMarker) (B : Type 0) (ts : List Piece) (k : Kind) → B → IsLastOr w B ts k
or_last w B ts k b = grind arith

-- tokens of which nothing is known may end too early
early : (w : DocumentMarker) (us : List Piece) (e : Option Refusal) (ts : List Piece)
    → End (record { Early = Unit {0}; marker = w; pieces = us; refusal = e }) ts
early w us e [] = tt
early w us e (t ∷ ts) = or_last w _ ts t.kind (early w us e ts)

pub ended : (s : State) → (s ≡ state.End) ⊎ (s ≢ state.End)
ended u0 = grind arith

step_given : (z : More) (m : Machine) (x : Emitted) → End z m.tokens.pieces → event_step m ≡ Ok x
    → event_step (longer z m) ≡ Ok (record x { machine = longer z x.machine })
unfolding event_step
step_given z m x e is = by (ended m.state)
  where
    agreed : AgreesOrEndsEarly z m.tokens.refusal (event_step_at m.state m) (event_step_at m.state (longer z m))
        ⊎ (IsBetweenDocuments m.state × PassesAll z m (event_step_at m.state))
        → event_step_at m.state (longer z m) ≡ Ok (record x { machine = longer z x.machine })
    agreed h = grind arith

    none : (s : State) → s ≡ state.End → event_step_at s m ≡ Ok x → ⊥
    none s y i = grind arith

    by : (m.state ≡ state.End) ⊎ (m.state ≢ state.End)
        → event_step_at m.state (longer z m) ≡ Ok (record x { machine = longer z x.machine })
    by (inl y) = absurd (none m.state y is)
    by (inr n) = agreed (steps_agree z m.state m n e)

-- a step gives the same with more tokens after, which are left after those that it leaves
pub same_step : (m : Machine) (us : List Piece) (e : Option Refusal) (x : Emitted) → event_step m ≡ Ok x
    → event_step (with_more us e m) ≡ Ok (record x { machine = with_more us e x.machine })
same_step m us e x is = step_given (record { Early = Unit {0}; marker = Starts; pieces = us; refusal = e }) m x
    (early Starts us e m.tokens.pieces) is

-- ## All steps

-- an answer after events
abbrev pub behind_all : List (Happening × Span) → Answer → Answer
behind_all es a = record { events = es ++ a.events; fault = a.fault }

-- where a machine wants another token after the marker, unless its tokens ended too early
abbrev pub IsStopped : More → Machine → Type 0
IsStopped z k = z.Early ⊎ ((k.tokens.pieces ≡ [])
    × (Awaits (marker_token z.marker) k ⊎ ((z.marker ≡ Ends) × IsBetweenDocuments k.state)))

-- The last of the events that a machine m tells, where k wants another token after the marker, is the marker's own;
-- unless m had told it before, no document was open at `...`, or the tokens ended too early.
abbrev pub IsLastEmittedBy : More → Machine → Machine → List (Happening × Span) → Type 0
IsLastEmittedBy z m k es = (z.Early ⊎ ((z.marker ≡ Ends) × IsBetweenDocuments k.state))
    ⊎ (((m.tokens.pieces ≡ []) × (es ≡ []))
    ⊎ ((os : List (Happening × Span)) × (s : Span) × (es ≡ os ++ (marker_event z.marker, s) ∷ [])))

-- The answers are the same; or the end of the tokens, which r ends, is the fault of the first, and the second goes on
-- from there.
abbrev pub GoesOn : More → Option Refusal → Machine → Answer → Answer → Type 0
GoesOn z r m a b = (b ≡ a) ⊎ ((a.fault ≡ Some (ending_of (ending_refusal r)))
    × ((k : Machine) × IsStopped z k × (b ≡ behind_all a.events (remaining_answer (longer z k)))
    × IsLastEmittedBy z m k a.events))

last_behind_event : (z : More) (x : Emitted) (m k : Machine) (es : List (Happening × Span))
    → IsLeftBehind z x.what x.machine → IsLastEmittedBy z x.machine k es → IsLastEmittedBy z m k ((x.what, x.span) ∷ es)
last_behind_event z x m k es l (inl h) = inl h
last_behind_event z x m k es (inl l) (inr (inl h)) = inl (inl (rw h.0 at l))
last_behind_event z x m k es (inr l) (inr (inl h)) = inr (inr ([], x.span, rw h.1 (ap (λ v. (v, x.span) ∷ []) l.2)))
last_behind_event z x m k es l (inr (inr h)) =
    inr (inr ((x.what, x.span) ∷ h.0, h.1, ap (λ v. (x.what, x.span) ∷ v) h.2))

goes_on_behind_event : (z : More) (r : Option Refusal) (x : Emitted) (m : Machine) (a b : Answer)
    → IsLeftBehind z x.what x.machine → GoesOn z r x.machine a b
    → GoesOn z r m (with_first_event (x.what, x.span) a) (with_first_event (x.what, x.span) b)
goes_on_behind_event z r x m a b l (inl y) = inl (ap (with_first_event (x.what, x.span)) y)
goes_on_behind_event z r x m a b l (inr y) =
    inr (
      y.0,
      (y.1.0, y.1.1, ap (with_first_event (x.what, x.span)) y.1.2, last_behind_event z x m y.1.0 a.events l y.1.3),
    )

as_before : (z : More) (r : Option Refusal) (m : Machine) (a c b d : Answer) → a ≡ c → b ≡ d → GoesOn z r m c d
    → GoesOn z r m a b
as_before z r m a c b d x y g = rw (x, y) g

delivers_longer : (z : More) (r : Option Refusal) (m : Machine) (p q : Result Emitted Refusal)
    → AgreesOrEndsEarly z r p q
    → answer_of_step q remaining_answer ≡ remaining_answer (longer z m) → ((x : Emitted) → p ≡ Ok x → IsLeft z x.machine
    → GoesOn z x.machine.tokens.refusal x.machine (remaining_answer x.machine) (remaining_answer (longer z x.machine)))
    → GoesOn z r m (answer_of_step p remaining_answer) (answer_of_step q remaining_answer)
delivers_longer z r m (Ok x) q a s h =
    rw a.2 (goes_on_behind_event z r x m _ _ a.0 (rw (← a.1) (h x refl (left_behind z x.what x.machine a.0))))
delivers_longer z r m (Err f) q (inl e) s h = inr (rw e.1 refl, (m, inl e.0, s, inl (inl e.0)))
delivers_longer z r m (Err f) q (inr e) s h = inl (rw e refl)

-- what waits for a token after the marker gets none
none_awaited : (w : DocumentMarker) (m : Machine) → m.tokens.pieces ≡ [] → Awaits (marker_token w) m
    → event_step_at m.state m ≡ Err (ending_refusal m.tokens.refusal)
unfolding implicit_start unpassed_token document_content
none_awaited w m e a = grind arith

-- a step, and what comes after it
first_step : (z : More) (m : Machine) → ((x : Emitted) → event_step m ≡ Ok x → IsLeft z x.machine
    → GoesOn z x.machine.tokens.refusal x.machine (remaining_answer x.machine) (remaining_answer (longer z x.machine)))
    → IsLeft z m → GoesOn z m.tokens.refusal m (remaining_answer m) (remaining_answer (longer z m))
unfolding event_step
first_step z m next i = by (ended m.state) i
  where
    r : Option Refusal
    r = m.tokens.refusal

    agreed : m.state ≢ state.End → AgreesOrEndsEarly z r (event_step_at m.state m) (event_step_at m.state (longer z m))
        ⊎ (IsBetweenDocuments m.state × PassesAll z m (event_step_at m.state))
        → GoesOn z r m (answer_of_step (event_step_at m.state m) remaining_answer)
        (answer_of_step (event_step_at m.state (longer z m)) remaining_answer)
    agreed h (inl a) = delivers_longer z r m (event_step_at m.state m) (event_step_at m.state (longer z m)) a
        (sym (unroll (longer z m) h)) next
    agreed h (inr p) = rw p.1.1
        (inr (
          refl,
          (
            with_pieces [] m,
            inr (refl, inr (p.1.0, p.0)),
            cc (unroll (longer z (with_pieces [] m)) h),
            inl (inr (p.1.0, p.0)),
          ),
        ))

    by : (m.state ≡ state.End) ⊎ (m.state ≢ state.End) → IsLeft z m
        → GoesOn z r m (remaining_answer m) (remaining_answer (longer z m))
    by (inl e) k = inl (over (longer z m) e ∙ sym (over m e))
    by (inr h) (inl e) = as_before z r m _ _ _ _ (unroll m h) (unroll (longer z m) h)
        (agreed h (steps_agree z m.state m h e))
    by (inr h) (inr k) = as_before z r m _ (fault_alone (ending_of (ending_refusal r))) _ _
        (cc (unroll m h, none_awaited z.marker m k.0 k.1)) refl
        (inr (refl, (m, inr (k.0, inl k.1), refl, inr (inl (k.0, refl)))))

runs : (n : ℕ) (z : More) (m : Machine) → machine_size m < n → IsLeft z m
    → GoesOn z m.tokens.refusal m (remaining_answer m) (remaining_answer (longer z m))
runs zero z m l i = absurd (omega (arith, l))
runs (suc n) z m l i = first_step z m (λ x e k. runs n z x.machine (shrinks_at n m x (omega (arith, l)) e) k) i

pub goes_on : (z : More) (m : Machine) → IsLeft z m
    → GoesOn z m.tokens.refusal m (remaining_answer m) (remaining_answer (longer z m))
goes_on z m i = runs (suc (machine_size m)) z m (omega arith) i

first_ones : (z : More) (r : Option Refusal) (m : Machine) (a b : Answer) → GoesOn z r m a b
    → BeginsAs (ending_refusal r) a b
first_ones z r m a b u0 = grind arith

-- the events of a machine are the first ones with more tokens after, and all where another fault than the end of its
-- tokens ends them, or none
pub begins_as : (m : Machine) (us : List Piece) (e : Option Refusal)
    → BeginsAs (ending_refusal m.tokens.refusal) (remaining_answer m) (remaining_answer (with_more us e m))
begins_as m us e =
    let z : More = record { Early = Unit {0}; marker = Starts; pieces = us; refusal = e } in
    first_ones z m.tokens.refusal m _ _ (goes_on z m (inl (early Starts us e m.tokens.pieces)))
