-- What the steps of one machine keep: a walk says it of places, tokens and refusals. The machine is put beside itself.
use Rattle.std.proofs.Common.{◌≡◌, ◌≢◌, ℕ, zero, suc, ◌+◌, ◌≤◌, true, false, List, [], ◌∷◌, Option, Some, None, Result, Ok, Err, refl, ap, inr, arith}
use Rattle.std.proofs.lemmas.List.Elements.{All-nil}
use Rattle.std.specs.List.{All}
use Rattle.saphyr_scalar.specs.declared.scalar.position.Marker.{Marker}
use Rattle.saphyr_scalar.specs.declared.scalar.position.Span.{Span}
use Rattle.saphyr_scalar.specs.declared.scalar.fault.Refusal.{Refusal}
use Rattle.saphyr_scalar.specs.declared.scalar.fault.FaultText.{FaultText}
use Rattle.saphyr_scanner.specs.Views.Tokens.{Piece, Remaining}
use Rattle.saphyr_machine.specs.declared.state.State.{State}
use Rattle.saphyr_machine.specs.declared.state.State.TheVariants as state
use Rattle.saphyr_machine.specs.Events.{Happening}
use Rattle.saphyr_machine.specs.Steps.Machine.{Machine, Emitted, ending_refusal, text_start}
use Rattle.saphyr_machine.specs.Steps.Expected.{event_step}
use Rattle.saphyr_machine.specs.Answer.{Answer, Ending, answer_of_step, ending_of, answer_unless_ended, answer_of_steps, weight_before, total_weight}
use Rattle.saphyr_machine.proofs.Beside.Machines.{is_end, behind_by, Beside, EndsAlike, Between, EmitsAlike}
use Rattle.saphyr_machine.proofs.Beside.Documents.{steps_alike}

pub record Walk : Type 1 where
  -- from one place up to another
  pub Spans : Marker → Marker → Type 0
  -- tokens that are from a place on, with a room and what ends them
  pub Ahead : Marker → ℕ → Option Refusal → List Piece → Type 0
  -- the same between two steps, where a state is expected
  pub Rests : State → ℕ → Option Refusal → List Piece → Type 0
  -- a refusal
  pub Fails : Refusal → Type 0
  pub joined : (a b c : Marker) → Spans a b → Spans b c → Spans a c
  pub start : Spans text_start text_start
  pub first : (a b : Marker) → Spans a b → Spans a a
  pub last : (a b : Marker) → Spans a b → Spans b b
  pub fails : (text : FaultText) (a : Marker) → Spans a a → Fails (record { text = text; mark = a; may_change = false })
  pub nothing : (low : Marker) (d : ℕ) (r : Option Refusal) → Ahead low d r [] → Fails (ending_refusal r)
  pub own : (low : Marker) (d : ℕ) (r : Option Refusal) (t : Piece) (ts : List Piece) → Ahead low d r (t ∷ ts)
      → Spans low t.span.start × Spans t.span.start t.span.end
  pub from_start : (low : Marker) (d : ℕ) (r : Option Refusal) (t : Piece) (ts : List Piece) → Ahead low d r (t ∷ ts)
      → Ahead t.span.start d r (t ∷ ts)
  pub behind : (low : Marker) (d : ℕ) (r : Option Refusal) (t : Piece) (ts : List Piece) → is_end t.kind ≡ false
      → Ahead low d r (t ∷ ts) → Ahead t.span.end (10 + d) r ts
  pub less : (low : Marker) (c d : ℕ) (r : Option Refusal) (ts : List Piece) → c ≤ d → Ahead low d r ts
      → Ahead low c r ts
  pub rests : (low : Marker) (s : State) (d : ℕ) (r : Option Refusal) (ts : List Piece) → Ahead low d r ts
      → Rests s d r ts
  pub over : (low : Marker) (d c : ℕ) (r : Option Refusal) (t : Piece) (ts : List Piece) → is_end t.kind ≡ true
      → c ≤ 10 + d → Ahead low d r (t ∷ ts) → Rests state.End c r ts

-- A promise on one machine, as one on a machine and itself. So one walk of all steps shows both kinds of promise.
abbrev pub beside_itself : Walk → Beside
beside_itself w =
    record {
      Spans = λ a b x y. w.Spans a b;
      Ahead = λ a x d r q. w.Ahead a d r.refusal r.pieces × (q ≡ r);
      Rests = λ s d r q. w.Rests s d r.refusal r.pieces × (q ≡ r);
      Over = λ k r q. ⊥;
      Setting = λ b c. c ≡ b;
      Early = λ f. ⊥;
      Refused = λ f g. w.Fails f;
      joined = λ a b c x y z s t. w.joined a b c s t;
      start = w.start;
      first = λ a b x y s. w.first a b s;
      last = λ a b x y s. w.last a b s;
      refused = λ text a x s. w.fails text a s;
      none = λ a x d us o e i. inr (ap (λ (r : Remaining). r.pieces) i.1, w.nothing a d o i.0);
      next = λ a x d t ts us o e i.
          let same = ap (λ (r : Remaining). record { pieces = ts; refusal = r.refusal }) i.1 in
          record {
            span = t.span;
            tail = ts;
            is = ap (λ (r : Remaining). r.pieces) i.1;
            gap = (w.own a d o t ts i.0).0;
            own = (w.own a d o t ts i.0).1;
            front = (w.from_start a d o t ts i.0, i.1);
            behind = behind_by _ (λ k r q. ⊥) _ t.kind _ _ (λ n. (w.behind a d o t ts n i.0, same))
                (λ y c l. (w.over a d c o t ts y l i.0, same));
          };
      less = λ a x c d r q l i. (w.less a c d r.refusal r.pieces l i.0, i.1);
      rests = λ a x s d r q i. (w.rests a s d r.refusal r.pieces i.0, i.1);
    }

-- between two steps
abbrev pub HoldsBetween : Walk → Machine → Type 0
HoldsBetween w m = Between (beside_itself w) m m

pub between : (w : Walk) (m : Machine) → EndsAlike (beside_itself w) m.pair_ends m.pair_ends
    → w.Rests m.state (10 + weight_before m.state m.tokens.pieces + total_weight m.states) m.tokens.refusal
    m.tokens.pieces → HoldsBetween w m
between w m e h = grind arith

-- what a step gives
abbrev pub StepGives : Walk → Result Emitted Refusal → Type 0
StepGives w (Ok x) = w.Spans x.span.start x.span.end × HoldsBetween w x.machine
StepGives w (Err f) = w.Fails f

module _ (w : Walk) where
  given : (r : Result Emitted Refusal) → EmitsAlike (beside_itself w) r r → StepGives w r
  given u0 h = grind arith

  pub steps : (low : Marker) (m : Machine) → m.state ≢ state.End
      → EndsAlike (beside_itself w) m.pair_ends m.pair_ends
      → w.Ahead low (9 + weight_before m.state m.tokens.pieces + total_weight m.states) m.tokens.refusal m.tokens.pieces
      → StepGives w (event_step m)
  unfolding event_step
  steps low m on e a = given (event_step m)
      (steps_alike (beside_itself w) (λ r q o. o) m.state low low m m on (λ i b c k. k)
      (record { tokens = (a, refl); states = refl; pair_ends = e; anchors = refl; prefixes = refl; setting = refl }))

  -- ## All events

  -- the next step finds the tokens as the last one left them, where the room is of no account
  abbrev pub Resumes : Type 0
  Resumes = (s : State) (c d : ℕ) (r : Option Refusal) (ts : List Piece) → s ≢ state.End → w.Rests s d r ts
      → (low : Marker) × w.Ahead low c r ts

  pub step : Resumes → (m : Machine) → m.state ≢ state.End → HoldsBetween w m → StepGives w (event_step m)
  step go m on h =
      let a : (low : Marker) × w.Ahead low _ m.tokens.refusal m.tokens.pieces =
      go m.state _ _ m.tokens.refusal m.tokens.pieces on h.rest.tokens.0 in
      steps a.0 m on h.rest.pair_ends a.1

  abbrev pub IsFailed : Option Ending → Type 0
  IsFailed None = Unit {0}
  IsFailed (Some e) = (f : Refusal) × (e ≡ ending_of f) × w.Fails f

  -- the spans of all events, and the fault after them
  pub record Holds (a : Answer) : Type 0 where
    pub spans : All (λ (e : Happening × Span). w.Spans e.1.start e.1.end) a.events
    pub fault : IsFailed a.fault

  nothing : Holds (record { events = []; fault = None })
  nothing = record { spans = All-nil (λ (e : Happening × Span). w.Spans e.1.start e.1.end); fault = tt }

  unless_over : (s : State) (a : Answer) → (s ≢ state.End → Holds a) → Holds (answer_unless_ended s a)
  unless_over state.End a h = nothing
  unless_over _ a h = h (λ e. absurd (cc))

  delivers : (r : Result Emitted Refusal) (go : Machine → Answer) → StepGives w r
      → ((m : Machine) → HoldsBetween w m → Holds (go m)) → Holds (answer_of_step r go)
  delivers u0 go g h = grind arith

  pub runs : Resumes → (n : ℕ) (m : Machine) → HoldsBetween w m → Holds (answer_of_steps n m)
  runs go zero m s = nothing
  runs go (suc n) m s = unless_over m.state _
      (λ alive. delivers (event_step m) _ (step go m alive s) (λ k t. runs go n k t))
