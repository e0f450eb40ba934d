-- Whether prefixes of tags are kept counts at the end of a document alone: every other step leaves the same with
-- each value.
use Rattle.event_laws.proofs.Common.{◌≡◌, ◌≢◌, Bool, Option, Result, Ok, Err, refl, ap, ◌∙◌, inl, inr, arith, Span, Refusal, Remaining, State, Happening, Machine, Emitted, ending_refusal, EventCursor, Kept, keeping_tags, Advances, Beside, Left, EmitsAlike, behind_by, steps_alike}
use Rattle.saphyr_machine.specs.declared.state.State.TheVariants as state
use Rattle.saphyr_machine.specs.Events as events
use Rattle.saphyr_machine.specs.Steps.Documents as document
use Rattle.saphyr_machine.specs.Steps.Machine.{text_start}
use Rattle.saphyr_machine.specs.Steps.Expected.{event_step, event_step_at}
use Rattle.event_laws.specs.Settings.{with_keep_tags, with_setting}
use Rattle.event_laws.proofs.Maps.{becomes, emits_so, stay, leaves}

-- ## All steps

-- What the walk of all steps (`steps_alike`) compares here: two machines that differ in whether prefixes of tags are
-- kept, and in nothing else.
abbrev with_set : Bool → Beside
with_set b =
    record {
      Spans = λ a b x y. (x ≡ a) × (y ≡ b);
      Ahead = λ a x d r q. (x ≡ a) × (q ≡ r);
      Rests = λ s d r q. q ≡ r;
      Over = λ k r q. ⊥;
      Setting = λ c d. d ≡ b;
      Early = λ f. ⊥;
      Refused = λ f g. g ≡ f;
      start = (refl, refl);
      joined = λ a b c x y z s t. (s.0, t.1);
      first = λ a b x y s. (s.0, s.0);
      last = λ a b x y s. (s.1, s.1);
      refused = λ text a x s. rw s.0 refl;
      none = λ a x d us o e i.
          inr (ap (λ (r : Remaining). r.pieces) i.1, ap (λ (r : Remaining). ending_refusal r.refusal) i.1);
      next = λ a x d t ts us o e i.
          let same = ap (λ (r : Remaining). record { pieces = ts; refusal = r.refusal }) i.1 in
          record {
            span = t.span;
            tail = ts;
            is = ap (λ (r : Remaining). r.pieces) i.1;
            gap = (i.0, refl);
            own = (refl, refl);
            front = (refl, i.1);
            behind = behind_by _ (λ k r q. ⊥) _ t.kind _ _ (λ n. (refl, same)) (λ y c l. same);
          };
      less = λ a x c d r q l i. i;
      rests = λ a x s d r q i. i.1;
    }

set_left : (b : Bool) (what : Happening) (m n : Machine) → Left (with_set b) what m n → n ≡ with_keep_tags b m
set_left b what m n (inl h) = becomes (with_set b) _ (λ p. p) m.tokens b m n (λ p q e. e.0) h.state h.rest h.rest.tokens
    h.rest.setting ∙ stay m.tokens b m
set_left b what m n (inr o) = absurd o.2.tokens

set_same : (b : Bool) (p q : Result Emitted Refusal) → EmitsAlike (with_set b) p q → q ≡ with_setting b p
set_same b (Ok x) (Ok y) h =
    ap Ok (emits_so (with_set b) (λ p. p) x y _ (λ p q e. e.0) h (set_left b x.what x.machine y.machine h.machine))
set_same b (Ok x) (Err g) h = absurd h
set_same b (Err f) (Ok y) (inl e) = absurd e
set_same b (Err f) (Ok y) (inr e) = absurd e
set_same b (Err f) (Err g) (inl e) = absurd e
set_same b (Err f) (Err g) (inr e) = rw e refl

sets_at : (b : Bool) (s : State) (m : Machine) → s ≢ state.DocumentEnd
    → event_step_at s (with_keep_tags b m) ≡ with_setting b (event_step_at s m)
sets_at b state.End m other = refl
sets_at b s m other = set_same b _ _ (steps_alike (with_set b) (λ r q o. o) s text_start text_start m
    (with_keep_tags b m) (λ e. absurd (cc)) (λ e. absurd (other e))
    (leaves (with_set b) _ m.tokens b m (λ p. (refl, refl)) (refl, refl) refl))

-- each step but that at the end of a document
pub sets : (b : Bool) (m : Machine) → m.state ≢ state.DocumentEnd
    → event_step (with_keep_tags b m) ≡ with_setting b (event_step m)
unfolding event_step
sets b m other = sets_at b m.state m other

-- ## Between events

setting : (b : Bool) (c : Option (Happening × Span)) (k : Option Kept) (m : Machine) (i : Bool) (f : Option Span)
    (e : Happening × Span) (new : EventCursor) → e.0 ≢ events.DocumentEnd
    → Advances e (record { current = c; kept = k; machine = m; inside = i; finished = f }) new
    → Advances e (record { current = c; kept = k; machine = with_keep_tags b m; inside = i; finished = f })
    (keeping_tags b new)
unfolding event_step document.document_end
setting b u0 k m i f e new other u1 = grind (arith, sets)

-- any other event is handed out whatever the setting, which may be made before it or after it
pub sets_behind : (e : Happening × Span) (old new : EventCursor) (b : Bool) → e.0 ≢ events.DocumentEnd
    → Advances e old new → Advances e (keeping_tags b old) (keeping_tags b new)
sets_behind e old new b other h = setting b old.current old.kept old.machine old.inside old.finished e new other h
