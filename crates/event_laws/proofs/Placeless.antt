-- Where tokens are changes nothing of the events but their spans.
use Rattle.event_laws.proofs.Common.{◌≡◌, ◌≢◌, map, None, Result, Ok, Err, refl, ap, inl, inr, arith, Refusal, Span, Piece, Remaining, State, Machine, Emitted, LeavesEnd, Happening, goes_on, Beside, Left, EmitsAlike, behind_by, steps_alike}
use Rattle.saphyr_machine.specs.declared.state.State.TheVariants as state
use Rattle.saphyr_machine.specs.Steps.Machine.{text_start}
use Rattle.saphyr_machine.specs.Steps.Expected.{event_step, event_step_at}
use Rattle.event_laws.proofs.Maps.{puts, becomes, emits_so}

-- ## Machines without places, all at the start of the text

abbrev pub start_span : Span
start_span = record { start = text_start; end = text_start }

abbrev pub placeless_piece : Piece → Piece
placeless_piece t = record { span = start_span; kind = t.kind }

abbrev placeless_tokens : Remaining → Remaining
placeless_tokens r = record { pieces = map placeless_piece r.pieces; refusal = None }

-- the machine's tokens, and the ends of its pairs, without their places, and without the refusal that ends the tokens
abbrev pub placeless : Machine → Machine
placeless m = record m {
  tokens = placeless_tokens m.tokens;
  pair_ends = map (λ p. text_start) m.pair_ends;
}

-- the second result is the first without places, or both refuse
abbrev pub Same : Result Emitted Refusal → Result Emitted Refusal → Type 0
Same (Ok x) q = q ≡ Ok (record { what = x.what; span = start_span; machine = placeless x.machine })
Same (Err f) q = (g : Refusal) × (q ≡ Err g)

-- ## Each step

-- What the walk of all steps (`steps_alike`) compares here: a machine, and one of the same tokens without places. Its
-- places are all the start of a text, and a refusal may be any.
abbrev without_places : Beside
without_places =
    record {
      Spans = λ a b x y. (x ≡ text_start) × (y ≡ text_start);
      Ahead = λ a x d r q. (x ≡ text_start) × (q ≡ placeless_tokens r);
      Rests = λ s d r q. q ≡ placeless_tokens r;
      Over = λ k r q. ⊥;
      Setting = λ b c. c ≡ b;
      Early = λ f. ⊥;
      Refused = λ f g. Unit {0};
      start = (refl, refl);
      joined = λ a b c x y z s t. (s.0, t.1);
      first = λ a b x y s. (s.0, s.0);
      last = λ a b x y s. (s.1, s.1);
      refused = λ text a x s. tt;
      none = λ a x d us o e i. inr (ap (λ (r : Remaining). r.pieces) i.1, tt);
      next = λ a x d t ts us o e i.
          let same =
          ap (λ (r : Remaining). record { pieces = map placeless_piece ts; refusal = r.refusal }) i.1 in
          record {
            span = start_span;
            tail = map placeless_piece ts;
            is = ap (λ (r : Remaining). r.pieces) i.1;
            gap = (i.0, refl);
            own = (refl, refl);
            front = (refl, i.1);
            behind = behind_by _ (λ k r q. ⊥) _ t.kind _ _ (λ n. (refl, same)) (λ y c l. same);
          };
      less = λ a x c d r q l i. i;
      rests = λ a x s d r q i. i.1;
    }

placeless_left : (what : Happening) (m n : Machine) → Left without_places what m n → n ≡ placeless m
placeless_left what m n (inl h) = becomes without_places _ (λ p. text_start) _ m.keep_tags m n (λ p q e. e.0) h.state
    h.rest h.rest.tokens h.rest.setting
placeless_left what m n (inr o) = absurd o.2.tokens

emitted_same : (p q : Result Emitted Refusal) → EmitsAlike without_places p q → Same p q
emitted_same (Ok x) (Ok y) h = ap Ok (emits_so without_places (λ p. text_start) x y _ (λ p q e. e.0) h
    (placeless_left x.what x.machine y.machine h.machine))
emitted_same (Ok x) (Err g) h = absurd h
emitted_same (Err f) (Ok y) (inl e) = absurd e
emitted_same (Err f) (Ok y) (inr e) = absurd e
emitted_same (Err f) (Err g) h = (g, refl)

beside_placeless : (s : State) (m : Machine) → s ≢ state.End
    → EmitsAlike without_places (event_step_at s m) (event_step_at s (placeless m))
beside_placeless s m on = steps_alike without_places (λ r q o. o) s text_start text_start m (placeless m) on
    (λ e b c k. k) (puts without_places _ (λ p. text_start) (placeless_tokens m.tokens) m.keep_tags m
    (λ p. (refl, refl)) (refl, refl) refl)

pub steps_same : (s : State) (m : Machine) → Same (event_step_at s m) (event_step_at s (placeless m))
steps_same u0 m = grind (arith, emitted_same, beside_placeless)

-- a step that tells the end of the stream ends the machine
pub closes : (m : Machine) (x : Emitted) → event_step m ≡ Ok x → LeavesEnd x.what x.machine.state
unfolding event_step
closes m x e = by _ (rw e at (beside_placeless m.state m (goes_on m x e)))
  where
    by : (q : Result Emitted Refusal) → EmitsAlike without_places (Ok x) q → LeavesEnd x.what x.machine.state
    by (Ok y) h = h.closes
    by (Err g) h = absurd h
