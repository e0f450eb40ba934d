-- The tokens still to come, one at a time.
use Rattle.std.proofs.Common.{◌≡◌, ℕ, zero, suc, ◌<◌, Bool, true, false, List, [], ◌∷◌, Result, Ok, Err, refl, sym, ap, ◌∙◌, arith, subst, cond}
use Rattle.saphyr_scalar.specs.declared.scalar.fault.Refusal.{Refusal}
use Rattle.saphyr_scalar.specs.Views.Cursor.{◌>>=◌}
use Rattle.saphyr_scanner.specs.Views.Tokens.{Remaining, none, refusal_alone}
use Rattle.saphyr_scanner.specs.Steps.Queue.{Place}
use Rattle.saphyr_scanner.specs.Steps.State.{State}
use Rattle.saphyr_scanner.specs.Steps.Fetch.{size, without_far_key, needs_token, fill_in, fill}
use Rattle.saphyr_scanner.specs.Steps.Remaining.{without_first, hand_out, remaining_after, run, remaining}
use Rattle.saphyr_scanner.proofs.Effects.Readers.{Readers}
use Rattle.saphyr_scanner.proofs.Handing.Filling.{read, going, smaller_read, less_read, IsSettled, settled_once, read_settles}
use Rattle.saphyr_scalar.proofs.Given.{bind_ok}
use Rattle.std.proofs.lemmas.Bool.{cond-true, cond-false}

-- what comes after the tokens that can be handed out
abbrev pub behind : ℕ → ℕ → State → Remaining
behind n limit t = cond t.core.ended none (remaining_after (read limit t) (run n limit))

pub same_hands : (ps : List Place) (go ho : State → Remaining) (s : State)
    → ((t : State) → t.core ≡ s.core → go t ≡ ho t) → hand_out ps go s ≡ hand_out ps ho s
same_hands [] go ho s h = h s refl
same_hands (p ∷ ps) go ho s h = by (needs_token s) refl (same_hands ps go ho (without_first ps s) h)
  where
    by : (b : Bool) → needs_token s ≡ b → hand_out ps go (without_first ps s) ≡ hand_out ps ho (without_first ps s)
        → hand_out (p ∷ ps) go s ≡ hand_out (p ∷ ps) ho s
    by b e others = grind arith

pub remaining_after_so : (r : Result State Refusal) (f g : State → Remaining) → ((u : State) → r ≡ Ok u → f u ≡ g u)
    → remaining_after r f ≡ remaining_after r g
remaining_after_so r f g h = grind arith

-- a token less is to be read after each
pub enough : Readers → (limit n m : ℕ) (s : State) → size s.core < n → size s.core < m → run n limit s ≡ run m limit s
enough laws limit zero m s a b = absurd (omega (arith, a))
enough laws limit (suc n) zero s a b = absurd (omega (arith, b))
enough laws limit (suc n) (suc m) s a b = same_hands s.queue.places (behind n limit) (behind m limit) s
    (λ t e. at t e t.core.ended refl
    (λ u less. enough laws limit n m u (omega (arith, less, a)) (omega (arith, less, b))))
  where
    at : (t : State) → t.core ≡ s.core → (over : Bool) → t.core.ended ≡ over
        → ((u : State) → size u.core < size s.core → run n limit u ≡ run m limit u)
        → behind n limit t ≡ behind m limit t
    at t e true over h = cond-true t.core.ended _ _ over ∙ sym (cond-true t.core.ended _ _ over)
    at t e false over h = cond-false t.core.ended _ _ over ∙ remaining_after_so (read limit t) _ _
        (λ u q. let less = less_read laws limit t u over q in h u (omega (arith, less, ap size e)))
        ∙ sym (cond-false t.core.ended _ _ over)

-- the tokens still to come, where no candidate is too far
abbrev pub rest : ℕ → State → Remaining
rest limit s = run (suc (size s.core)) limit s

pub remaining_is : (limit : ℕ) (s t : State) → without_far_key s ≡ Ok t → remaining limit s ≡ rest limit t
unfolding remaining
remaining_is limit s t e = rw e refl

pub settled_is : (s : State) → IsSettled s → without_far_key s ≡ Ok s
settled_is s e = rw e refl

-- what is read first changes nothing
pub hand_nothing : (s : State) (ps : List Place) (go : State → Remaining) → needs_token s ≡ true
    → hand_out ps go s ≡ go s
hand_nothing s [] go needs = refl
hand_nothing s (p ∷ ps) go needs = rw needs refl

pub record Filled (limit : ℕ) (s t : State) : Type 0 where
  pub same : rest limit s ≡ rest limit t
  pub ready : needs_token t ≡ false
  pub settles : IsSettled t

-- Filling the queue keeps the tokens that are still to come, and ends where the first may be handed out. By induction
-- on how often it may read: where a token is needed nothing is handed out, so the first step of the rest is the
-- reading, which leaves a smaller state.
pub filled_in : Readers → (limit n : ℕ) (s t : State) → size s.core < n → IsSettled s → fill_in n limit s ≡ Ok t
    → Filled limit s t
filled_in laws limit zero s t a k e = absurd (omega (arith, a))
filled_in laws limit (suc n) s t a k e =
    by (needs_token s) refl e (λ u less settles f. filled_in laws limit n u t (omega (arith, less, a)) settles f)
  where
    onward : (u : State) → needs_token s ≡ true → read limit s ≡ Ok u → Filled limit u t → Filled limit s t
    onward u needs q others =
        let less = smaller_read laws limit s u needs q in
        let over = going s.core.ended _ needs in
        let first : rest limit s ≡ run (size s.core) limit u = hand_nothing s s.queue.places (behind (size s.core)
        limit)
        needs ∙ cond-false s.core.ended _ _ over ∙ ap (λ r. remaining_after r (run (size s.core) limit)) q in
        record {
          same = first ∙ enough laws limit (size s.core) (suc (size u.core)) u less (omega arith) ∙ others.same;
          ready = others.ready;
          settles = others.settles;
        }

    by : (b : Bool) → needs_token s ≡ b → fill_in (suc n) limit s ≡ Ok t
        → ((u : State) → size u.core < size s.core → IsSettled u → fill_in n limit u ≡ Ok t → Filled limit u t)
        → Filled limit s t
    by true needs f h =
        let g : (read limit s >>= fill_in n limit) ≡ Ok t =
        sym (cond-true (needs_token s) (read limit s >>= fill_in n limit) (Ok s) needs) ∙ f in
        let b = bind_ok (read limit s) (fill_in n limit) t g in
        onward b.0 needs b.1 (h b.0 (smaller_read laws limit s b.0 needs b.1) (read_settles limit s b.0 b.1) b.2)
    by false needs f h =
        let g : Ok s ≡ Ok t = sym (cond-false (needs_token s) (read limit s >>= fill_in n limit) (Ok s) needs) ∙ f in
        let is : s ≡ t = cc in
        record { same = ap (rest limit) is; ready = rw is at needs; settles = subst IsSettled is k }

-- ## A refusal

-- If filling the queue is refused, that refusal is all that is still to come: no token was handed out before it. The
-- induction is that of `filled_in`.
refused_in : Readers → (limit n : ℕ) (s : State) (e : Refusal) → size s.core < n → IsSettled s
    → fill_in n limit s ≡ Err e → rest limit s ≡ refusal_alone e
refused_in laws limit zero s e a k q = absurd (omega (arith, a))
refused_in laws limit (suc n) s e a k q =
    by (needs_token s) refl (λ u less settles f. refused_in laws limit n u e (omega (arith, less, a)) settles f)
  where
    first : needs_token s ≡ true → rest limit s ≡ remaining_after (read limit s) (run (size s.core) limit)
    first needs = hand_nothing s s.queue.places (behind (size s.core) limit) needs
        ∙ cond-false s.core.ended _ _ (going s.core.ended _ needs)

    read_so : (r : Result State Refusal) → read limit s ≡ r → needs_token s ≡ true → (r >>= fill_in n limit) ≡ Err e
        → ((u : State) → size u.core < size s.core → IsSettled u → fill_in n limit u ≡ Err e
        → rest limit u ≡ refusal_alone e)
        → remaining_after r (run (size s.core) limit) ≡ refusal_alone e
    read_so (Ok u) i needs f h =
        let less = smaller_read laws limit s u needs i in
        enough laws limit (size s.core) (suc (size u.core)) u less (omega arith) ∙ h u less (read_settles limit s u i) f
    read_so (Err d) i needs f h = let is : d ≡ e = cc in ap refusal_alone is

    by : (b : Bool) → needs_token s ≡ b
        → ((u : State) → size u.core < size s.core → IsSettled u → fill_in n limit u ≡ Err e
        → rest limit u ≡ refusal_alone e)
        → rest limit s ≡ refusal_alone e
    by true needs h =
        let g : (read limit s >>= fill_in n limit) ≡ Err e =
        sym (cond-true (needs_token s) (read limit s >>= fill_in n limit) (Ok s) needs) ∙ q in
        first needs ∙ read_so (read limit s) refl needs g h
    by false needs h = absurd (cc)

settled_fill : (limit : ℕ) (s : State) (r : Result State Refusal) (e : Refusal)
    → without_far_key s ≡ r → fill limit s ≡ Err e → Readers → remaining limit s ≡ refusal_alone e
unfolding fill remaining
settled_fill limit s (Ok t) e i f laws =
    let g : fill_in (suc (size t.core)) limit t ≡ Err e =
    sym (ap (λ r. r >>= λ u. fill_in (suc (size u.core)) limit u) i) ∙ f in
    ap (λ r. remaining_after r (λ u. run (suc (size u.core)) limit u)) i
    ∙ refused_in laws limit (suc (size t.core)) t e (omega arith) (settled_once s t i) g
settled_fill limit s (Err d) e i f laws =
    let is : d ≡ e = cc in
    ap (λ r. remaining_after r (λ u. run (suc (size u.core)) limit u)) i ∙ ap refusal_alone is

pub refused_first : Readers → (limit : ℕ) (s : State) (e : Refusal) → fill limit s ≡ Err e
    → remaining limit s ≡ refusal_alone e
refused_first laws limit s e f = settled_fill limit s (without_far_key s) e refl f laws
