-- The events still to come, one step at a time.
use Rattle.std.proofs.Common.{◌≡◌, ◌≢◌, ℕ, zero, suc, ◌-◌, ◌≤◌, ◌<◌, List, Result, Ok, Err, refl, ap, ◌∙◌, arith, subst}
use Rattle.saphyr_scalar.specs.declared.scalar.fault.Refusal.{Refusal}
use Rattle.saphyr_scanner.specs.Views.Tokens.{Piece}
use Rattle.saphyr_machine.specs.declared.state.State.{State}
use Rattle.saphyr_machine.specs.declared.state.State.TheVariants as state
use Rattle.saphyr_machine.specs.Steps.Machine.{Machine, Emitted}
use Rattle.saphyr_machine.specs.Steps.Expected.{event_step, event_step_at}
use Rattle.saphyr_machine.specs.Answer.{Answer, empty_answer, with_first_event, answer_of_step, answer_unless_ended, answer_of_steps, remaining_answer, machine_size, weight_before}
use Rattle.saphyr_machine.proofs.Sizes.{step_leaves}

alive_at : (s : State) (m : Machine) (x : Emitted) → event_step_at s m ≡ Ok x → 0 < weight_before s m.tokens.pieces
alive_at u0 m x e = grind arith

going : (s : State) (ts : List Piece) → 0 < weight_before s ts → s ≢ state.End
going s ts l e = let none = subst (λ s. 0 < weight_before s ts) e l in absurd (omega (arith, none))

-- a step leaves less than there was
pub shrinks_at : (n : ℕ) (m : Machine) (x : Emitted) → machine_size m ≤ n → event_step m ≡ Ok x
    → machine_size x.machine < n
unfolding event_step
shrinks_at n m x l e =
    let alive = alive_at m.state m x e in
    let less = step_leaves (n - 1) m x (going m.state m.tokens.pieces alive) (omega (arith, l, alive)) e in
    omega (arith, less, l, alive)

same_delivery : (r : Result Emitted Refusal) (go ho : Machine → Answer)
    → ((x : Emitted) → r ≡ Ok x → go x.machine ≡ ho x.machine) → answer_of_step r go ≡ answer_of_step r ho
same_delivery (Err e) go ho h = refl
same_delivery (Ok x) go ho h = ap (with_first_event (x.what, x.span)) (h x refl)

enough : (n k : ℕ) (m : Machine) → machine_size m < n → machine_size m < k → answer_of_steps n m ≡ answer_of_steps k m
enough zero k m a b = absurd (omega (arith, a))
enough (suc n) zero m a b = absurd (omega (arith, b))
enough (suc n) (suc k) m a b =
    ap (answer_unless_ended m.state)
    (same_delivery (event_step m) _ _
    (λ x e. enough n k x.machine (shrinks_at n m x (omega (arith, a)) e) (shrinks_at k m x (omega (arith, b)) e)))

unless_ended_is : (s : State) (a : Answer) → s ≢ state.End → answer_unless_ended s a ≡ a
unless_ended_is state.End a h = absurd (h refl)
unless_ended_is _ a h = refl

is_over : (s : State) (a : Answer) → s ≡ state.End → answer_unless_ended s a ≡ empty_answer
is_over s a e = rw e refl

pub unroll : (m : Machine) → m.state ≢ state.End → remaining_answer m ≡ answer_of_step (event_step m) remaining_answer
unfolding remaining_answer
unroll m h = unless_ended_is m.state _ h
    ∙ same_delivery (event_step m) _ _
    (λ x e. enough (machine_size m) (suc (machine_size x.machine)) x.machine
    (shrinks_at (machine_size m) m x (omega arith) e) (omega arith))

pub over : (m : Machine) → m.state ≡ state.End → remaining_answer m ≡ empty_answer
unfolding remaining_answer
over m e = is_over m.state _ e
