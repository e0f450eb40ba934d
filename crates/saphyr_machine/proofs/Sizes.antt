-- Each step leaves less to do, so that all steps end.
use Rattle.std.proofs.Common.{◌≡◌, ◌≢◌, ℕ, ◌+◌, ◌*◌, ◌≤◌, List, [], ◌∷◌, length, Ok, refl, arith, subst}
use Rattle.saphyr_scalar.specs.declared.scalar.position.Marker.{Marker}
use Rattle.saphyr_machine.specs.declared.state.State.TheVariants as state
use Rattle.saphyr_machine.specs.Steps.Machine.{Machine, Emitted, text_start}
use Rattle.saphyr_machine.specs.Steps.Expected.{event_step}
use Rattle.saphyr_machine.specs.Answer.{machine_size}
use Rattle.saphyr_machine.proofs.Beside.Machines.{EndsAlike}
use Rattle.saphyr_machine.proofs.Walk.{Walk, beside_itself, StepGives, steps}

-- no more than n is left to do
abbrev measured : ℕ → Walk
measured n = record {
  Spans = λ a b. Unit {0};
  Ahead = λ low d r ts. 10 * length ts + d ≤ n + 10;
  Rests = λ s d r ts. 10 * length ts + d ≤ n + 10;
  Fails = λ f. Unit {0};
  joined = λ a b c s t. tt;
  start = tt;
  first = λ a b s. tt;
  last = λ a b s. tt;
  fails = λ text a s. tt;
  nothing = λ low d r a. tt;
  own = λ low d r t ts a. (tt, tt);
  from_start = λ low d r t ts a. a;
  behind = λ low d r t ts e a. omega (arith, a);
  less = λ low c d r ts l a. omega (arith, l, a);
  rests = λ low s d r ts a. a;
  over = λ low d c r t ts e l a. omega (arith, l, a);
}

any_ends : (n : ℕ) (ps : List Marker) → EndsAlike (beside_itself (measured n)) ps ps
any_ends n [] = tt
any_ends n (p ∷ ps) = (tt, any_ends n ps)

size_left : (n : ℕ) (x : Emitted) → StepGives (measured n) (Ok x) → machine_size x.machine ≤ n
size_left n x g = let l : 10 * length x.machine.tokens.pieces + _ ≤ n + 10 = g.1.rest.tokens.0 in omega (arith, l)

pub step_leaves : (n : ℕ) (m : Machine) (x : Emitted) → m.state ≢ state.End → machine_size m ≤ n + 1
    → event_step m ≡ Ok x → machine_size x.machine ≤ n
step_leaves n m x alive l e =
    size_left n x
    (subst (StepGives (measured n)) e
    (steps (measured n) text_start m alive (any_ends n m.pair_ends) (omega (arith, l))))
