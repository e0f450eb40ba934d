use Rattle.std.proofs.Common.{◌≡◌, ℕ, ◌+◌, ◌<◌, [], ◌∷◌, Option, Some, None, refl, arith}
use Rattle.std.specs.Prelude.{⊤, ◌==◌, if◌then◌else◌}
use Rattle.std.proofs.Props.{props}
use Rattle.saphyr_input.specs.Listed.{Lists, IsCallable}
use Rattle.test_parser.specs.declared.reader.input.buffered.Stutter.{Stutter}
use Rattle.test_parser.proofs.reader.input.buffered.stuttering.Goals as goal

abbrev gives : Stutter → Option ℕ → Stutter → Type 0
gives s r t = (r ≡ (if s.place == 0 then Some 97 else (if s.place == 2 then Some 98 else None)))
    × (s.place < 3 → t.place ≡ s.place + 1)

callable : (s : Stutter) → IsCallable (λ _. ⊤) gives s
callable s = (hlevel props, tt)

-- after the first item no other comes
lists_none : (s : Stutter) → s.place ≡ 1 → Lists (λ _. ⊤) gives s []
lists_none s e = (
  callable s,
  (
    ∣ (record s { place = s.place + 1 }, (rw e refl, λ some. refl)) ∣₁,
    λ (q : Option ℕ) (t : Stutter)
        (step : gives s q t). let h = step.0 in rw e at h,
  ),
)

lists_one : (s : Stutter) → s.place ≡ 0 → Lists (λ _. ⊤) gives s (97 ∷ [])
lists_one s e = (
  callable s,
  (
    ∣ (record s { place = s.place + 1 }, (rw e refl, λ some. refl)) ∣₁,
    λ (q : Option ℕ) (t : Stutter)
        (step : gives s q t). let h = step.0 in rw e at h,
  ),
  λ (t : Stutter) (step : gives s (Some 97) t). lists_none t
      (let few : s.place < 3 = omega arith in let h = step.1 few in omega arith),
)

pub new-requires : goal.new-requires
new-requires c = (97 ∷ [], lists_one (record { place = 0; calls = c.args.calls }) refl)
