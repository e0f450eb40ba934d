use Rattle.std.proofs.Common.{◌≡◌, ℕ, ◌+◌, ◌<◌, ◌⊎◌, inl, inr, List, [], ◌∷◌, ◌∙◌, sym, Option, Some, None, refl, arith}
use Rattle.std.specs.Prelude.{⊤, ◌==◌, if◌then◌else◌}
use Rattle.std.proofs.Props.{props}
use Rattle.saphyr_input.specs.Listed.{Listed, Lists, IsCallable}
use Rattle.test_parser.specs.declared.loading.Stutter.{Stutter}
use Rattle.test_parser.proofs.loading.shown_from.Goals as goal

abbrev item : ℕ → Option ℕ
item place = if place == 0 then Some 97 else
    (if place == 2 then Some 98 else
    (if place == 3 then Some 91 else (if place == 4 then Some 49 else (if place == 6 then Some 93 else None))))

abbrev gives : Stutter → Option ℕ → Stutter → Type 0
gives s r t = (r ≡ item s.place) × (s.place < 7 → t.place ≡ s.place + 1)

callable : (s : Stutter) → IsCallable (λ _. ⊤) gives s
callable s = (hlevel props, tt)

-- after a place that gives nothing no item comes
ends : (s : Stutter) → item s.place ≡ None → Lists (λ _. ⊤) gives s []
ends s e = (
  callable s,
  (
    ∣ (record s { place = s.place + 1 }, (sym e, λ some. refl)) ∣₁,
    λ (q : Option ℕ) (t : Stutter) (step : gives s q t). step.0 ∙ e,
  ),
)

goes_on : (s : Stutter) (x : ℕ) (rest : List ℕ) → item s.place ≡ Some x → s.place < 7
    → ((t : Stutter) → t.place ≡ s.place + 1 → Lists (λ _. ⊤) gives t rest)
    → Lists (λ _. ⊤) gives s (x ∷ rest)
goes_on s x rest e few behind = (
  callable s,
  (
    ∣ (record s { place = s.place + 1 }, (sym e, λ some. refl)) ∣₁,
    λ (q : Option ℕ) (t : Stutter) (step : gives s q t). step.0 ∙ e,
  ),
  λ (t : Stutter) (step : gives s (Some x) t). behind t (step.1 few),
)

from_zero : (s : Stutter) → s.place ≡ 0 → Lists (λ _. ⊤) gives s (97 ∷ [])
from_zero s e = goes_on s 97 [] (rw e refl) (omega arith)
    (λ (t : Stutter) (next : t.place ≡ s.place + 1). ends t (rw (next, e) refl))

from_four : (s : Stutter) → s.place ≡ 4 → Lists (λ _. ⊤) gives s (49 ∷ [])
from_four s e = goes_on s 49 [] (rw e refl) (omega arith)
    (λ (t : Stutter) (next : t.place ≡ s.place + 1). ends t (rw (next, e) refl))

from_three : (s : Stutter) → s.place ≡ 3 → Lists (λ _. ⊤) gives s (91 ∷ (49 ∷ []))
from_three s e = goes_on s 91 (49 ∷ []) (rw e refl) (omega arith)
    (λ (t : Stutter) (next : t.place ≡ s.place + 1). from_four t (omega arith))

listed : (s : Stutter) → (s.place ≡ 0) ⊎ (s.place ≡ 3) → Listed (λ _. ⊤) gives s
listed s (inl e) = (97 ∷ [], from_zero s e)
listed s (inr e) = (91 ∷ (49 ∷ []), from_three s e)

pub new_from_iter-requires : goal.new_from_iter-requires
new_from_iter-requires c = listed (record { place = c.args.place }) c.requires
