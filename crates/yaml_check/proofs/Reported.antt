-- One more finding is told after those that were.
use Rattle.std.proofs.Common.{ℕ, ◌+◌, ◌<◌, List, [], ◌∷◌, ◌++◌, length, take, get_or, refl, sym, subst}
use Rattle.std.proofs.lemmas.List.{take_more}
use Rattle.yaml_check.specs.declared.finding.Finding.{Finding}
use Rattle.yaml_check.specs.declared.finding.Findings.{Findings}
use Rattle.yaml_check.specs.declared.told.Format.{Format}
use Rattle.yaml_check.specs.Reports.{AddsAll, AddsWithNotes}

push : (form : Format) (name text : List ℕ) (found : Findings) (fs : List Finding) (f : Finding)
    (old middle new : List ℕ) → AddsAll form name text found fs old middle
    → AddsWithNotes form name text found f middle new → AddsAll form name text found (fs ++ (f ∷ [])) old new
push form name text found [] f old middle new before told =
    (new, subst (λ (bytes : List ℕ). AddsWithNotes form name text found f bytes new) before told, refl)
push form name text found (g ∷ gs) f old middle new (first, one, others) told =
    (first, one, push form name text found gs f first middle new others told)

pub all_more : (form : Format) (name text : List ℕ) (found : Findings) (fs : List Finding) (i : ℕ) (d : Finding)
    (old middle new : List ℕ) → i < length fs → AddsAll form name text found (take i fs) old middle
    → AddsWithNotes form name text found (get_or fs i d) middle new
    → AddsAll form name text found (take (i + 1) fs) old new
all_more form name text found fs i d old middle new within before told =
    subst (λ (l : List Finding). AddsAll form name text found l old new) (sym (take_more fs i d within))
    (push form name text found (take i fs) (get_or fs i d) old middle new before told)
