use Rattle.std.proofs.Common.{rules, ◌≡◌, ◌∙◌, List, ◌++◌, ap, subst}
use Rattle.std.specs.Prelude.{IsPermutation}
use Rattle.std.proofs.lemmas.List.Sorted.{IsNonDecreasingBy-from_sort_by_key}
use Rattle.yaml_check.specs.declared.finding.Finding.{Finding}
use Rattle.yaml_check.proofs.checking.by_place.Goals as goal

same_of : (first others all list most : List Finding) → all ≡ first ++ others → first ≡ most → IsPermutation all list
    → IsPermutation (most ++ others) list
same_of first others all list most is first_is same =
    subst (λ (l : List Finding). IsPermutation l list) (is ∙ ap (λ (l : List Finding). l ++ others) first_is) same

pub returns : goal.returns
returns c = record {
  same = same_of _ _ _ _ _ c.in_ok-extend_from_slice.ensures.items c.in_ok-list.ensures
      c.sort_by_key.ensures.permutation;
  rise = IsNonDecreasingBy-from_sort_by_key (λ (f : Finding). f.span.start.index) _ c.in_ok-sort_by_key.ensures.sorted
      (λ a r q k. search rules);
}
