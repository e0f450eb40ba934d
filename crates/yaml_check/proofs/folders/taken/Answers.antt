use Rattle.std.proofs.Common.{rules, Bool, List, subst, string_bytes}
use Rattle.std.specs.Cmp.Lexicographic.{slice_cmp}
use Rattle.std.specs.List.Sorted.{IsPermutation}
use Rattle.std.specs.Ordering.{is_lt, nat_cmp}
use Rattle.std.proofs.lemmas.Cmp.{nat_list_cmp_total}
use Rattle.std.proofs.lemmas.Fn.{filter_same}
use Rattle.std.proofs.lemmas.List.Sorted.{IsStrictWeakOrder-flip, answers_always, ranks_by}
use Rattle.yaml_check.specs.declared.folders.Entry.{Entry}
use Rattle.yaml_check.specs.Folders as spec
use Rattle.yaml_check.proofs.folders.taken.Goals as goal

abbrev comes_before : Entry → Entry → Bool
comes_before a b = is_lt (slice_cmp nat_cmp (string_bytes a.name.text) (string_bytes b.name.text))

pub returns-in-Ok : goal.returns-in-Ok
returns-in-Ok c = record {
  all = subst (λ (kept : List Entry). IsPermutation kept c.sort_by.new.self.items)
      (filter_same _ spec.is_taken _ (λ e b f k. search rules) _ _ c.retain.ensures.filtered)
      c.sort_by.ensures.permutation;
  order = c.in-Ok.ensures.sorted spec.comes_after
      (IsStrictWeakOrder-flip comes_before (ranks_by nat_list_cmp_total (λ (e : Entry). string_bytes e.name.text)))
      (answers_always _ _ _ (λ f a r g k. search rules));
}
