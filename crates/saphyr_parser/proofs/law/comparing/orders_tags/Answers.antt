use Rattle.std.proofs.Common.{◌≡◌, ℕ, List, ◌∙◌, refl, sym, ap, rules, subst}
use Rattle.std.proofs.lemmas.Map.Lookups.{exact_bytes}
use Rattle.std.proofs.lemmas.Map.Text.{is_eq-slice_cmp}
use Rattle.std.proofs.lemmas.Slice.Eq.{bytes_eq-Decides}
use Rattle.std.specs.Cmp.{Equal-is}
use Rattle.std.specs.Cmp.Lexicographic.{slice_cmp}
use Rattle.std.specs.Ordering.{nat_cmp, ordering_then}
use Rattle.std.specs.declared.cmp.Ordering.{Ordering}
use Rattle.std.specs.declared.cmp.Ordering.TheVariants.{Equal, Greater, Less}
use Rattle.saphyr_machine.specs.Events.{ResolvedTag}
use Rattle.saphyr_machine.specs.Views.Events.{resolved_tag}
use Rattle.saphyr_parser.proofs.law.comparing.orders_tags.Goals as goal

itself : (xs : List ℕ) → slice_cmp nat_cmp xs xs ≡ Equal
itself xs = (Equal-is (slice_cmp nat_cmp xs xs)).0 (is_eq-slice_cmp xs xs ∙ (bytes_eq-Decides xs xs).1 refl)

both : (a b : Ordering) → ordering_then a b ≡ Equal → (a ≡ Equal) × (b ≡ Equal)
both Equal b h = (refl, h)
both Less b h = absurd (cc)
both Greater b h = absurd (cc)

abbrev by_parts : ResolvedTag → ResolvedTag → Ordering
by_parts one other = ordering_then (slice_cmp nat_cmp one.handle other.handle)
    (slice_cmp nat_cmp one.suffix other.suffix)

same_tag : (one other : ResolvedTag) → by_parts one other ≡ Equal → one ≡ other
same_tag one other h =
    let parts = both (slice_cmp nat_cmp one.handle other.handle) (slice_cmp nat_cmp one.suffix other.suffix) h in
    let handle : one.handle ≡ other.handle = exact_bytes one.handle other.handle parts.0 in
    let suffix : one.suffix ≡ other.suffix = exact_bytes one.suffix other.suffix parts.1 in
    ap (λ (x : List ℕ). let t : ResolvedTag = record { handle = x; suffix = one.suffix } in t) handle
    ∙ ap (λ (x : List ℕ). let t : ResolvedTag = record { handle = other.handle; suffix = x } in t) suffix

tag_itself : (tag : ResolvedTag) → by_parts tag tag ≡ Equal
tag_itself tag = ap (λ (x : Ordering). ordering_then x (slice_cmp nat_cmp tag.suffix tag.suffix)) (itself tag.handle)
    ∙ itself tag.suffix

pub returns-clause-equal : goal.returns-clause-equal
returns-clause-equal c =
    let order : c.cmp.result ≡ by_parts (resolved_tag c.args.one.now) (resolved_tag c.args.other.now) =
    search rules in (
      (λ h. same_tag _ _ (sym order ∙ h)),
      (λ same. order ∙ subst (λ (t : ResolvedTag). by_parts (resolved_tag c.args.one.now) t ≡ Equal) same
          (tag_itself (resolved_tag c.args.one.now))),
    )
