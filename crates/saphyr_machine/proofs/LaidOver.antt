-- Names of a map in front of others.
use Rattle.std.proofs.Common.{◌≡◌, arith, ℕ, ◌-◌, ◌<◌, length, List, [], ◌∷◌, ◌++◌, Option, Some, None, refl, sym, ap, ◌∙◌, cond, Bool, true, false, get_or}
use Rattle.std.specs.Prelude.{map, String, string_bytes, IsSome, IfSome, slice_get, ◌↔◌}
use Rattle.std.specs.Arc.{arc_value}
use Rattle.std.specs.declared.sync.Arc.{Arc}
use Rattle.std.specs.BTreeMap.{BTreeMap, is_at, btree_map_len}
use Rattle.std.specs.Option.{option_or}
use Rattle.std.specs.Cmp.Lexicographic.{slice_cmp}
use Rattle.std.specs.Ordering.{nat_cmp, match_ordering, ordering_reverse}
use Rattle.std.specs.declared.cmp.Ordering.{Ordering}
use Rattle.std.specs.declared.cmp.Ordering.TheVariants.{Less, Equal, Greater}
use Rattle.std.proofs.lemmas.Cmp.{nat_list_cmp_total}
use Rattle.std.proofs.lemmas.List.{get_or_push, length-append, map-append}
use Rattle.std.proofs.lemmas.Map.Lookups.{exact_bytes}
use Rattle.std.proofs.lemmas.Option.{get_or_from_slice_get, slice_get_within}
use Rattle.saphyr_machine.specs.Steps.Machine.{Names, meaning, with_meaning}
use Rattle.saphyr_machine.specs.Names.{ids_of, laid_over, shared_ids, with_listed}
use Rattle.saphyr_machine.proofs.Names.{meaning_with}

abbrev compared : List ℕ → List ℕ → Ordering
compared = slice_cmp nat_cmp

turned : (a b : List ℕ) (r : Ordering) → compared a b ≡ r → compared b a ≡ ordering_reverse r
turned a b r p = nat_list_cmp_total.antisymm b a ∙ ap ordering_reverse p

itself : (n : List ℕ) → compared n n ≡ Equal
itself n = only (compared n n) (nat_list_cmp_total.antisymm n n)
  where
    only : (r : Ordering) → r ≡ ordering_reverse r → r ≡ Equal
    only Less p = cc
    only Equal p = refl
    only Greater p = cc

-- a name has the meaning that it was given last
again : (n : List ℕ) (x y : ℕ) (names : Names ℕ)
    → with_meaning n x (with_meaning n y names) ≡ with_meaning n x names
again n x y [] = rw (itself n)
again n x y (e ∷ es) = by (compared n e.0) refl (ap (λ (ns : Names ℕ). e ∷ ns) (again n x y es))
  where
    by : (r : Ordering) → compared n e.0 ≡ r → e ∷ with_meaning n x (with_meaning n y es) ≡ e ∷ with_meaning n x es
        → with_meaning n x (match_ordering r ((n, y) ∷ e ∷ es) ((e.0, y) ∷ es) (e ∷ with_meaning n y es))
        ≡ match_ordering r ((n, x) ∷ e ∷ es) ((e.0, x) ∷ es) (e ∷ with_meaning n x es)
    by Less p later = rw (itself n)
    by Equal p later = rw p
    by Greater p later = rw p later

-- two names are given their meanings in either order
swapped : (a b : List ℕ) (x y : ℕ) → compared a b ≡ Greater → (names : Names ℕ)
    → with_meaning a x (with_meaning b y names) ≡ with_meaning b y (with_meaning a x names)
swapped a b x y up [] = rw (up, turned a b Greater up)
swapped a b x y up (e ∷ es) =
    by (compared b e.0) (compared a e.0) refl refl (ap (λ (ns : Names ℕ). e ∷ ns) (swapped a b x y up es))
  where
    down : compared b a ≡ Less
    down = turned a b Greater up

    above : compared b e.0 ≡ Greater → compared a e.0 ≡ Greater
    above p = turned e.0 a Less (nat_list_cmp_total.trans e.0 b a (turned b e.0 Greater p) down)

    by : (s r : Ordering) → compared b e.0 ≡ s → compared a e.0 ≡ r
        → e ∷ with_meaning a x (with_meaning b y es) ≡ e ∷ with_meaning b y (with_meaning a x es)
        → with_meaning a x (match_ordering s ((b, y) ∷ e ∷ es) ((e.0, y) ∷ es) (e ∷ with_meaning b y es))
        ≡ with_meaning b y (match_ordering r ((a, x) ∷ e ∷ es) ((e.0, x) ∷ es) (e ∷ with_meaning a x es))
    by Less Less p q later = rw (up, q, down)
    by Less Equal p q later = rw (up, q, p)
    by Less Greater p q later = rw (up, q, p)
    by Equal Greater p q later = rw (q, p)
    by Greater Greater p q later = rw (q, p) later
    by Equal Less p q later = let r = ap (compared a) (sym (exact_bytes b e.0 p)) ∙ up in cc
    by Equal Equal p q later = let r = ap (compared a) (sym (exact_bytes b e.0 p)) ∙ up in cc
    by Greater Less p q later = let r = above p in cc
    by Greater Equal p q later = let r = above p in cc

-- what a name means that is given a meaning in front of others
pub given_over : (name : List ℕ) (id : ℕ) (es names : Names ℕ)
    → laid_over (with_meaning name id es) names ≡ with_meaning name id (laid_over es names)
given_over name id [] names = refl
given_over name id (e ∷ es) names =
    by (compared name e.0) refl (ap (λ (ns : Names ℕ). with_meaning e.0 e.1 ns) (given_over name id es names))
  where
    behind : Names ℕ
    behind = laid_over es names

    by : (r : Ordering) → compared name e.0 ≡ r
        → with_meaning e.0 e.1 (laid_over (with_meaning name id es) names)
        ≡ with_meaning e.0 e.1 (with_meaning name id (laid_over es names))
        → laid_over (match_ordering r ((name, id) ∷ e ∷ es) ((e.0, id) ∷ es) (e ∷ with_meaning name id es)) names
        ≡ with_meaning name id (with_meaning e.0 e.1 (laid_over es names))
    by Less p later = refl
    by Equal p later =
        ap (λ (n : List ℕ). with_meaning n id behind) (sym (exact_bytes name e.0 p)) ∙ sym (again name id e.1 behind)
        ∙ ap (λ (n : List ℕ). with_meaning name id (with_meaning n e.1 behind)) (exact_bytes name e.0 p)
    by Greater p later = later ∙ sym (swapped name e.0 id e.1 p behind)

pub listed_over : (listed : List (List ℕ × ℕ)) (es names : Names ℕ)
    → with_listed listed (laid_over es names) ≡ laid_over (with_listed listed es) names
listed_over [] es names = refl
listed_over (l ∷ ls) es names =
    ap (λ (ns : Names ℕ). with_listed ls ns) (sym (given_over l.0 l.1 es names))
    ∙ listed_over ls (with_meaning l.0 l.1 es) names

-- the last of the names is given its meaning first
last_first : (es : Names ℕ) (e : List ℕ × ℕ) (names : Names ℕ)
    → laid_over (es ++ e ∷ []) names ≡ laid_over es (with_meaning e.0 e.1 names)
last_first [] e names = refl
last_first (x ∷ es) e names = ap (λ (ns : Names ℕ). with_meaning x.0 x.1 ns) (last_first es e names)

-- a name means what it means in front, or else what it means behind
meaning_over : (name : List ℕ) (es names : Names ℕ)
    → meaning name (laid_over es names) ≡ option_or (meaning name es) (meaning name names)
meaning_over name [] names = refl
meaning_over name (e ∷ es) names =
    meaning_with name e.0 e.1 (laid_over es names)
    ∙ ap (λ (o : Option ℕ). cond (is_at (slice_cmp nat_cmp name) e.0) (Some e.1) o) (meaning_over name es names)
    ∙ inner (is_at (slice_cmp nat_cmp name) e.0) (meaning name es)
  where
    inner : (b : Bool) (o : Option ℕ)
        → cond b (Some e.1) (option_or o (meaning name names)) ≡ option_or (cond b (Some e.1) o) (meaning name names)
    inner true o = refl
    inner false o = refl

pub found_in_front : (name : List ℕ) (es names : Names ℕ) (id : ℕ) → meaning name es ≡ Some id
    → Some id ≡ meaning name (laid_over es names)
found_in_front name es names id is =
    sym (meaning_over name es names ∙ ap (λ (o : Option ℕ). option_or o (meaning name names)) is)

pub found_behind : (name : List ℕ) (es names : Names ℕ) → meaning name es ≡ None
    → meaning name names ≡ meaning name (laid_over es names)
found_behind name es names is =
    sym (meaning_over name es names ∙ ap (λ (o : Option ℕ). option_or o (meaning name names)) is)

-- ## What copies share

pub is_shared : {A B : Type 0} (o : Option (Arc (BTreeMap (String A) ℕ) B)) (a : Arc (BTreeMap (String A) ℕ) B)
    (m : BTreeMap (String A) ℕ)
    → o ≡ Some a → m ≡ arc_value a → shared_ids o ≡ ids_of m
is_shared {A} {B} o a m is value =
    ap (λ (p : Option (Arc (BTreeMap (String A) ℕ) B)). shared_ids p) is
    ∙ ap (λ (n : BTreeMap (String A) ℕ). ids_of n) (sym value)

pub is_unshared : {A B : Type 0} (o : Option (Arc (BTreeMap (String A) ℕ) B)) → o ≡ None → shared_ids o ≡ []
is_unshared {A} {B} o is = ap (λ (p : Option (Arc (BTreeMap (String A) ℕ) B)). shared_ids p) is

-- the last entry of a map goes behind it
pub popped : {A : Type 0} (old new : BTreeMap (String A) ℕ) (p : String A × ℕ) (o : Option (String A × ℕ))
    → slice_get old.entries (btree_map_len old - 1) ≡ Some p → (IsSome o ↔ (0 < btree_map_len old))
    → IfSome o (λ q. old.entries ≡ new.entries ++ q ∷ []) → (names : Names ℕ)
    → laid_over (ids_of new) (with_meaning (string_bytes p.0) p.1 names) ≡ laid_over (ids_of old) names
popped old new p None last has is names =
    cc (has.1 (omega (arith, slice_get_within old.entries (btree_map_len old - 1) p last)))
popped {A} old new p (Some q) last has is names =
    let more : length old.entries ≡ length (new.entries ++ q ∷ []) = ap length is in
    let same : p ≡ q =
    sym (get_or_from_slice_get old.entries (btree_map_len old - 1) p p last)
    ∙ ap (λ (es : List (String A × ℕ)). get_or es (btree_map_len old - 1) p) is
    ∙ get_or_push new.entries q p (btree_map_len old - 1) (omega (arith, more, length-append new.entries (q ∷ []))) in
    ap (λ (r : String A × ℕ). laid_over (ids_of new) (with_meaning (string_bytes r.0) r.1 names)) same
    ∙ sym (last_first (ids_of new) (string_bytes q.0, q.1) names)
    ∙ ap (λ (es : Names ℕ). laid_over es names) (sym (map-append _ new.entries (q ∷ [])))
    ∙ ap (λ (es : List (String A × ℕ)). laid_over (map (λ (e : String A × ℕ). (string_bytes e.0, e.1)) es) names)
    (sym is)
