-- Maps from texts, as lists of names.
use Rattle.std.proofs.Common.{◌≡◌, arith, ℕ, length, List, [], ◌∷◌, Option, Some, None, Result, Ok, refl, sym, ap, ◌∙◌, cond, Bool, true, false, true≢false, ◌||◌, nat_eq, ◌+◌, ◌<◌, ◌++◌, take, drop, get_or}
use Rattle.std.specs.Prelude.{map, String, string_bytes, string_cmp, option_map, is_some}
use Rattle.std.specs.BTreeMap.{BTreeMap, get_by, insert_entry, is_at}
use Rattle.std.specs.BTreeSet.{BTreeSet, contains_by, insert_key}
use Rattle.std.specs.List.{list_any}
use Rattle.std.specs.Cmp.Lexicographic.{slice_cmp, pointwise}
use Rattle.std.proofs.lemmas.List.{map-append, take-append-drop, take_more}
use Rattle.std.proofs.lemmas.List.Sums.{fold-append}
use Rattle.std.proofs.lemmas.Map.Lookups.{exact_bytes}
use Rattle.std.proofs.lemmas.Map.Text.{is_eq-slice_cmp}
use Rattle.std.specs.Map.{lookup, keys_of}
use Rattle.std.specs.Ordering.{nat_cmp, match_ordering, is_eq}
use Rattle.std.specs.declared.cmp.Ordering.{Ordering}
use Rattle.std.specs.declared.cmp.Ordering.TheVariants.{Less, Equal, Greater}
use Rattle.saphyr_scalar.specs.declared.scalar.fault.Refusal.{Refusal}
use Rattle.saphyr_machine.specs.Steps.Machine.{Names, Anchors, meaning, with_meaning, is_listed, with_name, next_id, with_anchor}
use Rattle.saphyr_machine.specs.declared.name_list.Name.{Name}
use Rattle.saphyr_machine.specs.ListedNames.{bytes_of_name, with_id}
use Rattle.saphyr_machine.specs.Names.{ids_of, with_listed, texts_of, names_of}

abbrev pub seen : {A X Z : Type 0} → (X → Z) → List (String A × X) → Names Z
seen {A} {X} {Z} f es = map (λ (e : String A × X). (string_bytes e.0, f e.1)) es

chosen : {X Z : Type 0} (f : X → Z) (o : Ordering) (a b c : X)
    → f (match_ordering o a b c) ≡ match_ordering o (f a) (f b) (f c)
chosen f u0 a b c = grind arith

inserted : {A X Z : Type 0} (f : X → Z) (es : List (String A × X)) (k : String A) (v : X)
    → seen f (insert_entry string_cmp es k v) ≡ insert_entry (slice_cmp nat_cmp) (seen f es) (string_bytes k) (f v)
inserted f [] k v = refl
inserted {A} {X} {Z} f (e ∷ es) k v =
    chosen (seen f) (string_cmp k e.0) ((k, v) ∷ e ∷ es) ((e.0, v) ∷ es) (e ∷ insert_entry string_cmp es k v)
    ∙ ap (λ (r : Names Z). match_ordering (slice_cmp nat_cmp (string_bytes k) (string_bytes e.0))
    ((string_bytes k, f v) ∷ seen f (e ∷ es)) ((string_bytes e.0, f v) ∷ seen f es) ((string_bytes e.0, f e.1) ∷ r))
    (inserted f es k v)

split : {X Z : Type 0} (f : X → Z) (b : Bool) (x : X) (o : Option X)
    → option_map f (cond b (Some x) o) ≡ cond b (Some (f x)) (option_map f o)
split f true x o = refl
split f false x o = refl

found_by_bytes : {A X Z : Type 0} (f : X → Z) (name : List ℕ) (es : List (String A × X))
    → option_map f (lookup (is_at (λ (k : String A). slice_cmp nat_cmp name (string_bytes k))) es)
    ≡ meaning name (seen f es)
found_by_bytes f name [] = refl
found_by_bytes {A} {X} {Z} f name (e ∷ es) =
    let here : Bool = is_at (slice_cmp nat_cmp name) (string_bytes e.0) in
    split f here e.1 (lookup (is_at (λ (k : String A). slice_cmp nat_cmp name (string_bytes k))) es)
    ∙ ap (λ (o : Option Z). cond here (Some (f e.1)) o) (found_by_bytes f name es)

kept : {X : Type 0} (o : Option X) → option_map (λ x. x) o ≡ o
kept None = refl
kept (Some x) = refl

pub ids_given : {A : Type 0} (m n : BTreeMap (String A) ℕ) (name : String A) (id : ℕ)
    → n.entries ≡ insert_entry string_cmp m.entries name id → ids_of n ≡ with_meaning (string_bytes name) id (ids_of m)
ids_given m n name id e = rw e (inserted (λ (x : ℕ). x) m.entries name id)

pub ids_meaning : {A : Type 0} (m : BTreeMap (String A) ℕ) (name : List ℕ)
    → get_by (λ (k : String A). slice_cmp nat_cmp name (string_bytes k)) m ≡ meaning name (ids_of m)
ids_meaning m name = sym (kept _) ∙ found_by_bytes (λ (x : ℕ). x) name m.entries

-- ## Names of anchors

-- what a name means after a name was given a meaning
pub meaning_with : {Z : Type 0} (name given : List ℕ) (z : Z) (names : Names Z)
    → meaning name (with_meaning given z names)
    ≡ cond (is_at (slice_cmp nat_cmp name) given) (Some z) (meaning name names)
meaning_with name given z [] = refl
meaning_with {Z} name given z (e ∷ es) = by (slice_cmp nat_cmp given e.0) refl (meaning_with name given z es)
  where
    twice : (b : Bool) (m : Option Z) → cond b (Some z) m ≡ cond b (Some z) (cond b (Some e.1) m)
    twice true m = refl
    twice false m = refl

    swapped : (o r : Ordering) → slice_cmp nat_cmp name given ≡ o → slice_cmp nat_cmp name e.0 ≡ r
        → slice_cmp nat_cmp given e.0 ≡ Greater → (m : Option Z)
        → cond (is_eq r) (Some e.1) (cond (is_eq o) (Some z) m) ≡ cond (is_eq o) (Some z) (cond (is_eq r) (Some e.1) m)
    swapped Less r f g h m = refl
    swapped Greater r f g h m = refl
    swapped Equal Less f g h m = refl
    swapped Equal Greater f g h m = refl
    swapped Equal Equal f g h m = absurd (true≢false
        (ap is_eq (sym g ∙ ap (λ (n : List ℕ). slice_cmp nat_cmp n e.0) (exact_bytes name given f) ∙ h)))

    by : (r : Ordering) → slice_cmp nat_cmp given e.0 ≡ r
        → meaning name (with_meaning given z es)
        ≡ cond (is_at (slice_cmp nat_cmp name) given) (Some z) (meaning name es)
        → meaning name (match_ordering r ((given, z) ∷ e ∷ es) ((e.0, z) ∷ es) (e ∷ with_meaning given z es))
        ≡ cond (is_at (slice_cmp nat_cmp name) given) (Some z) (meaning name (e ∷ es))
    by Less p later = refl
    by Equal p later =
        twice (is_at (slice_cmp nat_cmp name) e.0) (meaning name es)
        ∙ ap (λ (n : List ℕ). cond (is_at (slice_cmp nat_cmp name) n) (Some z) (meaning name (e ∷ es)))
        (sym (exact_bytes given e.0 p))
    by Greater p later =
        ap (λ (m : Option Z). cond (is_at (slice_cmp nat_cmp name) e.0) (Some e.1) m) later
        ∙ swapped (slice_cmp nat_cmp name given) (slice_cmp nat_cmp name e.0) refl refl p (meaning name es)

-- one more of the names
pub next_given : (bytes : List ℕ) (ns : List Name) (n : ℕ) (x : Name) (names : Names ℕ)
    → n < length ns → x ≡ get_or ns n x
    → with_listed (map (with_id bytes) (take (n + 1) ns)) names
    ≡ with_meaning (bytes_of_name bytes x) x.id (with_listed (map (with_id bytes) (take n ns)) names)
next_given bytes ns n x names h is =
    ap (λ (xs : List Name). with_listed (map (with_id bytes) xs) names)
    (take_more ns n x h ∙ ap (λ (y : Name). take n ns ++ y ∷ []) (sym is))
    ∙ ap (λ (es : List (List ℕ × ℕ)). with_listed es names) (map-append (with_id bytes) (take n ns) (x ∷ []))
    ∙ fold-append _ names (map (with_id bytes) (take n ns)) (with_id bytes x ∷ [])

-- what a name means after one more of them, which is compared by its bytes
pub one_more : (name bytes : List ℕ) (ns : List Name) (n : ℕ) (x : Name) (names : Names ℕ) (same : Bool)
    → n < length ns → x ≡ get_or ns n x → same ≡ pointwise nat_eq name (bytes_of_name bytes x)
    → meaning name (with_listed (map (with_id bytes) (take (n + 1) ns)) names)
    ≡ cond same (Some x.id) (meaning name (with_listed (map (with_id bytes) (take n ns)) names))
one_more name bytes ns n x names same h is c =
    let before : Names ℕ = with_listed (map (with_id bytes) (take n ns)) names in
    ap (λ (ms : Names ℕ). meaning name ms) (next_given bytes ns n x names h is)
    ∙ meaning_with name (bytes_of_name bytes x) x.id before
    ∙ ap (λ (b : Bool). cond b (Some x.id) (meaning name before))
    (is_eq-slice_cmp name (bytes_of_name bytes x) ∙ sym c)

-- the first of the names were put into a map, and the others are left
pub rest_listed : (bytes : List ℕ) (ns : List Name) (n : ℕ) (names : Names ℕ)
    → with_listed (map (with_id bytes) (drop n ns)) (with_listed (map (with_id bytes) (take n ns)) names)
    ≡ with_listed (map (with_id bytes) ns) names
rest_listed bytes ns n names =
    sym (fold-append _ names (map (with_id bytes) (take n ns)) (map (with_id bytes) (drop n ns)))
    ∙ ap (λ (es : List (List ℕ × ℕ)). with_listed es names) (sym (map-append (with_id bytes) (take n ns) (drop n ns)))
    ∙ ap (λ (xs : List Name). with_listed (map (with_id bytes) xs) names) (take-append-drop n ns)

-- a name that is noted behind the others has its id
pub registered : (a : Anchors) (es fs : List (List ℕ × ℕ)) (ids : Names ℕ) (id : ℕ) (bytes : List ℕ)
    → with_listed es ids ≡ a.ids → id ≡ next_id a → fs ≡ es ++ ((bytes, id) ∷ [])
    → (let r : Result (ℕ × Anchors) Refusal = Ok (next_id a, with_anchor bytes a) in r)
    ≡ Ok (id, record { ids = with_listed fs ids; last = id })
registered a es fs ids id bytes before next more = grind (arith, fold-append)

-- where the name of an alias is none of the latest, the others are in the map
pub settled : (a : Anchors) (name : List ℕ) (es fs : List (List ℕ × ℕ)) (ids new : Names ℕ) (last now : ℕ)
    (found : Option ℕ)
    → record { ids = with_listed es ids; last = last } ≡ a → new ≡ with_listed es ids → fs ≡ [] → now ≡ last
    → found ≡ meaning name new
    → (let r : Result (Option ℕ × Anchors) Refusal = Ok (meaning name a.ids, a) in r)
    ≡ Ok (found, record { ids = with_listed fs new; last = now })
settled a name es fs ids new last now found is moved none same f = grind arith

-- where only the latest names are listed, and its own is none of them, the map has its meaning
pub unlisted : (a : Anchors) (name : List ℕ) (es fs : List (List ℕ × ℕ)) (ids new : Names ℕ) (last now first : ℕ)
    (found : Option ℕ)
    → record { ids = with_listed es ids; last = last } ≡ a → new ≡ ids → fs ≡ es → now ≡ last → first ≡ 0
    → meaning name (with_listed es ids) ≡ meaning name (with_listed (take first es) ids) → found ≡ meaning name new
    → (let r : Result (Option ℕ × Anchors) Refusal = Ok (meaning name a.ids, a) in r)
    ≡ Ok (found, record { ids = with_listed fs new; last = now })
unlisted a name es fs ids new last now first found is kept listed same none others f = grind arith

-- ## Maps to texts

pub texts_given : {A : Type 0} (m n : BTreeMap (String A) (String A)) (handle prefix : String A)
    → n.entries ≡ insert_entry string_cmp m.entries handle prefix
    → texts_of n ≡ with_meaning (string_bytes handle) (string_bytes prefix) (texts_of m)
texts_given m n handle prefix e = rw e (inserted string_bytes m.entries handle prefix)

pub texts_meaning : {A : Type 0} (m : BTreeMap (String A) (String A)) (handle : List ℕ)
    → option_map string_bytes (get_by (λ (k : String A). slice_cmp nat_cmp handle (string_bytes k)) m)
    ≡ meaning handle (texts_of m)
texts_meaning m handle = found_by_bytes string_bytes handle m.entries

pub texts_empty : {A : Type 0} (m : BTreeMap (String A) (String A)) → length m.entries ≡ 0 → texts_of m ≡ []
texts_empty m e = none m.entries e
  where
    none : {A : Type 0} (es : List (String A × String A)) → length es ≡ 0 → seen string_bytes es ≡ []
    none [] e = refl
    none (x ∷ es) e = absurd (omega (arith, e))

-- a name that is given a meaning is listed among the names
pub given_names : {Z : Type 0} (name : List ℕ) (z : Z) (names : Names Z)
    → keys_of (with_meaning name z names) ≡ with_name name (keys_of names)
given_names name z [] = refl
given_names {Z} name z (e ∷ es) =
    chosen keys_of (slice_cmp nat_cmp name e.0) ((name, z) ∷ e ∷ es) ((e.0, z) ∷ es) (e ∷ with_meaning name z es)
    ∙ ap (λ (r : List (List ℕ)). match_ordering (slice_cmp nat_cmp name e.0) (name ∷ e.0 ∷ keys_of es)
    (e.0 ∷ keys_of es) (e.0 ∷ r)) (given_names name z es)

-- a name that has a meaning is listed among the names
pub has_meaning : {Z : Type 0} (name : List ℕ) (names : Names Z)
    → is_some (meaning name names) ≡ is_listed name (keys_of names)
has_meaning name [] = refl
has_meaning {Z} name (e ∷ es) =
    some (is_at (slice_cmp nat_cmp name) e.0) e.1 (meaning name es)
    ∙ ap (λ (b : Bool). is_at (slice_cmp nat_cmp name) e.0 || b) (has_meaning name es)
  where
    some : {Z : Type 0} (b : Bool) (z : Z) (o : Option Z) → is_some (cond b (Some z) o) ≡ b || is_some o
    some true z o = refl
    some false z o = refl

pub texts_listed : {A : Type 0} (m : BTreeMap (String A) (String A)) (handle : List ℕ)
    → is_some (get_by (λ (k : String A). slice_cmp nat_cmp handle (string_bytes k)) m)
    ≡ is_listed handle (keys_of (texts_of m))
texts_listed m handle =
    still_some string_bytes _ ∙ ap (λ (o : Option (List ℕ)). is_some o) (texts_meaning m handle)
    ∙ has_meaning handle (texts_of m)
  where
    still_some : {X Z : Type 0} (f : X → Z) (o : Option X) → is_some o ≡ is_some (option_map f o)
    still_some f None = refl
    still_some f (Some x) = refl

-- ## Sets

abbrev texts : {A : Type 0} → List (String A) → List (List ℕ)
texts {A} ks = map (λ (k : String A). string_bytes k) ks

added : {A : Type 0} (ks : List (String A)) (k : String A)
    → texts (insert_key string_cmp ks k) ≡ with_name (string_bytes k) (texts ks)
added [] k = refl
added (x ∷ ks) k =
    chosen texts (string_cmp k x) (k ∷ x ∷ ks) (x ∷ ks) (x ∷ insert_key string_cmp ks k)
    ∙ ap (λ (r : List (List ℕ)). match_ordering (slice_cmp nat_cmp (string_bytes k) (string_bytes x))
    (string_bytes k ∷ texts (x ∷ ks)) (texts (x ∷ ks)) (string_bytes x ∷ r)) (added ks k)

has : {A : Type 0} (ks : List (String A)) (name : List ℕ)
    → list_any (is_at (λ (k : String A). slice_cmp nat_cmp name (string_bytes k))) ks ≡ is_listed name (texts ks)
has [] name = refl
has (x ∷ ks) name = ap (λ b. is_at (slice_cmp nat_cmp name) (string_bytes x) || b) (has ks name)

pub names_listed : {A : Type 0} (s n : BTreeSet (String A)) (name : String A)
    → n.keys ≡ insert_key string_cmp s.keys name → names_of n ≡ with_name (string_bytes name) (names_of s)
names_listed s n name e = rw e (added s.keys name)

pub name_listed : {A : Type 0} (s : BTreeSet (String A)) (name : List ℕ)
    → contains_by (λ (k : String A). slice_cmp nat_cmp name (string_bytes k)) s ≡ is_listed name (names_of s)
name_listed s name = has s.keys name
