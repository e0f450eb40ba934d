-- The keys of a mapping: in a map whose keys are compared by a view of them, and added one after the other.
use Rattle.std.proofs.Common.{◌≡◌, ◌∙◌, ℕ, ◌+◌, ◌-◌, ◌<◌, ◌≤◌, List, [], ◌∷◌, ◌++◌, length, take, drop, map, cond, slice_index_or, Option, Some, None, refl, sym, ap, arith}
use Rattle.std.specs.Prelude.{Bool, true, false, is_some, not, nat_eq, String, Vec, string_bytes}
use Rattle.std.specs.Ordering.{is_eq, match_ordering, nat_cmp, ordering_then}
use Rattle.std.specs.declared.cmp.Ordering.{Ordering}
use Rattle.std.specs.declared.cmp.Ordering.TheVariants.{Less, Equal, Greater}
use Rattle.std.specs.Cmp.Lexicographic.{pointwise, slice_cmp, texts_ties}
use Rattle.std.specs.Map.{lookup}
use Rattle.std.specs.BTreeMap.{insert_entry, is_at}
use Rattle.std.specs.Global.{Global}
use Rattle.std.proofs.lemmas.Bool.{false≢true}
use Rattle.std.proofs.lemmas.List.{drop_more, map-append, take_more}
use Rattle.std.proofs.lemmas.Map.Lookups.{exact_bytes}
use Rattle.saphyr_parser.specs.Words.Marker.{Marker}
use Rattle.yaml_check.specs.declared.first_places.ShortText.{ShortText}
use Rattle.yaml_check.specs.Keys.{Key, first_among, key_cmp, with_first_among}
use Rattle.yaml_check.specs.PlacesSeen.{few_of, key_bytes, many_of, short_bytes, short_key, with_all}

module _ {K B X : Type 0} (view : K → B) where
  abbrev pub viewed : K × X → B × X
  viewed e = (view e.0, e.1)

  module _ (cmp : B → B → Ordering) where
    pub map_viewed-insert_entry : (es : List (K × X)) (k : K) (v : X)
        → map viewed (insert_entry (λ a b. cmp (view a) (view b)) es k v) ≡ insert_entry cmp (map viewed es) (view k) v
    map_viewed-insert_entry [] k v = refl
    map_viewed-insert_entry (e ∷ es) k v = by (map_viewed-insert_entry es k v) (cmp (view k) (view e.0))
      where
        by : map viewed (insert_entry (λ a b. cmp (view a) (view b)) es k v) ≡ insert_entry cmp (map viewed es)
            (view k) v
            → (o : Ordering) → map viewed (match_ordering o ((k, v) ∷ e ∷ es) ((e.0, v) ∷ es) (e ∷ insert_entry
            (λ a b. cmp (view a) (view b)) es k v))
            ≡ match_ordering o ((view k, v) ∷ viewed e ∷ map viewed es) ((view e.0, v) ∷ map viewed es)
            (viewed e ∷ insert_entry cmp (map viewed es) (view k) v)
        by others Less = refl
        by others Equal = refl
        by others Greater = ap (λ l. viewed e ∷ l) others

    pub lookup-viewed : (es : List (K × X)) (k : K)
        → lookup (is_at (λ b. cmp (view k) (view b))) es ≡ lookup (is_at (cmp (view k))) (map viewed es)
    lookup-viewed [] k = refl
    lookup-viewed (e ∷ es) k = ap (λ l. cond (is_at (cmp (view k)) (view e.0)) (Some e.1) l) (lookup-viewed es k)

-- ## One more key in a map

abbrev pub OwnedKey : Type 0
OwnedKey = Vec ℕ Global × String Global

none_of : {X : Type 0} (o : Option X) (none : Bool) → is_some o ≡ not none → none ≡ true → o ≡ None
none_of None none says holds = refl
none_of (Some x) none says holds = absurd cc

some_of : {X : Type 0} (o : Option X) (none : Bool) → is_some o ≡ not none → none ≡ false → (x : X) × (o ≡ Some x)
some_of None none says fails = absurd cc
some_of (Some x) none says fails = (x, refl)

pub first_in_map : (es : List (OwnedKey × Marker)) (key : OwnedKey)
    → lookup (is_at (λ b. key_cmp (key_bytes key) (key_bytes b))) es ≡ first_among (key_bytes key) (many_of es)
first_in_map es key = lookup-viewed key_bytes key_cmp es key

pub with_new_place : (es entries : List (OwnedKey × Marker)) (key : OwnedKey) (place : Marker) (before : Option Marker)
    (none : Bool) → before ≡ lookup (is_at (λ b. key_cmp (key_bytes key) (key_bytes b))) es
    → is_some before ≡ not none → none ≡ true
    → entries ≡ insert_entry (λ a b. key_cmp (key_bytes a) (key_bytes b)) es key place
    → many_of entries ≡ with_first_among (key_bytes key) place (many_of es)
with_new_place es entries key place before none is says holds inserted =
    rw (← first_in_map es key, ← is, none_of before none says holds)
    (ap (λ l. many_of l) inserted ∙ map_viewed-insert_entry key_bytes key_cmp es key place)

pub with_old_place : (es : List (OwnedKey × Marker)) (key : OwnedKey) (place : Marker) (before : Option Marker)
    (none : Bool) → before ≡ lookup (is_at (λ b. key_cmp (key_bytes key) (key_bytes b))) es
    → is_some before ≡ not none → none ≡ false
    → many_of es ≡ with_first_among (key_bytes key) place (many_of es)
with_old_place es key place before none is says fails =
    rw (← first_in_map es key, ← is, (some_of before none says fails).1) refl

-- ## Keys that are added one after the other

both_equal : (o p : Ordering) → ordering_then o p ≡ Equal → (o ≡ Equal) × (p ≡ Equal)
both_equal Less p h = absurd cc
both_equal Equal p h = (refl, h)
both_equal Greater p h = absurd cc

is_equal : (o : Ordering) → is_eq o ≡ true → o ≡ Equal
is_equal Less h = absurd cc
is_equal Equal h = refl
is_equal Greater h = absurd cc

same_key : (k q : Key) → is_at (key_cmp k) q ≡ true → k ≡ q
same_key k q h = let both = both_equal _ _ (is_equal _ h) in
    ap (λ a. (a, k.1)) (exact_bytes k.0 q.0 both.0) ∙ ap (λ b. (q.0, b)) (exact_bytes k.1 q.1 both.1)

-- A search behind one more key finds that key, or what was found before.
lookup-inserted : (q k : Key) (place : Marker) (es : List (Key × Marker))
    → first_among q (insert_entry key_cmp es k place)
    ≡ cond (is_at (key_cmp q) k) (Some place) (first_among q es)
lookup-inserted q k place [] = refl
lookup-inserted q k place (e ∷ es) = by (lookup-inserted q k place es) (key_cmp k e.0) refl
  where
    skips : (a b : Bool) → a ≡ is_at (key_cmp q) k → b ≡ is_at (key_cmp q) e.0 → key_cmp k e.0 ≡ Greater
        → cond b (Some e.1) (cond a (Some place) (first_among q es))
        ≡ cond a (Some place) (cond b (Some e.1) (first_among q es))
    skips true true here there order =
        let at_k = same_key q k (sym here) in
        let equal : is_eq (key_cmp k e.0) ≡ true = ap (λ x. is_eq (key_cmp x e.0)) (sym at_k) ∙ sym there in
        absurd (false≢true (ap is_eq (sym order) ∙ equal))
    skips true false here there order = refl
    skips false b here there order = refl

    same : (a b : Bool) → a ≡ b → cond b (Some place) (first_among q es)
        ≡ cond a (Some place) (cond b (Some e.1) (first_among q es))
    same true true is = refl
    same false false is = refl
    same true false is = absurd cc
    same false true is = absurd cc

    by : first_among q (insert_entry key_cmp es k place)
        ≡ cond (is_at (key_cmp q) k) (Some place) (first_among q es)
        → (o : Ordering) → key_cmp k e.0 ≡ o
        → first_among q (match_ordering o ((k, place) ∷ e ∷ es) ((e.0, place) ∷ es) (e ∷ insert_entry key_cmp es k place))
        ≡ cond (is_at (key_cmp q) k) (Some place) (first_among q (e ∷ es))
    by behind Less order = refl
    by behind Equal order = same _ _ (ap (λ x. is_at (key_cmp q) x) (same_key k e.0 (ap is_eq order)))
    by behind Greater order =
        ap (λ l. cond (is_at (key_cmp q) e.0) (Some e.1) l) behind
        ∙ skips _ _ refl refl order

pub with_all-last : (es : List (Key × Marker)) (e : Key × Marker) (places : List (Key × Marker))
    → with_all (es ++ (e ∷ [])) places ≡ insert_entry key_cmp (with_all es places) e.0 e.1
with_all-last [] e places = refl
with_all-last (x ∷ es) e places = with_all-last es e (insert_entry key_cmp places x.0 x.1)

-- the last key that was added is met first
pub first_from_last : (q : Key) (es : List (Key × Marker)) (e : Key × Marker) (places : List (Key × Marker))
    → first_among q (with_all (es ++ (e ∷ [])) places)
    ≡ cond (is_at (key_cmp q) e.0) (Some e.1) (first_among q (with_all es places))
first_from_last q es e places =
    ap (λ l. first_among q l) (with_all-last es e places) ∙ lookup-inserted q e.0 e.1 (with_all es places)

then_ends : (o : Ordering) → is_eq (ordering_then o Equal) ≡ is_eq o
then_ends Less = refl
then_ends Equal = refl
then_ends Greater = refl

-- keys without tags are equal by their texts
pub untagged_test : (xs ys : List ℕ) → is_at (key_cmp (xs, [])) (ys, []) ≡ pointwise nat_eq xs ys
untagged_test xs ys = then_ends (slice_cmp nat_cmp xs ys) ∙ sym (texts_ties xs ys)

-- ## Few keys

few_last : (few : List (ShortText × Marker)) (count : ℕ) (e : ShortText × Marker) → 0 < count → count ≤ length few
    → e ≡ slice_index_or few (count - 1) e
    → few_of (take count few) ≡ few_of (take (count - 1) few) ++ ((short_key e.0, e.1) ∷ [])
few_last few count e some within is =
    let before : count ≡ count - 1 + 1 = omega (arith, some) in
    ap (λ n. few_of (take n few)) before
    ∙ ap (λ l. few_of l) (take_more few (count - 1) e (omega (arith, some, within)))
    ∙ map-append (λ x. (short_key x.0, x.1)) (take (count - 1) few) _
    ∙ ap (λ x. few_of (take (count - 1) few) ++ ((short_key x.0, x.1) ∷ [])) (sym is)

-- The last of few keys is the one that is looked for, or it is among those before.
meets_last : (text : ShortText) (few : List (ShortText × Marker)) (many : List (Key × Marker)) (count : ℕ)
    (e : ShortText × Marker) → 0 < count → count ≤ length few → e ≡ slice_index_or few (count - 1) e
    → first_among (short_key text) (with_all (few_of (take count few)) many)
    ≡ cond (pointwise nat_eq (short_bytes text) (short_bytes e.0)) (Some e.1)
    (first_among (short_key text) (with_all (few_of (take (count - 1) few)) many))
meets_last text few many count e some within is =
    ap (λ l. first_among (short_key text) (with_all l many)) (few_last few count e some within is)
    ∙ first_from_last (short_key text) (few_of (take (count - 1) few)) (short_key e.0, e.1) many
    ∙ ap (λ b. cond b (Some e.1) (first_among (short_key text) (with_all (few_of (take (count - 1) few)) many)))
    (untagged_test (short_bytes text) (short_bytes e.0))

pub is_last : (text : ShortText) (few : List (ShortText × Marker)) (many : List (Key × Marker)) (count : ℕ)
    (e : ShortText × Marker) (a b : List ℕ) (same : Bool) → 0 < count → count ≤ length few
    → e ≡ slice_index_or few (count - 1) e → a ≡ short_bytes text → b ≡ short_bytes e.0
    → same ≡ pointwise nat_eq a b → same ≡ true
    → first_among (short_key text) (with_all (few_of (take count few)) many) ≡ Some e.1
is_last text few many count e a b same some within is a_is b_is test holds =
    let hit : pointwise nat_eq (short_bytes text) (short_bytes e.0) ≡ true =
    rw (← a_is, ← b_is, ← test) holds in
    meets_last text few many count e some within is
    ∙ ap (λ h. cond h (Some e.1) (first_among (short_key text) (with_all (few_of (take (count - 1) few)) many))) hit

pub is_before_last : (text : ShortText) (few : List (ShortText × Marker)) (many : List (Key × Marker)) (count : ℕ)
    (e : ShortText × Marker) (a b : List ℕ) (same : Bool) → 0 < count → count ≤ length few
    → e ≡ slice_index_or few (count - 1) e → a ≡ short_bytes text → b ≡ short_bytes e.0
    → same ≡ pointwise nat_eq a b → same ≡ false
    → first_among (short_key text) (with_all (few_of (take count few)) many)
    ≡ first_among (short_key text) (with_all (few_of (take (count - 1) few)) many)
is_before_last text few many count e a b same some within is a_is b_is test fails =
    let miss : pointwise nat_eq (short_bytes text) (short_bytes e.0) ≡ false =
    rw (← a_is, ← b_is, ← test) fails in
    meets_last text few many count e some within is
    ∙ ap (λ h. cond h (Some e.1) (first_among (short_key text) (with_all (few_of (take (count - 1) few)) many))) miss

pub with_new_few : (text : ShortText) (place : Marker) (few items : List (ShortText × Marker))
    (many : List (Key × Marker)) (before : Option Marker) (none : Bool)
    → before ≡ first_among (short_key text) (with_all (few_of few) many) → is_some before ≡ not none → none ≡ true
    → items ≡ few ++ ((text, place) ∷ [])
    → with_all (few_of items) many ≡ with_first_among (short_key text) place (with_all (few_of few) many)
with_new_few text place few items many before none is says holds pushed =
    rw (← is, none_of before none says holds)
    (ap (λ l. with_all (few_of l) many) pushed
    ∙ ap (λ l. with_all l many) (map-append (λ x. (short_key x.0, x.1)) few ((text, place) ∷ []))
    ∙ with_all-last (few_of few) (short_key text, place) many)

-- one of few keys more is in a map
pub one_more : (few : List (ShortText × Marker)) (i : ℕ) (d : ShortText × Marker) (es entries :
    List (OwnedKey × Marker)) (text : Vec ℕ Global) (name : String Global) → i < length few
    → text.items ≡ short_bytes (slice_index_or few i d).0 → string_bytes name ≡ []
    → entries ≡ insert_entry (λ a b. key_cmp (key_bytes a) (key_bytes b)) es (text, name) (slice_index_or few i d).1
    → with_all (few_of (drop (i + 1) few)) (many_of entries) ≡ with_all (few_of (drop i few)) (many_of es)
one_more few i d es entries text name within text_is name_is inserted =
    let e = slice_index_or few i d in
    let same : key_bytes (text, name) ≡ short_key e.0 =
    ap (λ a. (a, string_bytes name)) text_is ∙ ap (λ b. (short_bytes e.0, b)) name_is in
    let added : many_of entries ≡ insert_entry key_cmp (many_of es) (short_key e.0) e.1 =
    ap (λ l. many_of l) inserted ∙ map_viewed-insert_entry key_bytes key_cmp es (text, name) e.1
    ∙ ap (λ k. insert_entry key_cmp (many_of es) k e.1) same in
    ap (λ l. with_all (few_of (drop (i + 1) few)) l) added
    ∙ ap (λ l. with_all (few_of l) (many_of es)) (sym (drop_more few i d within))
