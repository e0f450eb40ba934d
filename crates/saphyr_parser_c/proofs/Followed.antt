-- Aliases are followed in a table, and keys are compared there.
use Rattle.std.proofs.Common.{arith, ◌≡◌, ◌∙◌, refl, sym, ap, subst, ℕ, zero, suc, ◌+◌, ◌*◌, ◌<◌, ◌≤◌, Bool, true, false, List, [], ◌∷◌, ◌++◌, length, slice_get, Option, Some, None, append_assoc, inl, inr}
use Rattle.std.specs.Option.{option_and_then}
use Rattle.std.proofs.lemmas.Bool.{cases_lt}
use Rattle.std.proofs.lemmas.Option.{slice_get_past, same_Some}
use Rattle.saphyr_parser.specs.Events.{Happening, Alias, MappingStart}
use Rattle.yaml_tree.specs.declared.paths.Step.{Step}
use Rattle.yaml_tree.specs.declared.paths.Step.TheVariants.{Key, Value}
use Rattle.yaml_tree.specs.declared.table.Content.{Content}
use Rattle.yaml_tree.specs.declared.table.Content.TheVariants as content
use Rattle.yaml_tree.specs.declared.table.Entry.{Entry}
use Rattle.yaml_tree.specs.declared.table.NodeTable.{NodeTable}
use Rattle.yaml_tree.specs.Accessing.{is_this_text}
use Rattle.yaml_tree.specs.Tables.{AreNodes, CountsParts, Event, FindsNumber, IsMadeOf, IsNodeAt, IsTable, HasNumber, OfNode, Store, TellsFirst, all_of, nodes_begun, count_of, none as no_parts, numbers, one_more, part_of_step, store_of}
use Rattle.saphyr_parser_c.specs.Followed.{FollowsAlias, GetsAt, HasKeyText, IsKey, IsTextOfKey, IsThere, LeadsFrom, named_by, named_in, text_of_first, scalar_text}
use Rattle.yaml_tree.proofs.Entries.{entry_there, entry_told}
use Rattle.yaml_tree.proofs.LookUps.{length-numbers}
use Rattle.yaml_tree.proofs.Places.{begun-append, made_once, place_once, within}
use Rattle.yaml_tree.proofs.Roots.{start_event}

-- ## Places

-- the node of a part has its number
part_placed : (es front behind : List Event) (n : ℕ) (parts : List (List Event)) (i k : ℕ) → AreNodes parts
    → es ≡ front ++ (all_of parts ++ behind) → nodes_begun front ≡ n → slice_get (numbers n parts) i ≡ Some k
    → (part : List Event) × IsNodeAt es k part
part_placed es front behind n _ i k no_parts split first get = cc
part_placed es front behind n _ zero k (one_more own others node nodes) split first get = (
  own,
  record {
    front = front;
    behind = all_of others ++ behind;
    split = split ∙ ap (λ (l : List Event). front ++ l) (append_assoc own (all_of others) behind);
    first = first ∙ same_Some n k get;
    node = node;
  },
)
part_placed es front behind n _ (suc i) k (one_more own others node nodes) split first get =
    let long = begun-append front own in
    part_placed es (front ++ own) behind (n + nodes_begun own) others i k nodes
    (split ∙ ap (λ (l : List Event). front ++ l) (append_assoc own (all_of others) behind)
    ∙ sym (append_assoc front own (all_of others ++ behind)))
    (omega (arith, long, first)) get

no_part : (n k : ℕ) (o : Option ℕ) → Some k ≡ option_and_then (slice_get (numbers n [])) o → ⊥
no_part n k None e = cc
no_part n k (Some zero) e = cc
no_part n k (Some (suc i)) e = cc

get_of : (xs : List ℕ) (k : ℕ) (o : Option ℕ) → Some k ≡ option_and_then (slice_get xs) o
    → (i : ℕ) × (slice_get xs i ≡ Some k)
get_of xs k None e = cc
get_of xs k (Some i) e = (i, sym e)

part_there : (es : List Event) (number : ℕ) (own : List Event) (step : Step) (k : ℕ) → IsNodeAt es number own
    → HasNumber own number step (Some k) → k < nodes_begun es
part_there es number own step k at leads = elim leads.made [
  | inl m ↦ absurd (no_part (suc number) k (part_of_step leads.first.0 step)
      (subst (λ (ps : List (List Event)). Some k ≡ option_and_then (slice_get (numbers (suc number) ps)) (part_of_step leads.first.0 step)) m.2 leads.leads))
  | inr m ↦
      let get = get_of (numbers (suc number) leads.parts) k (part_of_step leads.first.0 step) leads.leads in
      let long = begun-append at.front (leads.first ∷ []) in
      let before = at.first in
      let one = (start_event leads.first.0 m.0).0 in
      let there = part_placed es (at.front ++ leads.first ∷ []) (leads.last ∷ at.behind) (suc number) leads.parts get.0 k m.2
      (at.split ∙ ap (λ (l : List Event). at.front ++ (l ++ at.behind)) m.1
      ∙ ap (λ (l : List Event). at.front ++ (leads.first ∷ l)) (append_assoc (all_of leads.parts) (leads.last ∷ []) at.behind)
      ∙ sym (append_assoc at.front (leads.first ∷ []) (all_of leads.parts ++ (leads.last ∷ at.behind))))
      (omega (arith, long, before, one)) get.1 in
      within es k there.0 there.1
]

-- ## Aliases

first_named : (own : List Event) (first : Event) (parts : List (List Event)) (last : Event)
    → IsMadeOf own first parts last → named_in own ≡ named_by first.0
first_named own first parts last (inl m) = ap named_in m.1
first_named own first parts last (inr m) = ap named_in m.1

first_text : (own : List Event) (first : Event) (parts : List (List Event)) (last : Event)
    → IsMadeOf own first parts last → text_of_first own ≡ scalar_text first.0
first_text own first parts last (inl m) = ap text_of_first m.1
first_text own first parts last (inr m) = ap text_of_first m.1

pub follows_none : (table : NodeTable) (number : ℕ) (r : Option ℕ) → None ≡ slice_get table.entries.items number
    → r ≡ None → FollowsAlias number r table
follows_none table number r none is = (
  λ es t less. absurd (entry_there es table number t less (sym none)),
  λ _. is,
)

pub follows_alias : (table : NodeTable) (number id : ℕ) (e : Entry) (r : Option ℕ)
    → Some e ≡ slice_get table.entries.items number → e.content ≡ content.Alias id
    → ((es : List Event) → IsTable es table → FindsNumber es id r) → FollowsAlias number r table
follows_alias table number id e r there is finds = (
  λ es t less.
      let own = entry_told es table number e t (sym there) in
      let s = own.2 in
      let told : s.first.0 ≡ Alias id =
      subst (λ (x : Content). TellsFirst (store_of table) x s.first.0) is s.told in (
        own.0,
        own.1,
        subst (λ (o : Option ℕ). LeadsFrom es number o r)
            (sym (first_named own.0 s.first s.parts s.last s.made ∙ ap named_by told)) (finds es t),
      ),
  λ none. let e = there ∙ none in cc,
)

no_alias : (s : Store) (x : Content) (h : Happening) → TellsFirst s x h → ((id : ℕ) → x ≡ content.Alias id → ⊥)
    → named_by h ≡ None
no_alias s (content.Alias id) h told never = absurd (never id refl)
no_alias s (content.Scalar style row number) h told never = ap named_by told.3
no_alias s (content.Sequence row number) h told never = ap named_by told.2
no_alias s (content.Mapping row number) h told never = ap named_by told.2

pub follows_itself : (table : NodeTable) (number : ℕ) (e : Entry) → Some e ≡ slice_get table.entries.items number
    → ((id : ℕ) → e.content ≡ content.Alias id → ⊥) → FollowsAlias number (Some number) table
follows_itself table number e there never = (
  λ es t less.
      let own = entry_told es table number e t (sym there) in
      let s = own.2 in (
        own.0,
        own.1,
        subst (λ (o : Option ℕ). LeadsFrom es number o (Some number))
            (sym (first_named own.0 s.first s.parts s.last s.made ∙ no_alias (store_of table) e.content s.first.0 s.told never)) refl,
      ),
  λ none. let e = there ∙ none in cc,
)

anchor_there : (es : List Event) (id n : ℕ) → FindsNumber es id (Some n) → n < nodes_begun es
anchor_there es zero n found = cc
anchor_there es (suc id) n found = within es n found.0 found.1

leads_there : (es : List Event) (number n : ℕ) (o : Option ℕ) → number < nodes_begun es → LeadsFrom es number o (Some n)
    → n < nodes_begun es
leads_there es number n (Some id) less found = anchor_there es id n found
leads_there es number n None less same = let e = same_Some n number same in omega (arith, e, less)

-- what is followed is there
pub follows_there : (es : List Event) (table : NodeTable) (number : ℕ) (r : Option ℕ) → IsTable es table
    → number < nodes_begun es → FollowsAlias number r table → IsThere es r
follows_there es table number None t less f = tt
follows_there es table number (Some n) t less f =
    let in_es = f.0 es t less in leads_there es number n (named_in in_es.0) less in_es.2

pub followed_there : (es : List Event) (table : NodeTable) (number n : ℕ) → IsTable es table
    → FollowsAlias number (Some n) table → n < nodes_begun es
followed_there es table number n t f = elim (cases_lt number (nodes_begun es)) [
  | inl l ↦ follows_there es table number (Some n) t l f
  | inr m ↦
      let long = t.nodes in
      let none = f.1 (slice_get_past table.entries.items number (subst (λ (k : ℕ). k ≤ number) (sym long) m)) in cc
]

-- ## Keys

pub is_text : (es : List Event) (table : NodeTable) (text : List ℕ) (number : ℕ) (e : Entry) (b : Bool) → IsTable es table
    → Some e ≡ slice_get table.entries.items number
    → ((h : Happening) → TellsFirst (store_of table) e.content h → b ≡ is_this_text text (scalar_text h))
    → IsTextOfKey es text (Some number) b
is_text es table text number e b t there is =
    let own = entry_told es table number e t (sym there) in
    let s = own.2 in (
      own.0,
      own.1,
      is s.first.0 s.told
          ∙ ap (is_this_text text) (sym (first_text own.0 s.first s.parts s.last s.made)),
    )

pub no_text : (es : List Event) (table : NodeTable) (text : List ℕ) (number : ℕ) (b : Bool) → IsTable es table
    → number < nodes_begun es → None ≡ slice_get table.entries.items number → IsTextOfKey es text (Some number) b
no_text es table text number b t less none =
    absurd (entry_there es table number t less (sym none))

leads_once : (own : List Event) (number : ℕ) (step : Step) (r q : Option ℕ) → HasNumber own number step r
    → HasNumber own number step q → r ≡ q
leads_once own number step r q a b =
    let same = made_once own a.first b.first a.parts b.parts a.last b.last a.made b.made in
    a.leads ∙ ap (λ (e : Event). option_and_then (slice_get (numbers (suc number) a.parts)) (part_of_step e.0 step)) same.0
    ∙ ap (λ (ps : List (List Event)). option_and_then (slice_get (numbers (suc number) ps)) (part_of_step b.first.0 step)) same.1
    ∙ sym b.leads

leads_in : (es own : List Event) (number : ℕ) (step : Step) (r : Option ℕ) (table : NodeTable) → IsTable es table
    → IsNodeAt es number own → OfNode table number (λ (own : List Event). HasNumber own number step r)
    → HasNumber own number step r
leads_in es own number step r table t at leads =
    let there = leads es t (within es number own at) in
    subst (λ (l : List Event). HasNumber l number step r) (place_once es number there.0 own there.1 at) there.2

-- the key of this number is the one at an index
pub is_key : (es own : List Event) (text : List ℕ) (whole index number : ℕ) (r : Option ℕ) (table : NodeTable) (b : Bool)
    → IsTable es table → IsNodeAt es whole own
    → OfNode table whole (λ (own : List Event). HasNumber own whole (Key index) (Some number)) → FollowsAlias number r table
    → (IsThere es r → IsTextOfKey es text r b) → IsKey es text own whole index b
is_key es own text whole index number r table b t at leads follows is =
    let key = leads_in es own whole (Key index) (Some number) table t at leads in
    let less = part_there es whole own (Key index) number at key in
    let has : HasKeyText es text number b = (r, follows.0 es t less, is (follows_there es table number r t less follows)) in
    by b key has
  where
    by : (b : Bool) → HasNumber own whole (Key index) (Some number) → HasKeyText es text number b → IsKey es text own whole index b
    by true key has = (number, key, has)
    by false key has = λ other leads.
        let same = same_Some number other (leads_once own whole (Key index) (Some number) (Some other) key leads) in
        subst (λ (n : ℕ). HasKeyText es text n false) same has

pub no_key : (es own : List Event) (text : List ℕ) (whole index : ℕ) (table : NodeTable) → IsTable es table
    → IsNodeAt es whole own → OfNode table whole (λ (own : List Event). HasNumber own whole (Key index) None)
    → IsKey es text own whole index false
no_key es own text whole index table t at leads = λ key there.
    let none = leads_once own whole (Key index) None (Some key)
    (leads_in es own whole (Key index) None table t at leads) there in cc

-- ## Pairs

some_within : (xs : List ℕ) (i k : ℕ) → Some k ≡ slice_get xs i → i < length xs
some_within [] i k e = cc
some_within (x ∷ xs) zero k e = omega arith
some_within (x ∷ xs) (suc i) k e = let less = some_within xs i k e in omega (arith, less)

none_past : (xs : List ℕ) (i : ℕ) → None ≡ slice_get xs i → length xs ≤ i
none_past [] i e = omega arith
none_past (x ∷ xs) zero e = cc
none_past (x ∷ xs) (suc i) e = let more = none_past xs i e in omega (arith, more)

value_counts : (h : Happening) (xs : List ℕ) (count i v : ℕ) → count ≡ count_of h (length xs)
    → Some v ≡ option_and_then (slice_get xs) (part_of_step h (Value i)) → i < count
value_counts (MappingStart id tag) xs count i v is e =
    let less = some_within xs (2 * i + 1) v e in omega (arith, is, less)
value_counts _ xs count i v is e = cc

value_missing : (h : Happening) (xs : List ℕ) (count i k : ℕ) → count ≡ count_of h (length xs)
    → Some k ≡ option_and_then (slice_get xs) (part_of_step h (Key i))
    → None ≡ option_and_then (slice_get xs) (part_of_step h (Value i)) → count ≤ i
value_missing (MappingStart id tag) xs count i k is key e =
    let past = none_past xs (2 * i + 1) e in omega (arith, is, past)
value_missing _ xs count i k is key e = cc

-- a part's number by the parts that the number of pairs was counted from
leads_by : (own : List Event) (number count : ℕ) (step : Step) (r : Option ℕ) (c : CountsParts own count)
    → HasNumber own number step r
    → r ≡ option_and_then (slice_get (numbers (suc number) c.parts)) (part_of_step c.first.0 step)
leads_by own number count step r c leads = leads_once own number step r _ leads
    (record { first = c.first; parts = c.parts; last = c.last; made = c.made; leads = refl })

counts_by : (own : List Event) (number count : ℕ) (c : CountsParts own count)
    → count ≡ count_of c.first.0 (length (numbers (suc number) c.parts))
counts_by own number count c =
    c.counts ∙ ap (count_of c.first.0) (sym (length-numbers (suc number) c.parts))

pair_within : (own : List Event) (number count i v : ℕ) → CountsParts own count → HasNumber own number (Value i) (Some v)
    → i < count
pair_within own number count i v c leads =
    value_counts c.first.0 (numbers (suc number) c.parts) count i v (counts_by own number count c)
    (leads_by own number count (Value i) (Some v) c leads)

no_value : (own : List Event) (number count i k : ℕ) → CountsParts own count → HasNumber own number (Key i) (Some k)
    → HasNumber own number (Value i) None → count ≤ i
no_value own number count i k c key value =
    value_missing c.first.0 (numbers (suc number) c.parts) count i k (counts_by own number count c)
    (leads_by own number count (Key i) (Some k) c key) (leads_by own number count (Value i) None c value)

counts_in : (es own : List Event) (number count : ℕ) (table : NodeTable) → IsTable es table → IsNodeAt es number own
    → OfNode table number (λ (own : List Event). CountsParts own count) → CountsParts own count
counts_in es own number count table t at counts =
    let there = counts es t (within es number own at) in
    subst (λ (l : List Event). CountsParts l count) (place_once es number there.0 own there.1 at) there.2

-- ## The value of a key

-- no key before this index has the text
abbrev pub NoneBefore : NodeTable → List ℕ → ℕ → ℕ → Type 0
NoneBefore table text number index = (es own : List Event) → IsTable es table → IsNodeAt es number own
    → (before : ℕ) → before < index → IsKey es text own number before false

pub none_more : (table : NodeTable) (text : List ℕ) (number index : ℕ) → NoneBefore table text number index
    → ((es own : List Event) → IsTable es table → IsNodeAt es number own → IsKey es text own number index false)
    → NoneBefore table text number (index + 1)
none_more table text number index none here = λ es own t at before less. elim (cases_lt before index) [
  | inl l ↦ none es own t at before l
  | inr m ↦ let same : index ≡ before = omega arith in
      subst (λ (n : ℕ). IsKey es text own number n false) same (here es own t at)
]

pub gets_value : (table : NodeTable) (text : List ℕ) (number index count : ℕ) (r : Option ℕ) → index < count
    → NoneBefore table text number index
    → ((es own : List Event) → IsTable es table → IsNodeAt es number own → IsKey es text own number index true)
    → OfNode table number (λ (own : List Event). CountsParts own count)
    → OfNode table number (λ (own : List Event). HasNumber own number (Value index) r)
    → (es : List Event) → IsTable es table → number < nodes_begun es → GetsAt es text (Some number) r
gets_value table text number index count (Some value) less none here counts leads = λ es t there.
    let own = leads es t there in
    let key = here es own.0 t own.1 in
    (own.0, own.1, (index, key.0, (key.1, own.2), key.2, λ before k v l pair. none es own.0 t own.1 before l k pair.0))
gets_value table text number index count None less none here counts leads = λ es t there.
    let own = leads es t there in
    let key = here es own.0 t own.1 in
    let past = no_value own.0 number count index key.0 (counts_in es own.0 number count table t own.1 counts) key.1 own.2 in
    absurd (omega (arith, less, past))

pub gets_none : (table : NodeTable) (text : List ℕ) (number count index : ℕ) → NoneBefore table text number index
    → count ≤ index → OfNode table number (λ (own : List Event). CountsParts own count)
    → (es : List Event) → IsTable es table → number < nodes_begun es → GetsAt es text (Some number) None
gets_none table text number count index none long counts = λ es t there.
    let own = counts es t there in (
      own.0,
      own.1,
      λ i k v pair.
          let less = pair_within own.0 number count i v own.2 pair.1 in
          none es own.0 t own.1 i (omega (arith, less, long)) k pair.0,
    )
