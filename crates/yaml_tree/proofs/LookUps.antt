-- What is found in a table is what the events of its nodes are.
use Rattle.std.proofs.Common.{arith, ◌≡◌, ◌∙◌, refl, sym, ap, subst, ℕ, zero, suc, ◌+◌, ◌*◌, ◌/◌, ◌<◌, ◌≤◌, true, false, List, [], ◌∷◌, ◌++◌, length, slice_get, Option, Some, None, inl, inr}
use Rattle.std.specs.Option.{option_and_then}
use Rattle.std.proofs.lemmas.Bool.{cases_lt}
use Rattle.saphyr_parser.specs.Events.{Happening, Scalar, SequenceStart, MappingStart}
use Rattle.yaml_tree.specs.declared.paths.Step.{Step}
use Rattle.yaml_tree.specs.declared.paths.Step.TheVariants.{Index, Key, Value}
use Rattle.yaml_tree.specs.declared.table.Content.{Content}
use Rattle.yaml_tree.specs.declared.table.Content.TheVariants as content
use Rattle.yaml_tree.specs.declared.table.Entry.{Entry}
use Rattle.yaml_tree.specs.declared.table.NodeTable.{NodeTable}
use Rattle.yaml_tree.specs.declared.table.Row.{Row}
use Rattle.yaml_tree.specs.Tables.{CountsParts, Event, FindsNumber, HasParts, TellsAnchor, IsMadeOf, IsNodeAt, IsTable, HasNumber, OfNode, StandIn, Store, TellsNode, TellsFirst, anchor_in, id_of_anchor, beginning, nodes_begun, count_of, numbers, part_of_step, store_of}
use Rattle.yaml_tree.proofs.Entries.{entry_there, entry_told}
use Rattle.yaml_tree.proofs.Places.{begins, begun-append, fronts_once, place_once}

pub length-numbers : (n : ℕ) (parts : List (List Event)) → length (numbers n parts) ≡ length parts
length-numbers n [] = refl
length-numbers n (own ∷ others) = let e = length-numbers (n + nodes_begun own) others in omega (arith, e)

-- what holds where an entry tells of a node holds of its node
pub of_entry : (t : NodeTable) (number : ℕ) (e : Entry) (Holds : List Event → Type 0)
    → Some e ≡ slice_get t.entries.items number → ((own : List Event) → TellsNode (store_of t) number e own → Holds own)
    → OfNode t number Holds
of_entry t number e Holds there holds = λ es is less.
    let told = entry_told es t number e is (sym there) in (told.0, told.1, holds told.0 told.2)

pub of_none : (t : NodeTable) (number : ℕ) (Holds : List Event → Type 0) → None ≡ slice_get t.entries.items number
    → OfNode t number Holds
of_none t number Holds none = λ es is less. absurd (entry_there es t number is less (sym none))

-- ## How many parts there are

abbrev pub count_in : Content → ℕ
count_in (content.Sequence row n) = row.count
count_in (content.Mapping row n) = row.count / 2
count_in _ = 0

count_told : (s : Store) (x : Content) (h : Happening) (number : ℕ) (parts : List (List Event)) → TellsFirst s x h
    → HasParts s x (numbers (suc number) parts) → count_in x ≡ count_of h (length parts)
count_told s (content.Alias id) h number parts told has = sym (ap (λ (h : Happening). count_of h (length parts)) told)
count_told s (content.Scalar style row n) h number parts told has =
    sym (ap (λ (h : Happening). count_of h (length parts)) told.3)
count_told s (content.Sequence row n) h number parts told has =
    sym has.4 ∙ length-numbers (suc number) parts ∙ sym (ap (λ (h : Happening). count_of h (length parts)) told.2)
count_told s (content.Mapping row n) h number parts told has =
    ap (λ (n : ℕ). n / 2) (sym has.4 ∙ length-numbers (suc number) parts)
    ∙ sym (ap (λ (h : Happening). count_of h (length parts)) told.2)

pub counts : (s : Store) (number : ℕ) (e : Entry) (x : Content) (own : List Event) → e.content ≡ x
    → TellsNode s number e own → CountsParts own (count_in x)
counts s number e x own is t = record {
  first = t.first;
  parts = t.parts;
  last = t.last;
  made = t.made;
  counts = ap count_in (sym is) ∙ count_told s e.content t.first.0 number t.parts t.told t.row;
}

pub counts_none : (s : Store) (number : ℕ) (e : Entry) (own : List Event)
    → ((row : Row) (n : ℕ) → e.content ≡ content.Sequence row n → ⊥)
    → ((row : Row) (n : ℕ) → e.content ≡ content.Mapping row n → ⊥) → TellsNode s number e own → CountsParts own 0
counts_none s number e own no_sequence no_mapping t =
    subst (CountsParts own) (no_count e.content no_sequence no_mapping) (counts s number e e.content own refl t)
  where
    no_count : (x : Content) → ((row : Row) (n : ℕ) → x ≡ content.Sequence row n → ⊥)
        → ((row : Row) (n : ℕ) → x ≡ content.Mapping row n → ⊥) → count_in x ≡ 0
    no_count (content.Sequence row n) f g = absurd (f row n refl)
    no_count (content.Mapping row n) f g = absurd (g row n refl)
    no_count _ f g = refl

-- ## Where a part is

-- the number behind a step from a node with this content
abbrev pub Leads : Store → Content → Step → Option ℕ → Type 0
Leads s (content.Sequence row n) (Index i) r = (ns : List ℕ) → StandIn ns row s.parts → r ≡ slice_get ns i
Leads s (content.Mapping row n) (Key i) r = (ns : List ℕ) → StandIn ns row s.parts → r ≡ slice_get ns (2 * i)
Leads s (content.Mapping row n) (Value i) r = (ns : List ℕ) → StandIn ns row s.parts → r ≡ slice_get ns (2 * i + 1)
Leads s _ step r = r ≡ None

part_told : (s : Store) (x : Content) (h : Happening) (step : Step) (ns : List ℕ) (r : Option ℕ) → TellsFirst s x h
    → HasParts s x ns → Leads s x step r → r ≡ option_and_then (slice_get ns) (part_of_step h step)
part_told s (content.Alias id) h step ns r told has leads =
    leads ∙ sym (ap (λ (h : Happening). option_and_then (slice_get ns) (part_of_step h step)) told)
part_told s (content.Scalar style row n) h step ns r told has leads =
    leads ∙ sym (ap (λ (h : Happening). option_and_then (slice_get ns) (part_of_step h step)) told.3)
part_told s (content.Sequence row n) h (Index i) ns r told has leads =
    leads ns has ∙ sym (ap (λ (h : Happening). option_and_then (slice_get ns) (part_of_step h (Index i))) told.2)
part_told s (content.Sequence row n) h (Key i) ns r told has leads =
    leads ∙ sym (ap (λ (h : Happening). option_and_then (slice_get ns) (part_of_step h (Key i))) told.2)
part_told s (content.Sequence row n) h (Value i) ns r told has leads =
    leads ∙ sym (ap (λ (h : Happening). option_and_then (slice_get ns) (part_of_step h (Value i))) told.2)
part_told s (content.Mapping row n) h (Index i) ns r told has leads =
    leads ∙ sym (ap (λ (h : Happening). option_and_then (slice_get ns) (part_of_step h (Index i))) told.2)
part_told s (content.Mapping row n) h (Key i) ns r told has leads =
    leads ns has ∙ sym (ap (λ (h : Happening). option_and_then (slice_get ns) (part_of_step h (Key i))) told.2)
part_told s (content.Mapping row n) h (Value i) ns r told has leads =
    leads ns has ∙ sym (ap (λ (h : Happening). option_and_then (slice_get ns) (part_of_step h (Value i))) told.2)

pub leads_to : (s : Store) (number : ℕ) (e : Entry) (x : Content) (own : List Event) (step : Step) (r : Option ℕ)
    → e.content ≡ x → Leads s x step r → TellsNode s number e own → HasNumber own number step r
leads_to s number e x own step r is leads t = record {
  first = t.first;
  parts = t.parts;
  last = t.last;
  made = t.made;
  leads = part_told s e.content t.first.0 step (numbers (suc number) t.parts) r t.told t.row
      (subst (λ (x : Content). Leads s x step r) (sym is) leads);
}

pub no_item : (s : Store) (row : Row) (n : ℕ) (step : Step) → ((i : ℕ) → step ≡ Index i → ⊥)
    → Leads s (content.Sequence row n) step None
no_item s row n (Index i) f = absurd (f i refl)
no_item s row n (Key i) f = refl
no_item s row n (Value i) f = refl

pub no_part : (s : Store) (x : Content) (step : Step) → ((row : Row) (n : ℕ) → x ≡ content.Sequence row n → ⊥)
    → ((row : Row) (n : ℕ) → x ≡ content.Mapping row n → ⊥) → Leads s x step None
no_part s (content.Sequence row n) step f g = absurd (f row n refl)
no_part s (content.Mapping row n) step f g = absurd (g row n refl)
no_part s _ step f g = refl

-- ## Anchors

pub first_anchor : (own : List Event) (first : Event) (parts : List (List Event)) (last : Event)
    → IsMadeOf own first parts last → anchor_in own ≡ id_of_anchor first.0
first_anchor own first parts last (inl m) = ap anchor_in m.1
first_anchor own first parts last (inr m) = ap anchor_in m.1

pub finds_some : (es own : List Event) (id number : ℕ) → (id ≡ 0 → ⊥) → IsNodeAt es number own → anchor_in own ≡ id
    → FindsNumber es id (Some number)
finds_some es own zero number some at is = absurd (some refl)
finds_some es own (suc id) number some at is = (own, at, is)

anchor_begins : (h : Happening) → (id_of_anchor h ≡ 0 → ⊥) → beginning h ≡ 1
anchor_begins (Scalar text style id tag) some = refl
anchor_begins (SequenceStart id tag) some = refl
anchor_begins (MappingStart id tag) some = refl
anchor_begins _ some = absurd (some refl)

begun_within : (es front behind : List Event) (e : Event) → es ≡ front ++ (e ∷ behind) → beginning e.0 ≡ 1
    → nodes_begun front < nodes_begun es
begun_within es front behind e split one =
    let all = ap nodes_begun split ∙ begun-append front (e ∷ behind) in omega (arith, all, one)

-- the node that an event begins
first_here : (es own front behind : List Event) (e : Event) → es ≡ front ++ (e ∷ behind) → beginning e.0 ≡ 1
    → IsNodeAt es (nodes_begun front) own → anchor_in own ≡ id_of_anchor e.0
first_here es own front behind e split one at =
    let b = begins own at.node in
    let there = at.split ∙ ap (λ (l : List Event). at.front ++ (l ++ at.behind)) b.split in
    let same = fronts_once at.front front (b.others ++ at.behind) behind b.first e b.one one at.first
    (sym there ∙ split) in
    let first : b.first ≡ e = cc in
    ap anchor_in b.split ∙ ap (λ (e : Event). id_of_anchor e.0) first

-- no node before this number has the anchor
abbrev pub NoneBefore : NodeTable → ℕ → ℕ → Type 0
NoneBefore t id number = (es own : List Event) (i : ℕ) → IsTable es t → i < number → IsNodeAt es i own
    → anchor_in own ≡ id → ⊥

pub finds_none : (t : NodeTable) (id many : ℕ) (es : List Event) → (id ≡ 0 → ⊥) → length t.entries.items ≤ many
    → NoneBefore t id many → IsTable es t → FindsNumber es id None
finds_none t zero many es some long none is = refl
finds_none t (suc id) many es some long none is = λ front behind e split has.
    let one = anchor_begins e.0 (λ zero. let x = sym has ∙ zero in some x) in
    let less = begun_within es front behind e split one in
    let all = is.nodes in
    let inside : nodes_begun front < length t.entries.items = omega (arith, less, all) in
    let entry = some_entry t.entries.items (nodes_begun front) inside in
    let told = entry_told es t (nodes_begun front) entry.0 is entry.1 in
    none es told.0 (nodes_begun front) is (omega (arith, inside, long)) told.1
    (first_here es told.0 front behind e split one told.1 ∙ has)
  where
    some_entry : (xs : List Entry) (i : ℕ) → i < length xs → (e : Entry) × (slice_get xs i ≡ Some e)
    some_entry [] i h = absurd (omega arith)
    some_entry (x ∷ xs) zero h = (x, refl)
    some_entry (x ∷ xs) (suc i) h = some_entry xs i (omega arith)

pub none_further : (t : NodeTable) (id number : ℕ) → NoneBefore t id number
    → ((es own : List Event) → IsTable es t → IsNodeAt es number own → anchor_in own ≡ id → ⊥)
    → NoneBefore t id (number + 1)
none_further t id number none here = λ es own i is less at has. elim (cases_lt i number) [
  | inl l ↦ none es own i is l at has
  | inr m ↦ let same : i ≡ number = omega arith in
      here es own is (subst (λ (n : ℕ). IsNodeAt es n own) same at) has
]

-- ## Whether a node has an anchor

pub anchor_here : (t : NodeTable) (number id : ℕ) (e : Entry) → Some e ≡ slice_get t.entries.items number
    → ((h : Happening) → TellsFirst (store_of t) e.content h → TellsAnchor id (id_of_anchor h) true)
    → (es : List Event) → IsTable es t → (own : List Event) × IsNodeAt es number own × (anchor_in own ≡ id)
anchor_here t number id e there has es is =
    let told = entry_told es t number e is (sym there) in
    let s = told.2 in
    (told.0, told.1, first_anchor told.0 s.first s.parts s.last s.made ∙ has s.first.0 s.told)

pub anchor_not_here : (t : NodeTable) (number id : ℕ) (e : Entry) → Some e ≡ slice_get t.entries.items number
    → ((h : Happening) → TellsFirst (store_of t) e.content h → TellsAnchor id (id_of_anchor h) false)
    → (es own : List Event) → IsTable es t → IsNodeAt es number own → anchor_in own ≡ id → id ≡ 0
anchor_not_here t number id e there has es own is at here =
    let told = entry_told es t number e is (sym there) in
    let s = told.2 in
    has s.first.0 s.told (sym (first_anchor told.0 s.first s.parts s.last s.made)
    ∙ ap anchor_in (place_once es number told.0 own told.1 at) ∙ here)
