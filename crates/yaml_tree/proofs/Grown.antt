-- Nodes as they begin and end, event after event.
use Rattle.std.proofs.Common.{arith, ◌≡◌, ◌∙◌, refl, sym, ap, subst, inl, inr, ℕ, suc, ◌+◌, List, [], ◌∷◌, ◌++◌, length, append_assoc, append-nil}
use Rattle.std.proofs.lemmas.List.{length-append}
use Rattle.saphyr_parser.specs.Events.{Happening}
use Rattle.yaml_tree.specs.declared.growing.Level.{Level}
use Rattle.yaml_tree.specs.declared.table.Content.{Content}
use Rattle.yaml_tree.specs.declared.table.Content.TheVariants as content
use Rattle.yaml_tree.specs.declared.table.Entry.{Entry}
use Rattle.yaml_tree.specs.declared.table.Mark.{Mark}
use Rattle.yaml_tree.specs.declared.table.Row.{Row}
use Rattle.yaml_tree.specs.Tables.{AreEntriesFrom, AreNodes, Event, HasParts, IsEnd, IsEntryAt, IsLeafEvent, IsNode, IsNodeAt, StandIn, Store, TellsNode, TellsFirst, all_of, nodes_begun, leaf, marker_of, none, numbers, one_more, whole}
use Rattle.yaml_tree.specs.GrowerSeen.{Holds, Inside, IsMore, IsOpen, closed}
use Rattle.yaml_tree.proofs.Places.{begun-append}
use Rattle.yaml_tree.proofs.Roots.{end_event, leaf_event, start_event}
use Rattle.yaml_tree.proofs.Stores.{more_none, parts_closed, parts_more, stands_last, told_closed, told_more}

-- ## Events

all_of-snoc : (ps : List (List Event)) (own : List Event) → all_of (ps ++ own ∷ []) ≡ all_of ps ++ own
all_of-snoc [] own = append-nil own
all_of-snoc (p ∷ ps) own =
    ap (λ (es : List Event). p ++ es) (all_of-snoc ps own) ∙ sym (append_assoc p (all_of ps) own)

nodes-snoc : (ps : List (List Event)) (own : List Event) → AreNodes ps → IsNode own → AreNodes (ps ++ own ∷ [])
nodes-snoc [] own none n = one_more own [] n none
nodes-snoc (p ∷ ps) own (one_more _ _ m h) n = one_more p (ps ++ own ∷ []) m (nodes-snoc ps own h n)

numbers-snoc : (n : ℕ) (ps : List (List Event)) (own : List Event)
    → numbers n (ps ++ own ∷ []) ≡ numbers n ps ++ (n + nodes_begun (all_of ps)) ∷ []
numbers-snoc n [] own = let e : n ≡ n + 0 = omega arith in ap (λ (m : ℕ). m ∷ []) e
numbers-snoc n (p ∷ ps) own =
    let long = begun-append p (all_of ps) in
    let e : (n + nodes_begun p) + nodes_begun (all_of ps) ≡ n + nodes_begun (p ++ all_of ps) = omega (arith, long) in
    ap (λ (ms : List ℕ). n ∷ ms)
    (numbers-snoc (n + nodes_begun p) ps own ∙ ap (λ (m : ℕ). numbers (n + nodes_begun p) ps ++ m ∷ []) e)

-- ## More events, more in the store

tells_more : (a b : Store) (n : ℕ) (e : Entry) (own : List Event) → IsMore a b → TellsNode a n e own
    → TellsNode b n e own
tells_more a b n e own more t = record {
  first = t.first;
  parts = t.parts;
  last = t.last;
  made = t.made;
  told = told_more a b e.content t.first.0 more t.told;
  row = parts_more a b e.content (numbers (suc n) t.parts) more t.row;
  start = t.start;
  end = t.end;
}

node_more : (es fs : List Event) (n : ℕ) (own : List Event) → IsNodeAt es n own → IsNodeAt (es ++ fs) n own
node_more es fs n own p = record {
  front = p.front;
  behind = p.behind ++ fs;
  split = ap (λ (ds : List Event). ds ++ fs) p.split ∙ append_assoc p.front (own ++ p.behind) fs
      ∙ ap (λ (ds : List Event). p.front ++ ds) (append_assoc own p.behind fs);
  first = p.first;
  node = p.node;
}

pub entries_more : (es fs : List Event) (a b : Store) (n : ℕ) (xs : List Entry) → IsMore a b → AreEntriesFrom es a n xs
    → AreEntriesFrom (es ++ fs) b n xs
entries_more es fs a b n [] more h = tt
entries_more es fs a b n (x ∷ xs) more ((own, at, tells), h) = (
  (own, node_more es fs n own at, tells_more a b n x own more tells),
  entries_more es fs a b (suc n) xs more h,
)

entries_store : (es : List Event) (a b : Store) (n : ℕ) (xs : List Entry) → IsMore a b → AreEntriesFrom es a n xs
    → AreEntriesFrom es b n xs
entries_store es a b n xs more h =
    subst (λ (ds : List Event). AreEntriesFrom ds b n xs) (append-nil es) (entries_more es [] a b n xs more h)

pub entries_both : (es : List Event) (s : Store) (n m : ℕ) (xs ys : List Entry) → AreEntriesFrom es s n xs
    → m ≡ n + length xs → AreEntriesFrom es s m ys → AreEntriesFrom es s n (xs ++ ys)
entries_both es s n m [] ys h e k = let same : m ≡ n = omega arith in
    subst (λ (i : ℕ). AreEntriesFrom es s i ys) same k
entries_both es s n m (x ∷ xs) ys h e k = (h.0, entries_both es s (suc n) m xs ys h.1 (omega arith) k)

inside_store : (es base : List Event) (a b : Store) (waiting before : List ℕ) (entries outer : List Entry)
    → IsMore a b → Inside es base a waiting before entries outer → Inside es base b waiting before entries outer
inside_store es base a b waiting before entries outer more i = record {
  parts = i.parts;
  inner = i.inner;
  events = i.events;
  nodes = i.nodes;
  waits = i.waits;
  split = i.split;
  first = i.first;
  count = i.count;
  told = entries_store es a b (nodes_begun base) i.inner more i.told;
}

open_store : (a b : Store) (x : Event) (e : Entry) → IsMore a b → IsOpen a x e → IsOpen b x e
open_store a b x e more o = record {
  start = o.start;
  told = told_more a b e.content x.0 more o.told;
  place = o.place;
}

pub holds_store : (doc es : List Event) (a b : Store) (ls : List Level) (waiting : List ℕ) (entries : List Entry)
    → IsMore a b → Holds doc es a ls waiting entries → Holds doc es b ls waiting entries
holds_store doc es a b [] waiting entries more (outer, i, h) =
    (outer, inside_store es doc a b waiting [] entries outer more i, entries_store doc a b 0 outer more h)
holds_store doc es a b (l ∷ ls) waiting entries more (x, around, before, e, outer, i, o, n, w, h) = (
  x,
  around,
  before,
  e,
  outer,
  inside_store es (around ++ x ∷ []) a b waiting before entries (outer ++ e ∷ []) more i,
  open_store a b x e more o,
  n,
  w,
  holds_store doc around a b ls before outer more h,
)

pub holds_along : (doc es : List Event) (s t : Store) (ls : List Level) (vs ws : List ℕ) (xs ys : List Entry) → t ≡ s
    → ws ≡ vs → ys ≡ xs → Holds doc es s ls vs xs → Holds doc es t ls ws ys
holds_along doc es s t ls vs ws xs ys store waiting entries h =
    subst (λ (k : Store). Holds doc es k ls ws ys) (sym store)
    (subst (λ (ns : List ℕ). Holds doc es s ls ns ys) (sym waiting)
    (subst (λ (ds : List Entry). Holds doc es s ls vs ds) (sym entries) h))

-- ## A node more

inside_count : (es base : List Event) (s : Store) (waiting before : List ℕ) (entries outer : List Entry)
    → Inside es base s waiting before entries outer → length entries ≡ nodes_begun es
inside_count es base s waiting before entries outer i =
    ap (λ (xs : List Entry). length xs) i.split ∙ length-append outer i.inner
    ∙ (let a = i.first in let b = i.count in
    let e : length outer + length i.inner ≡ nodes_begun base + nodes_begun (all_of i.parts) = omega (arith, a, b) in e)
    ∙ sym (begun-append base (all_of i.parts)) ∙ ap nodes_begun (sym i.events)

-- The node is the last part: its number is how many nodes have begun, which is the first part's number and how many
-- nodes the parts begin. Its entries stand behind those of the parts.
inside_adds : (es own base : List Event) (s : Store) (waiting before : List ℕ) (entries outer more : List Entry)
    → Inside es base s waiting before entries outer → IsNode own → length more ≡ nodes_begun own
    → AreEntriesFrom (es ++ own) s (nodes_begun es) more
    → Inside (es ++ own) base s (waiting ++ nodes_begun es ∷ []) before (entries ++ more) outer
inside_adds es own base s waiting before entries outer more i node long told =
    let n = nodes_begun base in
    let here : nodes_begun es ≡ n + nodes_begun (all_of i.parts) =
    ap nodes_begun i.events ∙ begun-append base (all_of i.parts) in
    let inner = i.count in
    record {
      parts = i.parts ++ own ∷ [];
      inner = i.inner ++ more;
      events = ap (λ (ds : List Event). ds ++ own) i.events ∙ append_assoc base (all_of i.parts) own
          ∙ ap (λ (ds : List Event). base ++ ds) (sym (all_of-snoc i.parts own));
      nodes = nodes-snoc i.parts own i.nodes node;
      waits = ap (λ (ns : List ℕ). ns ++ nodes_begun es ∷ []) i.waits
          ∙ append_assoc before (numbers n i.parts) (nodes_begun es ∷ [])
          ∙ ap (λ (m : ℕ). before ++ (numbers n i.parts ++ m ∷ [])) here
          ∙ ap (λ (ns : List ℕ). before ++ ns) (sym (numbers-snoc n i.parts own));
      split = ap (λ (xs : List Entry). xs ++ more) i.split ∙ append_assoc outer i.inner more;
      first = i.first;
      count = length-append i.inner more
          ∙ (let e : length i.inner + length more ≡ nodes_begun (all_of i.parts) + nodes_begun own =
          omega (arith, inner, long) in e)
          ∙ sym (begun-append (all_of i.parts) own) ∙ ap nodes_begun (sym (all_of-snoc i.parts own));
      told = entries_both (es ++ own) s n (nodes_begun es) i.inner more
          (entries_more es own s s n i.inner (more_none s) i.told) (omega (arith, here, inner)) told;
    }

pub holds_count : (doc es : List Event) (s : Store) (ls : List Level) (waiting : List ℕ) (entries : List Entry)
    → Holds doc es s ls waiting entries → length entries ≡ nodes_begun es
holds_count doc es s [] waiting entries (outer, i, h) = inside_count es doc s waiting [] entries outer i
holds_count doc es s (l ∷ ls) waiting entries (x, around, before, e, outer, i, o, n, w, h) =
    inside_count es (around ++ x ∷ []) s waiting before entries (outer ++ e ∷ []) i

pub all_told : (doc es : List Event) (s : Store) (waiting : List ℕ) (entries : List Entry)
    → Holds doc es s [] waiting entries → AreEntriesFrom es s 0 entries
all_told doc es s waiting entries (outer, i, h) =
    let first = i.first in
    subst (λ (xs : List Entry). AreEntriesFrom es s 0 xs) (sym i.split)
    (entries_both es s 0 (nodes_begun doc) outer i.inner
    (subst (λ (ds : List Event). AreEntriesFrom ds s 0 outer) (sym i.events)
    (entries_more doc (all_of i.parts) s s 0 outer (more_none s) h))
    (omega (arith, first)) i.told)

adds : (doc es own : List Event) (s : Store) (ls : List Level) (waiting : List ℕ) (entries more : List Entry)
    → Holds doc es s ls waiting entries → IsNode own → length more ≡ nodes_begun own
    → AreEntriesFrom (es ++ own) s (nodes_begun es) more
    → Holds doc (es ++ own) s ls (waiting ++ nodes_begun es ∷ []) (entries ++ more)
adds doc es own s [] waiting entries more (outer, i, h) node long told =
    (outer, inside_adds es own doc s waiting [] entries outer more i node long told, h)
adds doc es own s (l ∷ ls) waiting entries more (x, around, before, e, outer, i, o, n, w, h) node long told = (
  x,
  around,
  before,
  e,
  outer,
  inside_adds es own (around ++ x ∷ []) s waiting before entries (outer ++ e ∷ []) more i node long told,
  o,
  n,
  w,
  h,
)

leaf_parts : (s : Store) (c : Content) (h : Happening) → TellsFirst s c h → IsLeafEvent h → HasParts s c []
leaf_parts s (content.Alias id) h t l = refl
leaf_parts s (content.Scalar style row number) h t l = refl
leaf_parts s _ h (id, tag, e, k) l = absurd (subst IsLeafEvent e l)

pub adds_leaf : (doc es : List Event) (x : Event) (s : Store) (ls : List Level) (waiting : List ℕ)
    (entries : List Entry) (e : Entry) → Holds doc es s ls waiting entries → IsLeafEvent x.0
    → TellsFirst s e.content x.0 → marker_of e.start ≡ x.1.start → marker_of e.end ≡ x.1.end
    → Holds doc (es ++ x ∷ []) s ls (waiting ++ nodes_begun es ∷ []) (entries ++ e ∷ [])
adds_leaf doc es x s ls waiting entries e h l told start end =
    let one = (leaf_event x.0 l).0 in
    let node : IsNode (x ∷ []) = leaf x l in
    adds doc es (x ∷ []) s ls waiting entries (e ∷ []) h node (omega (arith, one)) (
      (
        x ∷ [],
        record { front = es; behind = []; split = refl; first = refl; node = node },
        record {
          first = x;
          parts = [];
          last = x;
          made = inl (l, refl, refl, refl);
          told = told;
          row = leaf_parts s e.content x.0 told l;
          start = start;
          end = end;
        },
      ),
      tt,
    )

-- ## A collection begins, and ends

-- Its entry stands behind all others, at its number. Nothing is inside it yet, so it has no parts.
pub begins : (doc es : List Event) (x : Event) (s : Store) (l : Level) (ls : List Level) (waiting : List ℕ)
    (entries : List Entry) (e : Entry) → l.number ≡ length entries → l.waiting ≡ length waiting → IsOpen s x e
    → Holds doc es s ls waiting entries → Holds doc (es ++ x ∷ []) s (l ∷ ls) waiting (entries ++ e ∷ [])
begins doc es x s l ls waiting entries e number at o h =
    let long = holds_count doc es s ls waiting entries h in
    let more = begun-append es (x ∷ []) in
    let longer = length-append entries (e ∷ []) in
    let one = (start_event x.0 o.start).0 in (
      x,
      es,
      waiting,
      e,
      entries,
      record {
        parts = [];
        inner = [];
        events = sym (append-nil (es ++ x ∷ []));
        nodes = none;
        waits = sym (append-nil waiting);
        split = sym (append-nil (entries ++ e ∷ []));
        first = omega (arith, long, more, longer, one);
        count = refl;
        told = tt;
      },
      o,
      number,
      at,
      h,
    )

-- the innermost collection is whole
pub record Ended (doc es : List Event) (y : Event) (a b : Store) (end : Mark) (row : Row) (l : Level)
    (ls : List Level) (waiting : List ℕ) (entries : List Entry) : Type 0 where
  pub before : List ℕ
  pub own : List ℕ
  pub waits : waiting ≡ before ++ own
  pub at : l.waiting ≡ length before
  pub outer : List Entry
  pub inner : List Entry
  pub entry : Entry
  pub split : entries ≡ outer ++ (entry ∷ inner)
  pub number : l.number ≡ length outer
  pub holds : b.parts ≡ a.parts ++ own → row.first ≡ length a.parts → row.count ≡ length own
      → Holds doc (es ++ y ∷ []) b ls (before ++ l.number ∷ []) (outer ++ (closed row end entry ∷ inner))

-- Its first event, the events of its parts and its last event are those of one node (`all`). This node is added to what
-- is around: its entry, which is closed now, and behind that the entries of its parts, which tell the same of more
-- events. The numbers of its parts are those that waited, from the number behind its own on.
pub ends : (doc es : List Event) (y : Event) (a b : Store) (end : Mark) (row : Row) (l : Level) (ls : List Level)
    (waiting : List ℕ) (entries : List Entry) → IsEnd y.0 → marker_of end ≡ y.1.end → IsMore a b
    → Holds doc es a (l ∷ ls) waiting entries → Ended doc es y a b end row l ls waiting entries
ends doc es y a b end row l ls waiting entries is_end place more (x, around, before, e, outer, i, o, n, w, h) =
    let base = around ++ x ∷ [] in
    let own = numbers (nodes_begun base) i.parts in
    let all : List Event = x ∷ (all_of i.parts ++ y ∷ []) in
    let node : IsNode all = whole x i.parts y o.start i.nodes is_end in
    let done = closed row end e in
    let here = holds_count doc around a ls before outer h in
    let events : es ++ y ∷ [] ≡ around ++ all =
    ap (λ (ds : List Event). ds ++ y ∷ []) i.events ∙ append_assoc base (all_of i.parts) (y ∷ [])
    ∙ append_assoc around (x ∷ []) (all_of i.parts ++ y ∷ []) in
    let one = (start_event x.0 o.start).0 in
    let zero_more = (end_event y.0 is_end).0 in
    let longer = begun-append around (x ∷ []) in
    let next : nodes_begun base ≡ suc (nodes_begun around) = omega (arith, longer, one) in
    let count = i.count in
    let ended = begun-append (all_of i.parts) (y ∷ []) in
    let long : length (done ∷ i.inner) ≡ nodes_begun all = omega (arith, count, ended, one, zero_more) in
    let number : l.number ≡ nodes_begun around = n ∙ here in record {
      before = before;
      own = own;
      waits = i.waits;
      at = w;
      outer = outer;
      inner = i.inner;
      entry = e;
      split = i.split ∙ append_assoc outer (e ∷ []) i.inner;
      number = n;
      holds = λ parts first row_count.
          let numbers_next : own ≡ numbers (suc (nodes_begun around)) i.parts =
          ap (λ (m : ℕ). numbers m i.parts) next in
          let stands : StandIn (numbers (suc (nodes_begun around)) i.parts) row b.parts =
          subst (λ (ns : List ℕ). StandIn ns row b.parts) numbers_next
          (subst (StandIn own row) (sym parts) (stands_last own row a.parts first row_count)) in
          let told = told_closed b e.content row x.0 (told_more a b e.content x.0 more o.told) in
          let first_is : IsEntryAt (around ++ all) b (nodes_begun around) done = (
            all,
            record {
              front = around;
              behind = [];
              split = ap (λ (ds : List Event). around ++ ds) (sym (append-nil all));
              first = refl;
              node = node;
            },
            record {
              first = x;
              parts = i.parts;
              last = y;
              made = inr (o.start, refl, i.nodes, is_end);
              told = told;
              row = parts_closed b e.content row x.0 (numbers (suc (nodes_begun around)) i.parts)
                  (told_more a b e.content x.0 more o.told) o.start stands;
              start = o.place;
              end = place;
            },
          ) in
          let others : AreEntriesFrom (around ++ all) b (suc (nodes_begun around)) i.inner =
          subst (λ (m : ℕ). AreEntriesFrom (around ++ all) b m i.inner) next
          (subst (λ (ds : List Event). AreEntriesFrom ds b (nodes_begun base) i.inner) events
          (entries_more es (y ∷ []) a b (nodes_begun base) i.inner more i.told)) in
          subst (λ (m : ℕ). Holds doc (es ++ y ∷ []) b ls (before ++ m ∷ []) (outer ++ (done ∷ i.inner)))
          (sym number)
          (subst (λ (ds : List Event).
          Holds doc ds b ls (before ++ nodes_begun around ∷ []) (outer ++ (done ∷ i.inner))) (sym events)
          (adds doc around all b ls before outer (done ∷ i.inner)
          (holds_store doc around a b ls before outer more h) node long (first_is, others)));
    }
