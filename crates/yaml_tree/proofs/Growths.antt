-- A table grows by one event more.
use Rattle.std.proofs.Common.{arith, ◌≡◌, ◌∙◌, refl, sym, ap, subst, ℕ, ◌+◌, List, [], ◌∷◌, ◌++◌, Some, min, length, take, drop, append_assoc, append-nil}
use Rattle.std.proofs.lemmas.List.{append_cancel_left, length-append}
use Rattle.std.proofs.Math.Seq.{drop-append_seam, take-append_seam}
use Rattle.std.specs.List.{slice_get, slice_set}
use Rattle.saphyr_scalar.specs.declared.scalar.position.Span.{Span}
use Rattle.saphyr_scalar.specs.declared.scalar.style.ScalarStyle.{ScalarStyle}
use Rattle.saphyr_parser.specs.Events.{Happening, Alias, Scalar, Nothing, StreamStart, StreamEnd, DocumentStart, DocumentEnd}
use Rattle.saphyr_parser.specs.Nesting.{happenings}
use Rattle.yaml_tree.specs.declared.expanding.Counter.{Counter}
use Rattle.yaml_tree.specs.declared.growing.Growth.{Growth}
use Rattle.yaml_tree.specs.declared.growing.Level.{Level}
use Rattle.yaml_tree.specs.declared.table.Content.{Content}
use Rattle.yaml_tree.specs.declared.table.Content.TheVariants as content
use Rattle.yaml_tree.specs.declared.table.Entry.{Entry}
use Rattle.yaml_tree.specs.declared.table.NodeTable.{NodeTable}
use Rattle.yaml_tree.specs.declared.table.Root.{Root}
use Rattle.yaml_tree.specs.declared.table.Row.{Row}
use Rattle.yaml_tree.specs.Expanding.{most}
use Rattle.yaml_tree.specs.CounterSeen.{Count, HoldsCount, begun as counts_begun, counted, counted_all, left, with_nodes}
use Rattle.yaml_tree.specs.SizesSeen.{size_in}
use Rattle.yaml_tree.specs.Tables.{AreEntriesFrom, AreNodes, AreRootsFrom, Event, IsBeside, IsEnd, IsLeafEvent, IsNode, IsEmptyTable, IsRootAt, IsStart, IsTable, MaybeTag, StoresProperties, TellsFirst, all_of, id_of_anchor, beginning, nodes_begun, documents_ended_by, none, numbers, one_more, store_of}
use Rattle.yaml_tree.specs.GrowerSeen.{AddsEvent, AddsLeaf, CountsExpanded, EndsDocument, EndsLevel, HasGrown, Holds, HasNoneOpen, IsMore, IsStack, OpensLevel, Stores, StoresText, closed, no_count}
use Rattle.yaml_tree.proofs.Expands.{expands}
use Rattle.yaml_tree.proofs.LastItems.{get_seam, none_is_last, nothing_before, same_last, set_seam}
use Rattle.yaml_tree.proofs.Stores.{more_none, stores_both, text_stores, texts_more}
use Rattle.yaml_tree.proofs.Grown.{adds_leaf, all_told, begins, ends, entries_more, holds_along, holds_count, holds_store}
use Rattle.yaml_tree.proofs.Places.{begun-append, no_nodes_yet}
use Rattle.yaml_tree.proofs.Roots.{end_event, ended-append, leaf_event, roots-snoc, roots_more, start_event}
use Rattle.yaml_tree.proofs.Counts.{counted-append}
use Rattle.yaml_tree.proofs.Taking.{happenings-append}

-- ## One event more

-- An event that ends no document is one more of those that came since the last end. The step to `mid` adds what it
-- tells, and after it only the count changes.
grows : (es : List Event) (x : Event) (old mid new : Growth) (g : HasGrown es old) (inside : List Level)
    → new ≡ record mid { counter = new.counter } → documents_ended_by x.0 ≡ 0 → mid.table.roots ≡ old.table.roots
    → IsStack mid.levels.items inside
    → Holds g.doc (es ++ x ∷ []) (store_of mid.table) inside mid.waiting.items mid.table.entries.items
    → HoldsCount new.counter (counted x.0 (counted_all (happenings g.since) no_count)) → HasGrown (es ++ x ∷ []) new
grows es x old mid new g inside only not_end same stack holds counts =
    let roots : mid.table.roots.items ≡ old.table.roots.items = ap (λ rs. rs.items) same in
    let many : length mid.table.roots.items ≡ length old.table.roots.items = ap (λ (rs : List Root). length rs) roots in
    let was = g.documents in
    let longer = ended-append es (x ∷ []) in
    let grown : HasGrown (es ++ x ∷ []) (record mid { counter = new.counter }) = record {
      doc = g.doc;
      since = g.since ++ x ∷ [];
      split = ap (λ (ds : List Event). ds ++ x ∷ []) g.split ∙ append_assoc g.doc g.since (x ∷ []);
      inside = inside;
      stack = stack;
      holds = holds;
      counts = subst (HoldsCount new.counter)
          (sym (ap (λ (hs : List Happening). counted_all hs no_count) (happenings-append g.since (x ∷ []))
          ∙ counted-append (happenings g.since) (x.0 ∷ []) no_count)) counts;
      roots = subst (AreRootsFrom (es ++ x ∷ []) 0) (sym roots)
          (roots_more es (x ∷ []) 0 old.table.roots.items g.roots);
      documents = omega (arith, many, was, longer, not_end);
      documents_before = many ∙ g.documents_before;
    } in
    subst (HasGrown (es ++ x ∷ [])) (sym only) grown

-- A leaf's entry comes last, and its number waits last: so much more is held of the innermost collection.
pub leaf_grows : (old mid new : Growth) (span : Span) (what : Content) (id nodes : ℕ) → AddsLeaf what span old mid
    → new ≡ record mid { counter = new.counter }
    → ((c : Count) (n : ℕ) → nodes ≡ min most n → HoldsCount mid.counter c → HoldsCount new.counter (with_nodes id n c))
    → (h : Happening) → IsLeafEvent h → TellsFirst (store_of old.table) what h → CountsExpanded h id nodes old.counter
    → AddsEvent (h, span) old new
leaf_grows old mid new span what id nodes a only adds h leaf told counts es g =
    let s = store_of old.table in
    let count = holds_count g.doc es s g.inside old.waiting.items old.table.entries.items g.holds in
    let so_far = counted_all (happenings g.since) no_count in
    let own = counts so_far g.counts in
    grows es (h, span) old mid new g g.inside only (leaf_event h leaf).1 (ap (λ (t : NodeTable). t.roots) a.table)
    (subst (λ ls. IsStack ls g.inside) (sym (ap (λ v. v.items) a.levels)) g.stack)
    (holds_along g.doc (es ++ (h, span) ∷ []) s (store_of mid.table) g.inside _ _ _ _ (ap store_of a.table)
    (a.waiting ∙ ap (λ (n : ℕ). old.waiting.items ++ n ∷ []) count) a.entries
    (adds_leaf g.doc es (h, span) s g.inside old.waiting.items old.table.entries.items a.entry g.holds leaf
    (subst (λ (c : Content). TellsFirst s c h) (sym a.content) told) a.start a.end))
    (subst (HoldsCount new.counter) own.2
    (adds so_far own.0 own.1 (subst (λ (k : Counter). HoldsCount k so_far) (sym a.counter) g.counts)))

-- A collection's entry comes last. It is the innermost one now, and none of its parts has come.
pub start_grows : (old mid new : Growth) (span : Span) (what : Content) (id : ℕ) → OpensLevel what span old mid
    → new ≡ record mid { counter = new.counter }
    → ((c : Count) → HoldsCount mid.counter c → HoldsCount new.counter (counts_begun id c)) → (h : Happening)
    → IsStart h → id_of_anchor h ≡ id → TellsFirst (store_of old.table) what h → AddsEvent (h, span) old new
start_grows old mid new span what id a only adds h start anchor told es g =
    let s = store_of old.table in
    let inside = a.level ∷ g.inside in
    let so_far = counted_all (happenings g.since) no_count in
    grows es (h, span) old mid new g inside only (start_event h start).1 (ap (λ (t : NodeTable). t.roots) a.table)
    (old.levels.items, a.levels, g.stack)
    (holds_along g.doc (es ++ (h, span) ∷ []) s (store_of mid.table) inside _ _ _ _ (ap store_of a.table)
    (ap (λ w. w.items) a.waiting) a.entries
    (begins g.doc es (h, span) s a.level g.inside old.waiting.items old.table.entries.items a.entry a.number a.before
    (record {
      start = start;
      told = subst (λ (c : Content). TellsFirst s c h) (sym a.content) told;
      place = a.start;
    }) g.holds))
    (subst (HoldsCount new.counter)
    (ap (λ (i : ℕ). counts_begun i so_far) (sym anchor) ∙ sym ((start_event h start).3 so_far))
    (adds so_far (subst (λ (k : Counter). HoldsCount k so_far) (sym a.counter) g.counts)))

-- ## A collection ends

-- the innermost level is the last
top : (kept front : List Level) (l : Level) (inside : List Level) → kept ≡ front ++ l ∷ [] → IsStack kept inside
    → (others : List Level) × (inside ≡ l ∷ others) × IsStack front others
top kept front l [] e s = absurd (none_is_last front l (sym e ∙ s))
top kept front l (k ∷ ks) e (rest, is, s) =
    let both = same_last front rest l k (sym e ∙ is) in
    (ks, ap (λ (m : Level). m ∷ ks) (sym both.1), subst (λ (r : List Level). IsStack r ks) (sym both.0) s)

-- The innermost collection is the one that the code ends, since both stacks have the same levels. Its parts are the
-- numbers that wait behind those before it, and its entry is the one at its number: `ends` says so of what is held, and
-- each equation below joins that to what the code did.
pub end_grows : (old mid new : Growth) (span : Span) → EndsLevel span old mid
    → new ≡ record mid { counter = new.counter }
    → ((c : Count) → HoldsCount mid.counter c → HoldsCount new.counter (left c)) → (h : Happening) → IsEnd h
    → AddsEvent (h, span) old new
end_grows old mid new span a only leaves h is_end es g =
    let s = store_of old.table in
    let t = store_of mid.table in
    let l = a.level in
    let above = top old.levels.items mid.levels.items l g.inside a.levels g.stack in
    let more : IsMore s t = record {
      more_parts = drop l.waiting old.waiting.items;
      more_texts = [];
      more_properties = [];
      parts = a.parts;
      texts = ap (λ v. v.items) a.texts ∙ sym (append-nil old.table.texts.items);
      properties = ap (λ v. v.items) a.properties ∙ sym (append-nil old.table.properties.items);
    } in
    let e = ends g.doc es (h, span) s t a.end a.row l above.0 old.waiting.items old.table.entries.items is_end a.place
    more (subst (λ (ls : List Level). Holds g.doc es s ls old.waiting.items old.table.entries.items) above.1 g.holds) in
    let own : drop l.waiting old.waiting.items ≡ e.own =
    ap (λ (n : ℕ). drop n old.waiting.items) e.at ∙ ap (λ (ns : List ℕ). drop (length e.before) ns) e.waits
    ∙ drop-append_seam e.before e.own in
    let before : take l.waiting old.waiting.items ≡ e.before =
    ap (λ (n : ℕ). take n old.waiting.items) e.at ∙ ap (λ (ns : List ℕ). take (length e.before) ns) e.waits
    ∙ take-append_seam e.before e.own in
    let found : Some e.entry ≡ Some a.entry =
    sym (get_seam e.outer e.entry e.inner) ∙ ap (λ (n : ℕ). slice_get (e.outer ++ (e.entry ∷ e.inner)) n) (sym e.number)
    ∙ ap (λ (xs : List Entry). slice_get xs l.number) (sym e.split) ∙ a.there in
    let same : a.entry ≡ e.entry = cc in
    let entries : mid.table.entries.items ≡ e.outer ++ (closed a.row a.end e.entry ∷ e.inner) =
    a.entries
    ∙ ap (λ (k : Entry). slice_set old.table.entries.items l.number (closed a.row a.end k)) same
    ∙ ap (λ (xs : List Entry). slice_set xs l.number (closed a.row a.end e.entry)) e.split
    ∙ ap (λ (n : ℕ). slice_set (e.outer ++ (e.entry ∷ e.inner)) n (closed a.row a.end e.entry)) e.number
    ∙ set_seam e.outer e.entry (closed a.row a.end e.entry) e.inner in
    let so_far = counted_all (happenings g.since) no_count in
    grows es (h, span) old mid new g above.0 only (end_event h is_end).1 a.roots above.2
    (holds_along g.doc (es ++ (h, span) ∷ []) t t above.0 _ _ _ _ refl
    (a.waiting ∙ ap (λ (ns : List ℕ). ns ++ l.number ∷ []) before) entries
    (e.holds (a.parts ∙ ap (λ (ns : List ℕ). old.table.parts.items ++ ns) own) a.first
    (a.count ∙ ap (λ (ns : List ℕ). length ns) own)))
    (subst (HoldsCount new.counter) (sym ((end_event h is_end).2 so_far))
    (leaves so_far (subst (λ (k : Counter). HoldsCount k so_far) (sym a.counter) g.counts)))

-- ## Between documents

no_inside : (kept inside : List Level) → kept ≡ [] → IsStack kept inside → inside ≡ []
no_inside kept [] e s = refl
no_inside kept (l ∷ ls) e (front, is, s) = absurd (none_is_last front l (sym is ∙ e))

no_parts : (n : ℕ) (parts : List (List Event)) → [] ≡ numbers n parts → parts ≡ []
no_parts n [] e = refl
no_parts n (p ∷ ps) e = absurd (cc)

one_part : (n m : ℕ) (parts : List (List Event)) → n ∷ [] ≡ numbers m parts
    → (own : List Event) × (parts ≡ own ∷ []) × (n ≡ m)
one_part n m [] e = absurd (cc)
one_part n m (own ∷ []) e = (own, refl, cc)
one_part n m (own ∷ (p ∷ ps)) e = absurd (cc)

none_held : (es : List Event) (g : Growth) → g.levels.items ≡ [] → (h : HasGrown es g)
    → Holds h.doc es (store_of g.table) [] g.waiting.items g.table.entries.items
none_held es g no_levels h =
    subst (λ (ls : List Level). Holds h.doc es (store_of g.table) ls g.waiting.items g.table.entries.items)
    (no_inside g.levels.items h.inside no_levels h.stack) h.holds

-- where no collection is open the table is whole
pub grown_table : (es : List Event) (g : Growth) → g.levels.items ≡ [] → HasGrown es g → IsTable es g.table
grown_table es g no_levels h =
    let held = none_held es g no_levels h in record {
      entries = all_told h.doc es (store_of g.table) g.waiting.items g.table.entries.items held;
      nodes = holds_count h.doc es (store_of g.table) [] g.waiting.items g.table.entries.items held;
      roots = h.roots;
      documents = h.documents;
    }

-- and where nothing waits the next document begins behind these events
begins_anew : (es : List Event) (g : Growth) → HasNoneOpen g → IsTable es g.table → HoldsCount g.counter no_count
    → HasGrown es g
begins_anew es g between t counts =
    let entries = g.table.entries.items in
    let held : Holds es es (store_of g.table) [] [] entries = (
      entries,
      record {
        parts = [];
        inner = [];
        events = sym (append-nil es);
        nodes = none;
        waits = refl;
        split = sym (append-nil entries);
        first = t.nodes;
        count = refl;
        told = tt;
      },
      t.entries,
    ) in record {
      doc = es;
      since = [];
      split = sym (append-nil es);
      inside = [];
      stack = between.levels;
      holds = subst (λ (ns : List ℕ). Holds es es (store_of g.table) [] ns entries) (sym between.waiting) held;
      counts = counts;
      roots = t.roots;
      documents = t.documents;
      documents_before = t.documents;
    }

-- an event that begins no node leaves the entries as they are
none_begin : (es : List Event) (x : Event) (t : NodeTable) → beginning x.0 ≡ 0 → IsTable es t
    → AreEntriesFrom (es ++ x ∷ []) (store_of t) 0 t.entries.items
    × (length t.entries.items ≡ nodes_begun (es ++ x ∷ []))
none_begin es x t begins_none is =
    let s = store_of t in
    let longer = begun-append es (x ∷ []) in
    let nodes = is.nodes in
    (entries_more es (x ∷ []) s s 0 t.entries.items (more_none s) is.entries, omega (arith, nodes, longer, begins_none))

pub stay_grows : (es : List Event) (x : Event) (g : Growth) → HasNoneOpen g → beginning x.0 ≡ 0
    → documents_ended_by x.0 ≡ 0 → HasGrown es g → HasGrown (es ++ x ∷ []) g
stay_grows es x g between none_begins none_ends h =
    let held = none_held es g between.levels h in
    let i = held.1 in
    let parts = no_parts (nodes_begun h.doc) i.parts (sym between.waiting ∙ i.waits) in
    let since : h.since ≡ [] = append_cancel_left h.doc h.since (all_of i.parts) (sym h.split ∙ i.events)
    ∙ ap all_of parts in
    let told = none_begin es x g.table none_begins (grown_table es g between.levels h) in
    let more = ended-append es (x ∷ []) in
    let was = h.documents in
    begins_anew (es ++ x ∷ []) g between
    (record {
      entries = told.0;
      nodes = told.1;
      roots = roots_more es (x ∷ []) 0 g.table.roots.items h.roots;
      documents = omega (arith, was, more, none_ends);
    })
    (subst (λ (ds : List Event). HoldsCount g.counter (counted_all (happenings ds) no_count)) since h.counts)

only_node : (own : List Event) → AreNodes (own ∷ []) → IsNode own
only_node own (one_more _ _ n m) = n

-- One number waits, so the events since the last document's end are those of one node, the root. The table is that of
-- all events with one root more, and the next document begins behind them.
pub document_grows : (old new : Growth) → EndsDocument old new → (span : Span)
    → AddsEvent (DocumentEnd, span) old new
document_grows old new a span es h =
    let x : Event = (DocumentEnd, span) in
    let all = es ++ x ∷ [] in
    let entries = old.table.entries.items in
    let i = (none_held es old a.before h).1 in
    let part = one_part a.root.number (nodes_begun h.doc) i.parts (sym a.waiting ∙ i.waits) in
    let own = part.0 in
    let events : es ≡ h.doc ++ own =
    i.events ∙ ap (λ (ps : List (List Event)). h.doc ++ all_of ps) part.1
    ∙ ap (λ (ds : List Event). h.doc ++ ds) (append-nil own) in
    let since : h.since ≡ own = append_cancel_left h.doc h.since own (sym h.split ∙ events) in
    let told = none_begin es x old.table refl (grown_table es old a.before h) in
    let root : IsRootAt all (0 + length old.table.roots.items) a.root = record {
      front = h.doc;
      own = own;
      last = x;
      behind = [];
      split = ap (λ (ds : List Event). ds ++ x ∷ []) events ∙ append_assoc h.doc own (x ∷ []);
      documents = (let before = h.documents_before in omega (arith, before));
      number = sym part.2;
      node = only_node own (subst AreNodes part.1 i.nodes);
      ends = refl;
      expanded = expands own a.root.expanded (a.expanded ∙ subst (λ (ds : List Event).
          old.counter.nodes ≡ min most (counted_all (happenings ds) no_count).nodes) since h.counts.nodes);
    } in
    let was = h.documents in
    let more = ended-append es (x ∷ []) in
    let many = ap (λ (rs : List Root). length rs) a.roots ∙ length-append old.table.roots.items (a.root ∷ []) in
    let table : IsTable all (record old.table { roots = new.table.roots }) = record {
      entries = told.0;
      nodes = told.1;
      roots = subst (AreRootsFrom all 0) (sym a.roots) (roots-snoc all 0 old.table.roots.items a.root
          (roots_more es (x ∷ []) 0 old.table.roots.items h.roots) root);
      documents = omega (arith, was, more, many);
    } in
    begins_anew all new a.between (subst (IsTable all) (sym a.table) table) a.counter

pub ends_between : (old new : Growth) → EndsDocument old new → HasNoneOpen new
ends_between old new a = a.between

-- ## What is stored

-- more is stored, and nothing else changes
pub stores_grown : (es : List Event) (old new : Growth) → Stores old.table new.table
    → new ≡ record old { table = new.table } → HasGrown es old → HasGrown es new
stores_grown es old new m only h =
    let roots : new.table.roots.items ≡ old.table.roots.items = ap (λ v. v.items) m.roots in
    let many = ap (λ (rs : List Root). length rs) roots in
    let s = store_of old.table in
    let t = store_of new.table in
    let grown : HasGrown es (record old { table = new.table }) = record {
      doc = h.doc;
      since = h.since;
      split = h.split;
      inside = h.inside;
      stack = h.stack;
      holds = holds_along h.doc es t t h.inside old.waiting.items old.waiting.items old.table.entries.items
          new.table.entries.items refl refl (ap (λ v. v.items) m.entries)
          (holds_store h.doc es s t h.inside old.waiting.items old.table.entries.items m.more h.holds);
      counts = h.counts;
      roots = subst (AreRootsFrom es 0) (sym roots) h.roots;
      documents = many ∙ h.documents;
      documents_before = many ∙ h.documents_before;
    } in
    subst (HasGrown es) (sym only) grown

-- ## What calls answer

pub alias_grows : (old new : Growth) (span : Span) (id narrowed nodes : ℕ) → narrowed ≡ id
    → nodes ≡ size_in old.counter.sizes id
    → ((h : Happening) → IsLeafEvent h → TellsFirst (store_of old.table) (content.Alias narrowed) h
    → CountsExpanded h 0 nodes old.counter → AddsEvent (h, span) old new)
    → AddsEvent (Alias id, span) old new
alias_grows old new span id narrowed nodes e size adds =
    adds (Alias id) tt (ap Alias (sym e)) (λ c k. (c.sizes id, size ∙ k.sizes id, refl))

-- a scalar's text and properties are stored, and then its entry comes
pub scalar_grows : (old mid new : Growth) (kept : NodeTable) (span : Span) (text : List ℕ) (style : ScalarStyle)
    (id : ℕ) (tag : MaybeTag) (row : Row) (number : ℕ) → StoresText text row old.table kept → Stores kept mid.table
    → StoresProperties (store_of mid.table) number id tag → mid ≡ record old { table = mid.table }
    → ((h : Happening) → IsLeafEvent h → TellsFirst (store_of mid.table) (content.Scalar style row number) h
    → CountsExpanded h id 1 mid.counter → AddsEvent (h, span) mid new)
    → AddsEvent (Scalar text style id tag, span) old new
scalar_grows old mid new kept span text style id tag row number stored more properties only adds =
    let first = text_stores text row old.table kept stored in
    let stands = texts_more (store_of kept) (store_of mid.table) text row more.more first.1 in
    λ es g. adds (Scalar text style id tag) tt (text, id, tag, refl, stands, properties) (λ c k. (1, refl, refl)) es
    (stores_grown es old mid (stores_both old.table kept mid.table first.0 more) only g)

-- a collection begins behind what was stored for it
pub collection_grows : (old mid new : Growth) (span : Span) (what : Content) (h : Happening)
    → Stores old.table mid.table → mid ≡ record old { table = mid.table } → IsStart h
    → TellsFirst (store_of mid.table) what h
    → ((g : Happening) → IsStart g → id_of_anchor g ≡ id_of_anchor h → TellsFirst (store_of mid.table) what g
    → AddsEvent (g, span) mid new)
    → AddsEvent (h, span) old new
collection_grows old mid new span what h more only start told adds =
    λ es g. adds h start refl told es (stores_grown es old mid more only g)

beside : (h : Happening) → IsBeside h → (beginning h ≡ 0) × (documents_ended_by h ≡ 0)
beside Nothing b = (refl, refl)
beside StreamStart b = (refl, refl)
beside StreamEnd b = (refl, refl)
beside (DocumentStart explicit) b = (refl, refl)
beside _ b = absurd b

pub pass_grows : (g : Growth) → HasNoneOpen g → (h : Happening) (span : Span) → IsBeside h → AddsEvent (h, span) g g
pass_grows g between h span b es k = stay_grows es (h, span) g between (beside h b).0 (beside h b).1 k

pub grows_none : (g : Growth) → HasNoneOpen g → IsEmptyTable g.table → HoldsCount g.counter no_count → HasGrown [] g
grows_none g between empty counter = begins_anew [] g between
    (record {
      entries = subst (AreEntriesFrom [] (store_of g.table) 0) (sym empty.entries) tt;
      nodes = ap (λ (xs : List Entry). length xs) empty.entries;
      roots = subst (AreRootsFrom [] 0) (sym empty.roots) tt;
      documents = ap (λ (rs : List Root). length rs) empty.roots;
    }) counter

-- ## Before the first event

first_between : (g : Growth) (doc : List Event) (inside : List Level) → IsStack g.levels.items inside
    → Holds doc [] (store_of g.table) inside g.waiting.items g.table.entries.items → HasNoneOpen g
first_between g doc [] stack (outer, i, h) =
    let parts = no_nodes_yet doc i.parts i.nodes i.events in
    record { levels = stack; waiting = i.waits ∙ ap (numbers (nodes_begun doc)) parts }
first_between g doc (l ∷ ls) stack (x, around, before, e, outer, i, o, n, w, h) =
    absurd (nothing_before around (all_of i.parts) x (i.events ∙ append_assoc around (x ∷ []) (all_of i.parts)))

pub between_first : (g : Growth) → HasGrown [] g → HasNoneOpen g
between_first g h = first_between g h.doc h.inside h.stack h.holds
