-- Of a text that comes in pieces the events are passed, one behind the other, and a document's tree takes them.
use Rattle.std.proofs.Common.{true≢false, ◌≡◌, ◌∙◌, ◌<◌, ℕ, Bool, true, false, List, [], ◌∷◌, ◌++◌, Option, None, Some, Result, Ok, Err, inl, refl, sym, ap, subst, append_assoc, append-nil, length-append, arith}
use Rattle.std.proofs.lemmas.List.{map-append}
use Rattle.std.specs.Prelude.{string_bytes}
use Rattle.std.specs.declared.boxed.Box.{Box}
use Rattle.std.specs.Global.{Global}
use Rattle.saphyr_scalar.specs.declared.scalar.position.Marker.{Marker}
use Rattle.saphyr_scalar.specs.declared.scalar.position.Span.{Span}
use Rattle.saphyr_machine.specs.declared.progress.Progress.{Progress}
use Rattle.saphyr_machine.specs.declared.progress.Progress.TheVariants as progress
use Rattle.saphyr_parser.specs.Types.Event.{Event as Given}
use Rattle.saphyr_parser.specs.Types.Fault.{Fault}
use Rattle.saphyr_parser.specs.Types.Fault.TheVariants as fault
use Rattle.saphyr_parser.specs.Answer.{Answer}
use Rattle.saphyr_parser.specs.Calls.{Advances, GivesNext, item_at}
use Rattle.saphyr_parser.specs.Cursor.{EventCursor, count, event_of, to_come}
use Rattle.saphyr_parser.specs.Nesting.{happenings}
use Rattle.yaml_tree.specs.declared.fault.TreeFault.{TreeFault}
use Rattle.yaml_tree.specs.declared.fault.TreeFault.TheVariants as tree
use Rattle.yaml_tree.specs.declared.table.NodeTable.{NodeTable}
use Rattle.yaml_tree.specs.declared.table_loading.Grower.{Grower}
use Rattle.yaml_tree.specs.declared.tally.Limits.{Limits}
use Rattle.yaml_tree.specs.DocumentLoading.{IsAroundDocuments}
use Rattle.yaml_tree.specs.GrowerSeen.{HasNoneOpen}
use Rattle.yaml_tree.specs.Loading.{EndNoDocument, Forbids}
use Rattle.yaml_tree.specs.TableSeen.{HasGrownWithin}
use Rattle.yaml_tree.specs.Tables.{Event, IsEmptyTable, IsTable}
use Rattle.yaml_tree.proofs.DocumentEnds.{none_more}
use Rattle.yaml_tree.proofs.Leaving.{Splits, over_both}
use Rattle.saphyr_parser_c.specs.declared.coming.Coming.{Coming}
use Rattle.saphyr_parser_c.specs.declared.growing.Stop.{Stop}
use Rattle.saphyr_parser_c.specs.declared.growing.Stop.TheVariants as stop
use Rattle.saphyr_parser_c.specs.declared.inner.Inner.{Inner}
use Rattle.saphyr_parser_c.specs.declared.shown.CEvent.{CEvent}
use Rattle.saphyr_parser_c.specs.declared.source.Source.{Source}
use Rattle.saphyr_parser_c.specs.declared.source.Source.TheVariants as source
use Rattle.saphyr_parser_c.specs.declared.status.Status.{Status}
use Rattle.saphyr_parser_c.specs.declared.status.Status.TheVariants as status
use Rattle.saphyr_parser_c.specs.Coming.{KeepsRest, at_bytes, end_of_last}
use Rattle.saphyr_parser_c.specs.Growing.{AreBetween, BeginBetween, Begins, CannotTake, HasBegun, IsHandedOut, IsInPieces, IsShownFirst, Item, KeepsText, LoadsRestOf, LoadsComing, LoadsFromPieces, LoadsRest, LoadsSo, MeetsFault, PassesThese, PassesAll, PassesOne, PassesToFault, Spot, ShowsBetween, StaysAbout, TakesUpToEnd, TakesOne, WaitsSo, WantsNoMore, WritesNext, end_behind, last_spot_of, left_in, spot_in, spot_of}
use Rattle.saphyr_parser_c.specs.Inner.{handed}
use Rattle.saphyr_parser_c.specs.Shown.{WritesFault}
use Rattle.saphyr_parser_c.specs.Status.{IsStatusOfRefusal}
use Rattle.saphyr_parser_c.specs.Trees.{KeepsButFault, WritesUnloaded}

-- ## Events that are passed

pub stays_put : (p : Spot) → PassesThese [] p p
stays_put p later at last here = (at, refl, here)

end_both : (xs ys : List Event) (last : Marker) → end_behind (xs ++ ys) last ≡ end_behind ys (end_behind xs last)
end_both [] ys last = refl
end_both (x ∷ xs) ys last = end_both xs ys x.1.end

ends_both : (p : Spot) (xs ys : List Event) (later : List ℕ) (at : EventCursor) (last : Marker)
    → p later at (end_behind ys (end_behind xs last)) → p later at (end_behind (xs ++ ys) last)
ends_both p xs ys later at last here = subst (λ (m : Marker). p later at m) (sym (end_both xs ys last)) here

pub passes_both : (xs ys : List Event) (a b c : Spot) → PassesThese xs a b → PassesThese ys b c → PassesThese (xs ++ ys) a c
passes_both xs ys a b c first then later at last here =
    let f = first later at last here in
    let g = then later f.0 (end_behind xs last) f.2 in
    (g.0, over_both xs ys at f.0 g.0 f.1 g.1, ends_both c xs ys later g.0 last g.2)

pub passes_on : (xs : List Event) (a b c : Spot) → PassesThese xs a b → PassesThese [] b c → PassesThese xs a c
passes_on xs a b c first then =
    subst (λ (es : List Event). PassesThese es a c) (append-nil xs) (passes_both xs [] a b c first then)

pub all_both : (xs ys : List Event) (a b c : Spot) → PassesThese xs a b → PassesAll ys b c → PassesAll (xs ++ ys) a c
all_both xs ys a b c first then later at last here =
    let f = first later at last here in
    let g = then later f.0 (end_behind xs last) f.2 in
    (g.0, over_both xs ys at f.0 g.0 f.1 g.1, g.2, ends_both c xs ys later g.0 last g.3)

pub all_behind : (xs : List Event) (a b c : Spot) → PassesThese xs a b → PassesAll [] b c → PassesAll xs a c
all_behind xs a b c first then =
    subst (λ (es : List Event). PassesAll es a c) (append-nil xs) (all_both xs [] a b c first then)

pub fault_both : (f : Fault) (xs ys : List Event) (a b c : Spot) → PassesThese xs a b → PassesToFault f ys b c
    → PassesToFault f (xs ++ ys) a c
fault_both e xs ys a b c first then later at last here =
    let f = first later at last here in
    let g = then later f.0 (end_behind xs last) f.2 in
    (g.0, g.1, over_both xs ys at f.0 g.0 f.1 g.2, g.3, ends_both c xs ys later g.1 last g.4)

pub fault_behind : (f : Fault) (xs : List Event) (a b c : Spot) → PassesThese xs a b → PassesToFault f [] b c
    → PassesToFault f xs a c
fault_behind f xs a b c first then =
    subst (λ (es : List Event). PassesToFault f es a c) (append-nil xs) (fault_both f xs [] a b c first then)

-- ## Steps of the text

pub text_stays : (s : Source) → KeepsText s s
text_stays (source.Whole c) = tt
text_stays (source.Pieces coming) = (coming, refl, (refl, λ enough. enough))

kept_both : (a b c : Coming) → KeepsRest a b → KeepsRest b c → KeepsRest a c
kept_both a b c (first, none) (then, still) =
    let same = ap (λ (x : Coming). record x { parser = c.parser; last_end = c.last_end }) first in
    (then ∙ same, λ enough. still (none enough))

pub text_both : (a b c : Source) → KeepsText a b → KeepsText b c → KeepsText a c
text_both (source.Whole x) b c first then = tt
text_both (source.Pieces x) b c (y, is, kept) then =
    let next = subst (λ (s : Source). KeepsText s c) is then in
    (next.0, next.1, kept_both x.value y.value next.0.value kept next.2)

pub about_both : (a b c : Inner) → StaysAbout a b → StaysAbout b c → StaysAbout a c
about_both a b c first then = record {
  text = text_both a.source b.source c.source first.text then.text;
  trees = (then.trees.0 ∙ first.trees.0, then.trees.1 ∙ first.trees.1);
}

pub about_same : (m : Inner) → StaysAbout m m
about_same m = record { text = text_stays m.source; trees = (refl, refl) }

-- what is shown is what comes next, and behind it nothing is
pub behind_shown : (s : Source) (x y : Item) (later : List ℕ) (at : EventCursor) (last : Marker)
    → spot_in s true x later at last
    → (behind : EventCursor) × GivesNext x at behind × spot_in s false y later behind (end_of_last x last)
behind_shown (source.Whole c) x y later at last here = absurd here
behind_shown (source.Pieces coming) x y later at last (here, (ends, enough)) =
    (at_bytes coming.value later, here, (refl, ends))

-- where nothing is shown it's the same place, whatever was handed out
pub same_unshown : (s : Source) (x y : Item) (later : List ℕ) (at : EventCursor) (last : Marker)
    → spot_in s false x later at last → spot_in s false y later at last
same_unshown (source.Whole c) x y later at last here = here
same_unshown (source.Pieces coming) x y later at last here = here

pub passes_shown : (s : Source) (e : Given × Span) (y : Item)
    → PassesThese (event_of e ∷ []) (spot_in s true (Some (Ok e))) (spot_in s false y)
passes_shown s e y later at last here =
    let b = behind_shown s (Some (Ok e)) y later at last here in (b.0, (b.0, b.1, refl), b.2)

-- ## A document's events

-- these events were taken behind others, and none of all ends a document
abbrev pub TookSome : Limits → List Event → Spot → Inner → Grower → Type 0
TookSome limits es before now grower = (took : List Event) × PassesThese took before (spot_of now)
    × HasGrownWithin limits (es ++ took) grower × EndNoDocument (happenings (es ++ took)) × AreBetween (es ++ took) now

pub took_none : (limits : Limits) (es : List Event) (m : Inner) (g : Grower) → HasGrownWithin limits es g
    → EndNoDocument (happenings es) → AreBetween es m → TookSome limits es (spot_of m) m g
took_none limits es m g grown inside between =
    let same = sym (append-nil es) in (
      [],
      stays_put (spot_of m),
      subst (λ (l : List Event). HasGrownWithin limits l g) same grown,
      subst (λ (l : List Event). EndNoDocument (happenings l)) same inside,
      subst (λ (l : List Event). AreBetween l m) same between,
    )

-- what is shown between documents begins one
shown_between : (h : Item) (e : Event) → ShowsBetween h → (shown : Given × Span) → h ≡ Some (Ok shown)
    → event_of shown ≡ e → IsAroundDocuments e.0
shown_between h e between shown is same =
    subst (λ (x : Event). IsAroundDocuments x.0) same (subst ShowsBetween is between)

begins_with : (es : List Event) (e : Event) (m : Inner) → AreBetween es m → IsShownFirst e m
    → BeginBetween ⊥ (es ++ e ∷ [])
begins_with [] e m (on, between) first =
    let f = first on in shown_between (handed m) e between f.0 f.1 f.2
begins_with (x ∷ es) e m between first = between

-- some events are no less between documents than if there were none
begun_of : (A B : Type 0) (es : List Event) → (A → B) → BeginBetween A es → BeginBetween B es
begun_of A B [] f begins = f begins
begun_of A B (e ∷ es) f begins = begins

between_some : (es : List Event) (m : Inner) → AreBetween es m → BeginBetween (Unit {0}) es
between_some es m between = begun_of _ (Unit {0}) es (λ x. tt) between

between_unshown : (es : List Event) (m : Inner) → m.shown ≡ false → AreBetween es m → BeginBetween ⊥ es
between_unshown es m off between = begun_of _ ⊥ es (λ x. true≢false (sym x.0 ∙ off)) between

between_begun : (es : List Event) (m : Inner) → BeginBetween ⊥ es → AreBetween es m
between_begun es m begins = begun_of ⊥ _ es (λ x. absurd x) begins

pub took_more : (limits : Limits) (es : List Event) (before : Spot) (a b : Inner) (old new : Grower)
    (t : TookSome limits es before a old) → TakesOne limits (es ++ t.0) (Ok None) a b old new
    → TookSome limits es before b new
took_more limits es before a b old new (took, passed, grown, inside, between) (one, grows, not_end) =
    let e = one.event in
    let same = append_assoc es took (e ∷ []) in (
      took ++ e ∷ [],
      passes_both took (e ∷ []) before (spot_of a) (spot_of b) passed one.passes,
      subst (λ (l : List Event). HasGrownWithin limits l new) same grows,
      subst (λ (l : List Event). EndNoDocument (happenings l)) same
          (subst EndNoDocument (sym (map-append (λ (d : Event). d.0) (es ++ took) (e ∷ [])))
          (none_more (happenings (es ++ took)) e.0 inside not_end)),
      subst (λ (l : List Event). AreBetween l b) same
          (between_begun ((es ++ took) ++ e ∷ []) b (begins_with (es ++ took) e a between one.first)),
    )

pub took_all : (limits : Limits) (es : List Event) (before : Spot) (a b : Inner) (old new : Grower) (ended : Bool)
    (t : TookSome limits es before a old) → TakesOne limits (es ++ t.0) (Ok (Some ended)) a b old new
    → TakesUpToEnd limits es (Ok ended) before b new
took_all limits es before a b old new true (took, passed, grown, inside, between) (one, grows, is_end, none_open) = (
  took,
  one.event,
  passes_both took (one.event ∷ []) before (spot_of a) (spot_of b) passed one.passes,
  inside,
  grows,
  is_end,
  none_open,
  begins_with (es ++ took) one.event a between one.first,
)
took_all limits es before a b old new false (took, passed, grown, inside, between) rest = record {
  took = took;
  passes = all_behind took before (spot_of a) (spot_of b) passed rest;
  begins = between_some (es ++ took) a between;
  inside = inside;
}

not_taken : (f : TreeFault) (limits : Limits) (es : List Event) (before : Spot) (a b : Inner) (old : Grower)
    (t : TookSome limits es before a old) (one : PassesOne a b)
    → Forbids ⊥ f limits (happenings ((es ++ t.0) ++ one.event ∷ [])) one.event.1.start
    → CannotTake f limits es before (spot_of b)
not_taken f limits es before a b old (took, passed, grown, inside, between) one why = record {
  took = took;
  event = one.event;
  passes = passes_both took (one.event ∷ []) before (spot_of a) (spot_of b) passed one.passes;
  begins = begins_with (es ++ took) one.event a between one.first;
  inside = inside;
  within = grown.within;
  why = why;
}

pub took_until : (limits : Limits) (es : List Event) (before : Spot) (a b : Inner) (old new : Grower) (why : Stop)
    (t : TookSome limits es before a old) → TakesOne limits (es ++ t.0) (Err why) a b old new
    → TakesUpToEnd limits es (Err why) before b new
took_until limits es before a b old new (stop.Wait s place) (took, passed, grown, inside, between)
    (stays, same, off) = (
      took,
      passes_on took before (spot_of a) (spot_of b) passed stays,
      subst (λ (g : Grower). HasGrownWithin limits (es ++ took) g) (sym same) grown,
      inside,
      between_unshown (es ++ took) a off between,
    )
took_until limits es before a b old new (stop.Fault (tree.Parse f)) (took, passed, grown, inside, between)
    (fails, shown) = (
      record {
        took = took;
        passes = fault_behind f took before (spot_of a) (last_spot_of b) passed fails;
        begins = between_some (es ++ took) a between;
        inside = inside;
        within = grown.within;
      },
      shown,
    )
took_until limits es before a b old new (stop.Fault tree.NotFresh) t (one, why) = why
took_until limits es before a b old new (stop.Fault tree.OutOfMemory) t (one, why) =
    not_taken tree.OutOfMemory limits es before a b old t one why
took_until limits es before a b old new (stop.Fault (tree.TooManyNodes at most)) t (one, why) =
    not_taken (tree.TooManyNodes at most) limits es before a b old t one why
took_until limits es before a b old new (stop.Fault (tree.TooDeep at most)) t (one, why) =
    not_taken (tree.TooDeep at most) limits es before a b old t one why

-- ## What comes next is read

pub kept_text : (s : Source) (from to : Box Coming Global) → s ≡ source.Pieces from → KeepsRest from.value to.value
    → KeepsText s (source.Pieces to)
kept_text s from to is same = subst (λ (x : Source). KeepsText x (source.Pieces to)) (sym is) (to, refl, same)

pub hands_event : (m : Inner) (y : Item) → m.shown ≡ true → m.progress ≡ progress.Event
    → PassesThese (event_of m.next ∷ []) (spot_of m) (spot_in m.source false y)
hands_event m y on is =
    subst (λ (b : Bool). PassesThese (event_of m.next ∷ []) (spot_in m.source b (handed m)) (spot_in m.source false y))
    (sym on)
    (subst (λ (p : Progress). PassesThese (event_of m.next ∷ []) (spot_in m.source true (item_at m.next m.fault p))
    (spot_in m.source false y)) (sym is) (passes_shown m.source m.next y))

-- what is shown is the event that was read
pub shown_first : (m n : Inner) → (m.shown ≡ true → n ≡ m) → n.progress ≡ progress.Event
    → IsShownFirst (event_of n.next) m
shown_first m n again is on = (
  n.next,
  ap (λ (k : Inner). handed k) (sym (again on)) ∙ ap (λ (p : Progress). item_at n.next n.fault p) is,
  refl,
)

unfoldable pub takes_event : (m n after : Inner) → after.source ≡ n.source → after.shown ≡ false
    → PassesThese [] (spot_of m) (spot_of n) → (m.shown ≡ true → n ≡ m) → n.shown ≡ true
    → n.progress ≡ progress.Event → PassesOne m after
takes_event m n after same off place again on is = record {
  event = event_of n.next;
  passes = passes_both [] (event_of n.next ∷ []) (spot_of m) (spot_of n) (spot_of after) place
      (subst (λ (b : Bool). PassesThese (event_of n.next ∷ []) (spot_of n) (spot_in after.source b (handed after)))
      (sym off)
      (subst (λ (x : Source). PassesThese (event_of n.next ∷ []) (spot_of n) (spot_in x false (handed after))) (sym same)
      (hands_event n (handed after) on is)));
  first = shown_first m n again is;
}

pub forbids : (f : TreeFault) (limits : Limits) (es : List Event) (before after : Inner) (old new : Grower)
    (one : PassesOne before after) → Forbids ⊥ f limits (happenings (es ++ one.event ∷ [])) one.event.1.start
    → TakesOne limits es (Err (stop.Fault f)) before after old new
forbids (tree.Parse f) limits es before after old new one why = absurd why
forbids tree.NotFresh limits es before after old new one why = (one, why)
forbids tree.OutOfMemory limits es before after old new one why = (one, why)
forbids (tree.TooManyNodes at most) limits es before after old new one why = (one, why)
forbids (tree.TooDeep at most) limits es before after old new one why = (one, why)

-- ## Less is left

less_behind : (e : Event) (a b : Answer) → a.events ≡ (e ∷ []) ++ b.events → a.fault ≡ b.fault → count b < count a
less_behind e a b split same = rw (split, same) (omega (arith, length-append (e ∷ []) b.events))

less_read : (from to : Box Coming Global) (e : Event) → Splits
    → Advances e (at_bytes from.value []) (at_bytes to.value [])
    → left_in (source.Pieces to) false < left_in (source.Pieces from) false
less_read from to e splits next =
    let a = at_bytes from.value [] in
    let b = at_bytes to.value [] in
    let split = splits (e ∷ []) a b (b, next, refl) in
    let less = less_behind e (to_come a) (to_come b) split.0 split.1 in omega (arith, less)

less_shown : (s : Source) → left_in s false < left_in s true
less_shown (source.Whole c) = omega arith
less_shown (source.Pieces coming) = omega arith

less_unshown : (s t : Source) (x : Item) (e : Given × Span) (y : Item) → Splits → IsInPieces s → KeepsText s t
    → y ≡ Some (Ok e) → PassesThese [] (spot_in s false x) (spot_in t true y) → left_in t false < left_in s false
less_unshown (source.Whole c) t x e y splits there text is passes = absurd there
less_unshown (source.Pieces from) t x e y splits there (to, same, kept) is passes =
    let stays = passes [] (at_bytes from.value []) from.value.last_end (refl, refl) in
    let shown = subst (λ (z : Item). spot_in (source.Pieces to) true z [] stays.0 from.value.last_end) is
    (subst (λ (u : Source). spot_in u true y [] stays.0 from.value.last_end) same stays.2) in
    let gives : GivesNext (Some (Ok e)) (at_bytes from.value []) (at_bytes to.value []) =
    subst (λ (c : EventCursor). GivesNext (Some (Ok e)) c (at_bytes to.value [])) stays.1 shown.0 in
    subst (λ (u : Source). left_in u false < left_in (source.Pieces from) false) (sym same)
    (less_read from to (event_of e) splits gives)

less_either : (m n : Inner) (e : Given × Span) → Splits → (m.shown ≡ false → IsInPieces m.source)
    → KeepsText m.source n.source → (m.shown ≡ true → n ≡ m) → n.shown ≡ true → handed n ≡ Some (Ok e)
    → PassesThese [] (spot_of m) (spot_of n) → (b : Bool) → m.shown ≡ b → left_in n.source false < left_in m.source b
less_either m n e splits there text again on is passes true was =
    subst (λ (k : Inner). left_in k.source false < left_in m.source true) (sym (again was)) (less_shown m.source)
less_either m n e splits there text again on is passes false was =
    less_unshown m.source n.source (handed m) e (handed n) splits (there was) text is
    (subst (λ (b : Bool). PassesThese [] (spot_in m.source false (handed m)) (spot_in n.source b (handed n))) on
    (subst (λ (b : Bool). PassesThese [] (spot_in m.source b (handed m)) (spot_of n)) was passes))

-- the event that is shown is handed out
pub less_behind_shown : (m n : Inner) (e : Given × Span) → Splits → (m.shown ≡ false → IsInPieces m.source)
    → KeepsText m.source n.source → (m.shown ≡ true → n ≡ m) → n.shown ≡ true → handed n ≡ Some (Ok e)
    → PassesThese [] (spot_of m) (spot_of n) → left_in n.source false < left_in m.source m.shown
less_behind_shown m n e splits there text again on is passes = less_either m n e splits there text again on is passes
    m.shown refl

-- ## A document

pub goes_on : (limits : Limits) (es : List Event) (grower : Grower) (m : Inner) → HasGrownWithin limits es grower
    → EndNoDocument (happenings es) → BeginBetween ⊥ es
    → HasGrownWithin limits es grower × EndNoDocument (happenings es) × AreBetween es m
goes_on limits es grower m grown inside begins = (grown, inside, between_begun es m begins)

-- the document that began goes on
module _ (given : Limits) (before mid after : Inner) (old : Box Grower Global) (new : Grower)
    (begins : Begins given (Ok old) before mid) (stays : PassesThese [] (spot_of before) (spot_of mid)) where
  abbrev Taken : Result Bool Stop → Type 0
  Taken r = (most : Limits) (es : List Event) → HasGrownWithin most es old.value → EndNoDocument (happenings es)
      → AreBetween es mid → TakesUpToEnd most es r (spot_of mid) after new

  pub loads_table : (t : NodeTable) → Taken (Ok true) → after.growing ≡ None
      → ((limits : Limits) (es : List Event) → HasGrownWithin limits es new → HasNoneOpen new.growth → IsTable es t)
      → LoadsSo given (Ok (Some t)) before after
  loads_table t taken empty table = (
    empty,
    λ limits es has.
        let b = begins limits es has in
        let r = taken limits es b.0 b.1 b.2 in
        record {
          took = r.0;
          last = r.1;
          passes = passes_both [] (r.0 ++ r.1 ∷ []) (spot_of before) (spot_of mid) (spot_of after) stays r.2;
          begins = r.7;
          inside = r.3;
          ends = r.5;
          within = r.4.within;
          table = table limits ((es ++ r.0) ++ r.1 ∷ []) r.4 r.6;
        },
  )

  pub loads_none : Taken (Ok false) → after.growing ≡ None → LoadsSo given (Ok None) before after
  loads_none taken empty = (
    empty,
    λ limits es has.
        let b = begins limits es has in
        let r = taken limits es b.0 b.1 b.2 in
        record {
          took = r.took;
          passes = all_both [] r.took (spot_of before) (spot_of mid) (spot_of after) stays r.passes;
          begins = r.begins;
          inside = r.inside;
        },
  )

  pub loads_later : (s : Status) (place : Marker) (kept : Inner) → Taken (Err (stop.Wait s place))
      → WaitsSo s place kept → PassesThese [] (spot_of after) (spot_of kept) → (box : Box Grower Global)
      → box.value ≡ new → kept.growing ≡ Some box → LoadsSo given (Err (stop.Wait s place)) before kept
  loads_later s place kept taken waits same box holds is = (
    waits,
    λ limits es has.
        let b = begins limits es has in
        let r = taken limits es b.0 b.1 b.2 in (
          r.0,
          passes_on r.0 (spot_of before) (spot_of after) (spot_of kept)
              (passes_both [] r.0 (spot_of before) (spot_of mid) (spot_of after) stays r.1) same,
          subst (HasBegun limits limits (es ++ r.0)) (sym is)
              (subst (λ (g : Grower). HasGrownWithin limits (es ++ r.0) g) (sym holds) r.2, r.3, r.4),
        ),
  )

  cannot_take : (f : TreeFault) (limits : Limits) (es : List Event)
      → CannotTake f limits es (spot_of mid) (spot_of after)
      → CannotTake f limits es (spot_of before) (spot_of after)
  cannot_take f limits es r = record {
    took = r.took;
    event = r.event;
    passes = passes_both [] (r.took ++ r.event ∷ []) (spot_of before) (spot_of mid) (spot_of after) stays r.passes;
    begins = r.begins;
    inside = r.inside;
    within = r.within;
    why = r.why;
  }

  fails : (f : TreeFault) (limits : Limits) (es : List Event)
      → TakesUpToEnd limits es (Err (stop.Fault f)) (spot_of mid) after new
      → LoadsRest limits es (Err f) (spot_of before) after × IsHandedOut f after
  fails (tree.Parse f) limits es (r, off) = (
    record {
      took = r.took;
      passes = fault_both f [] r.took (spot_of before) (spot_of mid) (last_spot_of after) stays r.passes;
      begins = r.begins;
      inside = r.inside;
      within = r.within;
    },
    off,
  )
  fails tree.NotFresh limits es r = absurd r
  fails tree.OutOfMemory limits es r = (inl (cannot_take tree.OutOfMemory limits es r), tt)
  fails (tree.TooManyNodes at most) limits es r = (cannot_take (tree.TooManyNodes at most) limits es r, tt)
  fails (tree.TooDeep at most) limits es r = (cannot_take (tree.TooDeep at most) limits es r, tt)

  pub loads_fault : (f : TreeFault) → Taken (Err (stop.Fault f)) → after.growing ≡ None
      → LoadsSo given (Err (stop.Fault f)) before after
  loads_fault f taken empty = (
    empty,
    λ limits es has.
        let b = begins limits es has in fails f limits es (taken limits es b.0 b.1 b.2),
  )

-- ## What is told

-- what became of a document is no want of more
abbrev IsAnswer : Status → Type 0
IsAnswer status.More = ⊥
IsAnswer status.TooMuch = ⊥
IsAnswer _ = Unit {0}

refusal_answers : (info : List ℕ) (s : Status) → IsStatusOfRefusal info s → IsAnswer s
refusal_answers info status.Refused told = tt
refusal_answers info status.TooLong told = tt
refusal_answers info _ told = absurd told

fault_answers : (f : Fault) (s : Status) (c : CEvent) → WritesFault f s c → IsAnswer s
fault_answers (fault.Scan e) s c told = refusal_answers (string_bytes e.info) s told.0
fault_answers fault.OutOfMemory s c told = subst IsAnswer (sym told.0) tt
fault_answers fault.Receiver s c told = subst IsAnswer (sym told.0) tt
fault_answers fault.InsideDocument s c told = subst IsAnswer (sym told.0) tt

unloaded_answers : (f : TreeFault) (s : Status) (c : CEvent) (after : Inner) → WritesUnloaded f s c after → IsAnswer s
unloaded_answers (tree.Parse f) s c after told = fault_answers told.0 s c told.2
unloaded_answers (tree.TooManyNodes at most) s c after told = subst IsAnswer (sym told.0) tt
unloaded_answers (tree.TooDeep at most) s c after told = subst IsAnswer (sym told.0) tt
unloaded_answers tree.OutOfMemory s c after told = subst IsAnswer (sym told.0) tt
unloaded_answers tree.NotFresh s c after told = subst IsAnswer (sym told.0) tt

answers : (r : Result (Option NodeTable) TreeFault) (s : Status) (c : CEvent) (after : Inner)
    → WritesNext r s c after → IsAnswer s
answers (Ok (Some t)) s c after told = subst IsAnswer (sym told.0) tt
answers (Ok None) s c after told = subst IsAnswer (sym told.0) tt
answers (Err f) s c after told = unloaded_answers f s c after told.0

told_loaded : (given : Limits) (before after : Inner) (c : CEvent) (s : Status) → IsAnswer s
    → (r : Result (Option NodeTable) TreeFault) × LoadsRestOf given r before.growing (spot_of before) after
    × WritesNext r s c after → LoadsComing given before s c after
told_loaded given before after c status.More answer told = absurd answer
told_loaded given before after c status.TooMuch answer told = absurd answer
told_loaded given before after c _ answer told = told

pub tells : (given : Limits) (before after : Inner) (c : CEvent) (s : Status)
    (r : Result (Option NodeTable) TreeFault) → LoadsRestOf given r before.growing (spot_of before) after
    → WritesNext r s c after → LoadsComing given before s c after
tells given before after c s r loads told =
    told_loaded given before after c s (answers r s c after told) (r, loads, told)

-- a fault is told, whose text may move
still_last : (mid after : Inner) (later : List ℕ) (at : EventCursor) (last : Marker) → after.source ≡ mid.source
    → after.shown ≡ mid.shown → mid.shown ≡ false → last_spot_of mid later at last → last_spot_of after later at last
still_last mid after later at last same on off (here, enough) = (
  subst (λ (b : Bool). spot_in after.source b (handed after) later at last) (sym (on ∙ off))
      (subst (λ (x : Source). spot_in x false (handed after) later at last) (sym same)
      (same_unshown mid.source (handed mid) (handed after) later at last
      (subst (λ (b : Bool). spot_in mid.source b (handed mid) later at last) off here))),
  subst WantsNoMore (sym same) enough,
)

still_meets : (f : Fault) (limits : Limits) (es : List Event) (p : Spot) (mid after : Inner)
    → after.source ≡ mid.source → after.shown ≡ mid.shown → mid.shown ≡ false
    → MeetsFault f limits es p (last_spot_of mid) → MeetsFault f limits es p (last_spot_of after)
still_meets f limits es p mid after same on off r = record {
  took = r.took;
  passes = λ later at last here.
      let m = r.passes later at last here in (
        m.0,
        m.1,
        m.2,
        m.3,
        still_last mid after later m.1 (end_behind r.took last) same on off m.4,
      );
  begins = r.begins;
  inside = r.inside;
  within = r.within;
}

unloaded : (f : TreeFault) (given : Limits) (before mid after : Inner) → KeepsButFault f mid after
    → LoadsSo given (Err (stop.Fault f)) before mid → LoadsRestOf given (Err f) before.growing (spot_of before) after
unloaded (tree.Parse f) given before mid after kept (none, loads) = (
  kept.2.1 ∙ none,
  λ limits es has.
      let r = loads limits es has in
      still_meets f limits es (spot_of before) mid after kept.0 kept.1 r.1 r.0,
)
unloaded tree.NotFresh given before mid after kept (none, loads) =
    subst (λ (m : Inner). LoadsRestOf given (Err tree.NotFresh) before.growing (spot_of before) m) (sym kept.3)
    (none, λ limits es has. (loads limits es has).0)
unloaded tree.OutOfMemory given before mid after kept (none, loads) =
    subst (λ (m : Inner). LoadsRestOf given (Err tree.OutOfMemory) before.growing (spot_of before) m) (sym kept.3)
    (none, λ limits es has. (loads limits es has).0)
unloaded (tree.TooManyNodes at most) given before mid after kept (none, loads) =
    subst (λ (m : Inner). LoadsRestOf given (Err (tree.TooManyNodes at most)) before.growing (spot_of before) m) (sym kept.3)
    (none, λ limits es has. (loads limits es has).0)
unloaded (tree.TooDeep at most) given before mid after kept (none, loads) =
    subst (λ (m : Inner). LoadsRestOf given (Err (tree.TooDeep at most)) before.growing (spot_of before) m) (sym kept.3)
    (none, λ limits es has. (loads limits es has).0)

pub tells_fault : (f : TreeFault) (given : Limits) (before mid after : Inner) (c : CEvent) (s : Status)
    → KeepsText before.source mid.source → mid.table ≡ before.table → IsEmptyTable before.table
    → KeepsButFault f mid after → WritesUnloaded f s c after → LoadsSo given (Err (stop.Fault f)) before mid
    → LoadsFromPieces given before s c after
tells_fault f given before mid after c s text table empty kept told loads = (
  subst (KeepsText before.source) (sym kept.0) text,
  tells given before after c s (Err f) (unloaded f given before mid after kept loads)
      (told, subst IsEmptyTable (sym (kept.2.0 ∙ table)) empty),
)
