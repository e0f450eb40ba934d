-- A loader takes events, all or up to the end of a document.
use Rattle.std.proofs.Common.{◌≡◌, ◌<◌, List, [], ◌∷◌, ◌++◌, Bool, true, false, Some, None, option_and_then, ℕ, refl, sym, ap, subst, ◌∙◌, append_assoc, append-nil}
use Rattle.saphyr_scalar.specs.declared.scalar.position.Marker.{Marker}
use Rattle.saphyr_parser.specs.Types.Fault.{Fault}
use Rattle.saphyr_parser.specs.Types.Fault.TheVariants as parse
use Rattle.saphyr_parser.specs.Events.{Happening, DocumentEnd}
use Rattle.saphyr_parser.specs.Answer.{Answer, OutOfMemory, Refused, empty_answer, fault_alone, with_first_event}
use Rattle.saphyr_parser.specs.Cursor.{Refuses, count}
use Rattle.saphyr_parser.specs.Nesting.{nest_behind_all, happenings}
use Rattle.yaml_tree.specs.declared.fault.TreeFault.{TreeFault}
use Rattle.yaml_tree.specs.declared.fault.TreeFault.TheVariants as fault
use Rattle.yaml_tree.specs.declared.tally.Limits.{Limits}
use Rattle.yaml_tree.specs.Counting.{no_nodes, StayWithin}
use Rattle.yaml_tree.specs.LoaderSeen.{nest_behind_both}
use Rattle.yaml_tree.specs.Loading.{FailsToTake, FailsToParse, Forbids, GoOn, Stops, TakesRest, TakesToEnd}
use Rattle.yaml_tree.specs.Tables.{Event}
use Rattle.yaml_tree.proofs.DocumentEnds.{none_more}
use Rattle.yaml_tree.proofs.LastItems.{nothing_before}
use Rattle.yaml_tree.proofs.Taking.{happenings-append, nest_behind_both-append}

-- ## Event after event

-- of an answer these events were taken, and this holds of them
pub record ReadsOn (wanted : Bool) (Holds : List Event → Type 0) (all left : Answer) : Type 0 where
  pub taken : List Event
  pub split : all.events ≡ taken ++ left.events
  pub fault : all.fault ≡ left.fault
  pub inside : GoOn wanted (happenings taken)
  pub holds : Holds taken

goes_none : (wanted : Bool) → GoOn wanted []
goes_none true = tt
goes_none false = tt

goes_more : (wanted : Bool) (hs : List Happening) (h : Happening) → GoOn wanted hs
    → (wanted ≡ false → h ≡ DocumentEnd → ⊥) → GoOn wanted (hs ++ h ∷ [])
goes_more true hs h g n = tt
goes_more false hs h g n = none_more hs h g (n refl)

pub reads_nothing : (wanted : Bool) (Holds : List Event → Type 0) (all : Answer) → Holds []
    → ReadsOn wanted Holds all all
reads_nothing wanted Holds all h =
    record { taken = []; split = refl; fault = refl; inside = goes_none wanted; holds = h }

-- another event was handed out
module _ (wanted : Bool) (Held : List Event → Type 0) (all a b : Answer) (e : Event) (r : ReadsOn wanted Held all a)
    (next : a ≡ with_first_event e b) where
  split_here : all.events ≡ r.taken ++ (e ∷ b.events)
  split_here = r.split ∙ ap (λ (x : Answer). r.taken ++ x.events) next

  split_behind : all.events ≡ (r.taken ++ e ∷ []) ++ b.events
  split_behind = split_here ∙ sym (append_assoc r.taken (e ∷ []) b.events)

  fault_behind : all.fault ≡ b.fault
  fault_behind = r.fault ∙ ap (λ (x : Answer). x.fault) next

  pub reads_on : (Holds : List Event → Type 0) → (wanted ≡ false → e.0 ≡ DocumentEnd → ⊥)
      → Holds (r.taken ++ e ∷ []) → ReadsOn wanted Holds all b
  reads_on Holds go_on h = record {
    taken = r.taken ++ e ∷ [];
    split = split_behind;
    fault = fault_behind;
    inside = subst (GoOn wanted) (sym (happenings-append r.taken (e ∷ [])))
        (goes_more wanted (happenings r.taken) e.0 r.inside go_on);
    holds = h;
  }

  -- it is taken too, and ends the document
  pub reads_end : (Holds : List Event → Type 0) → (wanted ≡ false) × (e.0 ≡ DocumentEnd)
      → Holds (r.taken ++ e ∷ []) → (wanted ≡ false) × TakesToEnd Holds all b
  reads_end Holds last h = (
    last.0,
    record {
      taken = r.taken ++ e ∷ [];
      inner = r.taken;
      last = e;
      split = split_behind;
      fault = fault_behind;
      up_to = refl;
      ends = last.1;
      inside = subst (λ (w : Bool). GoOn w (happenings r.taken)) last.0 r.inside;
      holds = h;
    },
  )

  stops_behind : (f : TreeFault) (limits : Limits) → StayWithin limits (happenings r.taken) no_nodes
      → Forbids ⊥ f limits (happenings (r.taken ++ e ∷ [])) e.1.start → Stops wanted f limits all b
  stops_behind f limits within why = record {
    taken = r.taken;
    event = e;
    split = split_here;
    fault = fault_behind;
    inside = r.inside;
    within = within;
    why = subst (λ (hs : List Happening). Forbids ⊥ f limits hs e.1.start) (happenings-append r.taken (e ∷ [])) why;
  }

  -- it can't be taken
  pub fails_behind : (Ill Later : Type 0) (f : TreeFault) (limits : Limits) → (Ill → Later)
      → StayWithin limits (happenings r.taken) no_nodes
      → Forbids Ill f limits (happenings (r.taken ++ e ∷ [])) e.1.start → FailsToTake wanted Later limits f all b
  fails_behind Ill Later fault.NotFresh limits later within why = later why
  fails_behind Ill Later (fault.Parse f) limits later within why = absurd why
  fails_behind Ill Later f limits later within why = stops_behind f limits within why

  -- where it doesn't nest, all don't
  pub nests_nowhere : (before : List Happening) → nest_behind_both before (r.taken ++ e ∷ []) ≡ None
      → nest_behind_both before all.events ≡ None
  nests_nowhere before none = ap (nest_behind_both before) split_behind
      ∙ nest_behind_both-append before (r.taken ++ e ∷ []) b.events
      ∙ ap (option_and_then (nest_behind_all (happenings b.events))) none

-- ## The last of the events

-- where no event is left all were taken
all_read : (all a : Answer) (es : List Event) → all.events ≡ es ++ a.events → a.events ≡ [] → es ≡ all.events
all_read all a es split e = sym (split ∙ ap (λ (l : List Event). es ++ l) e ∙ append-nil es)

pub refuses_behind : (wanted : Bool) (Holds : List Event → Type 0) (f : Fault) (limits : Limits) (all a b : Answer)
    (r : ReadsOn wanted Holds all a) → StayWithin limits (happenings r.taken) no_nodes → Refuses f a
    → b ≡ empty_answer → FailsToParse wanted limits f all b
refuses_behind wanted Holds (parse.Scan e) limits all a b r within h k =
    let same = ap happenings (all_read all a r.taken r.split (ap (λ (x : Answer). x.events) h)) in (
      r.fault ∙ ap (λ (x : Answer). x.fault) h,
      subst (GoOn wanted) same r.inside,
      subst (λ (hs : List Happening). StayWithin limits hs no_nodes) same within,
      k,
    )
refuses_behind wanted Holds parse.OutOfMemory limits all a b r within h k = (
  record {
    taken = r.taken;
    lost = a;
    split = r.split;
    fault = r.fault;
    some_lost = h;
    inside = r.inside;
    within = within;
  },
  k,
)
refuses_behind wanted Holds _ limits all a b r within h k = h

pub reads_rest : (wanted : Bool) (Holds : List Event → Type 0) (all a b : Answer) → ReadsOn wanted Holds all a
    → a ≡ empty_answer → b ≡ empty_answer → TakesRest (λ es. GoOn wanted (happenings es) × Holds es) all b
reads_rest wanted Holds all a b r h k = record {
  fault = r.fault ∙ ap (λ (x : Answer). x.fault) h;
  nothing = k;
  holds = subst (λ (es : List Event). GoOn wanted (happenings es) × Holds es)
      (all_read all a r.taken r.split (ap (λ (x : Answer). x.events) h)) (r.inside, r.holds);
}

-- ## A look before

memory_is_no_refusal : (mark : Marker) (info : List ℕ) → Some OutOfMemory ≡ Some (Refused mark info) → ⊥
memory_is_no_refusal mark info e = cc

-- Where memory ran out before the first event nothing but that fault can be answered.
pub fails_lost : (wanted : Bool) (f : Fault) (limits : Limits) (all left : Answer) → 0 < count all
    → FailsToParse wanted limits f (fault_alone OutOfMemory) left → FailsToParse wanted limits f all left
fails_lost wanted (parse.Scan e) limits all left some h = absurd (memory_is_no_refusal _ _ h.0)
fails_lost wanted parse.OutOfMemory limits all left some h = (
  record {
    taken = [];
    lost = all;
    split = refl;
    fault = refl;
    some_lost = some;
    inside = goes_none wanted;
    within = tt;
  },
  h.1,
)
fails_lost wanted _ limits all left some h = absurd h

pub never_stops : (wanted : Bool) (f : TreeFault) (limits : Limits) (left : Answer)
    → Stops wanted f limits (fault_alone OutOfMemory) left → ⊥
never_stops wanted f limits left h = nothing_before h.taken left.events h.event h.split
