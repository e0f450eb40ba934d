-- What a call answers.
use Rattle.std.proofs.Common.{◌≡◌, ◌<◌, List, [], Bool, true, false, true≢false, refl, Option, Some, None, Result, Ok, Err, Vec, Global, subst, ◌∙◌, inl, inr}
use Rattle.saphyr_parser.specs.Answer.{Ending, OutOfMemory, Answer, fault_alone}
use Rattle.saphyr_parser.specs.Cursor.{count, Stays}
use Rattle.yaml_tree.specs.declared.fault.TreeFault.{TreeFault}
use Rattle.yaml_tree.specs.declared.fault.TreeFault.TheVariants as fault
use Rattle.yaml_tree.specs.declared.tally.Limits.{Limits}
use Rattle.yaml_tree.specs.declared.document.Document.{Document}
use Rattle.yaml_tree.specs.declared.loading.Loader.{Loader}
use Rattle.saphyr_parser.specs.Nesting.{Nest, nest_behind_stream, IsAtStart, IsWhole}
use Rattle.yaml_tree.specs.BuilderSeen.{Finishes}
use Rattle.yaml_tree.specs.LoaderSeen.{LoaderTakes, nest_behind_both}
use Rattle.yaml_tree.specs.Loading.{FailsToTake, LoadsDocuments}
use Rattle.yaml_tree.specs.Tables.{Event}
use Rattle.yaml_tree.proofs.DocumentRead.{fails_lost, never_stops}

-- ## The documents

pub no_nest : (f : Option Ending) (o : Option Nest) → o ≡ None → IsWhole f o → ⊥
no_nest f o e w = subst (IsWhole f) e w

pub whole_is_complete : (f : Option Ending) (o : Option Nest) (n : Nest) → f ≡ None → o ≡ Some n → IsWhole f o
    → n ≡ nest_behind_stream
whole_is_complete f o n e g w =
    subst (λ (x : Option Nest). IsWhole None x) g (subst (λ (x : Option Ending). IsWhole x o) e w)

-- where all events are wanted no document's end is the last
pub takes_all : {K : Type 0} (HasKept : List Event → K → Type 0) (limits : Limits) (ended : Bool)
    (all left : Answer) (l : Loader K) → LoaderTakes HasKept true limits [] (Ok ended) all left l → ended ≡ false
takes_all HasKept limits true all left l t = absurd (true≢false t.0)
takes_all HasKept limits false all left l t = refl

pub loads_all : {K : Type 0} {HasKept : List Event → K → Type 0} (limits : Limits) (all left : Answer)
    (l : Loader K) (r : Result (Vec Document Global) TreeFault) → IsAtStart all
    → LoaderTakes HasKept true limits [] (Ok false) all left l → Finishes r l.builder
    → LoadsDocuments limits r all left
loads_all limits all left l (Ok documents) b t f =
    (f.0 ∙ t.holds.1.written, t.fault, t.holds.1.within, t.nothing)
loads_all limits all left l (Err fault.NotFresh) b t f =
    inr (b, λ w. f (whole_is_complete all.fault _ _ t.fault t.holds.1.nested w))
loads_all limits all left l (Err _) b t f = absurd f

pub loads_none : (limits : Limits) (all left : Answer) (f : TreeFault) → IsAtStart all
    → FailsToTake true (nest_behind_both [] all.events ≡ None) limits f all left
    → LoadsDocuments limits (Err f) all left
loads_none limits all left fault.NotFresh b none = inr (b, λ w. no_nest all.fault _ none w)
loads_none limits all left (fault.Parse f) b h = h
loads_none limits all left _ b h = (b, h)

-- ## Lack of memory before the first event

-- a look before loses nothing, or all
pub behind_look : (Loads : Answer → Type 0) (all mid : Answer) → Stays all mid
    → (0 < count all → Loads (fault_alone OutOfMemory) → Loads all) → Loads mid → Loads all
behind_look Loads all mid (inl same) lost loads = subst Loads same loads
behind_look Loads all mid (inr gone) lost loads = lost gone.0 (subst Loads gone.1 loads)

pub some_fault : (f : Ending) → Some f ≡ None → ⊥
some_fault f e = cc

pub loads_behind : (limits : Limits) (all mid left : Answer) (r : Result (Vec Document Global) TreeFault)
    → Stays all mid → LoadsDocuments limits r mid left → LoadsDocuments limits r all left
loads_behind limits all mid left r stays = behind_look (λ a. LoadsDocuments limits r a left) all mid stays (lost r)
  where
    lost : (s : Result (Vec Document Global) TreeFault) → 0 < count all
        → LoadsDocuments limits s (fault_alone OutOfMemory) left → LoadsDocuments limits s all left
    lost (Ok documents) some l = absurd (some_fault _ l.1)
    lost (Err fault.NotFresh) some (inl late) = absurd (late.0 tt)
    lost (Err fault.NotFresh) some (inr ill) = absurd (ill.1 tt)
    lost (Err (fault.Parse f)) some l = fails_lost true f limits all left some l
    lost (Err f) some l = absurd (never_stops true f limits left l.1)
