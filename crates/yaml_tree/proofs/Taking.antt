-- A loader takes event after event.
use Rattle.std.proofs.Common.{◌≡◌, List, [], ◌∷◌, ◌++◌, Option, Some, None, option_and_then, Result, Ok, Err, refl, sym, ap, subst, ◌∙◌, append_assoc}
use Rattle.std.proofs.lemmas.List.{map-append}
use Rattle.saphyr_scalar.specs.declared.scalar.position.Marker.{Marker}
use Rattle.saphyr_parser.specs.Events.{Happening}
use Rattle.yaml_tree.specs.declared.fault.TreeFault.{TreeFault}
use Rattle.yaml_tree.specs.declared.fault.TreeFault.TheVariants as fault
use Rattle.yaml_tree.specs.declared.tally.Limits.{Limits}
use Rattle.yaml_tree.specs.declared.tally.Tally.{Tally}
use Rattle.yaml_tree.specs.declared.loading.Loader.{Loader}
use Rattle.saphyr_parser.specs.Nesting.{Nest, happenings, nest_behind_event, nest_behind_all, nest_before_stream}
use Rattle.yaml_tree.specs.Counting.{Counts, counts_behind, counts_behind_all, no_nodes, StayWithin, Fits}
use Rattle.yaml_tree.specs.TallySeen.{counts_of, Exceeds, Tallies}
use Rattle.yaml_tree.specs.BuilderSeen.{nest_of, Grows}
use Rattle.yaml_tree.specs.LoaderSeen.{HasTaken, TakesLast, nest_behind_both}
use Rattle.yaml_tree.specs.Loading.{Forbids}
use Rattle.yaml_tree.specs.Tables.{Event}
use Rattle.yaml_tree.proofs.Nests.{nest_behind_all-append}

-- ## Longer lists

pub happenings-append : (es fs : List Event) → happenings (es ++ fs) ≡ happenings es ++ happenings fs
happenings-append es fs = map-append (λ (d : Event). d.0) es fs

counts_behind_all-append : (xs ys : List Happening) (c : Counts)
    → counts_behind_all (xs ++ ys) c ≡ counts_behind_all ys (counts_behind_all xs c)
counts_behind_all-append [] ys c = refl
counts_behind_all-append (x ∷ xs) ys c = counts_behind_all-append xs ys (counts_behind x c)

stays_within : (limits : Limits) (xs : List Happening) (x : Happening) (c : Counts) → StayWithin limits xs c
    → Fits limits (counts_behind x (counts_behind_all xs c)) → StayWithin limits (xs ++ x ∷ []) c
stays_within limits [] x c h f = (f, tt)
stays_within limits (y ∷ ys) x c h f = (h.0, stays_within limits ys x (counts_behind y c) h.1 f)

-- where the events before lead leads on to where all do
pub nest_behind_both-append : (before : List Happening) (es fs : List Event)
    → nest_behind_both before (es ++ fs)
    ≡ option_and_then (nest_behind_all (happenings fs)) (nest_behind_both before es)
nest_behind_both-append before es fs =
    ap (λ (hs : List Happening). nest_behind_all hs nest_before_stream)
    (ap (λ (hs : List Happening). before ++ hs) (happenings-append es fs)
    ∙ sym (append_assoc before (happenings es) (happenings fs)))
    ∙ nest_behind_all-append (before ++ happenings es) (happenings fs) nest_before_stream

-- ## The counts of one more event

fits_along : (l m : Limits) (a b : Counts) → l ≡ m → a ≡ b → Fits l a → Fits m b
fits_along l m a b e f x = subst (λ (k : Limits). Fits k b) e (subst (λ (d : Counts). Fits l d) f x)

exceeds_along : (f : TreeFault) (l m : Limits) (a b : Counts) (place : Marker) → l ≡ m → a ≡ b
    → Exceeds f l a place → Exceeds f m b place
exceeds_along f l m a b place e g x =
    subst (λ (k : Limits). Exceeds f k b place) e (subst (λ (d : Counts). Exceeds f l d place) g x)

-- the tally has counted these events, and counts one more
module _ (limits : Limits) (es : List Event) (x : Event) (t : Tally) (same : t.limits ≡ limits)
    (counted : counts_of t ≡ counts_behind_all (happenings es) no_nodes) where
  pub counts_more : counts_behind x.0 (counts_of t) ≡ counts_behind_all (happenings (es ++ x ∷ [])) no_nodes
  counts_more = ap (counts_behind x.0) counted ∙ sym (counts_behind_all-append (happenings es) (x.0 ∷ []) no_nodes)
      ∙ ap (λ (hs : List Happening). counts_behind_all hs no_nodes) (sym (happenings-append es (x ∷ [])))

  pub within_more : StayWithin limits (happenings es) no_nodes → Fits t.limits (counts_behind x.0 (counts_of t))
      → StayWithin limits (happenings (es ++ x ∷ [])) no_nodes
  within_more within fits = subst (λ (hs : List Happening). StayWithin limits hs no_nodes)
      (sym (happenings-append es (x ∷ [])))
      (stays_within limits (happenings es) x.0 no_nodes within
      (fits_along t.limits limits _ _ same (ap (counts_behind x.0) counted) fits))

  -- an event within the limits is not taken for lack of memory
  pub lacks_memory : Fits t.limits (counts_behind x.0 (counts_of t))
      → Fits limits (counts_behind_all (happenings (es ++ x ∷ [])) no_nodes)
  lacks_memory fits = fits_along t.limits limits _ _ same counts_more fits

pub exceeds : (Ill : Type 0) (f : TreeFault) (limits : Limits) (es : List Event) (x : Event) (place : Marker)
    (t : Tally) → t.limits ≡ limits → counts_of t ≡ counts_behind_all (happenings es) no_nodes
    → Exceeds f t.limits (counts_behind x.0 (counts_of t)) place
    → Forbids Ill f limits (happenings (es ++ x ∷ [])) place
exceeds Ill fault.NotFresh limits es x place t same counted c = absurd c
exceeds Ill fault.OutOfMemory limits es x place t same counted c = absurd c
exceeds Ill f limits es x place t same counted c =
    exceeds_along f t.limits limits _ _ place same (counts_more limits es x t same counted) c

-- ## A loader

some_again : (o : Option Nest) → option_and_then (λ n. Some n) o ≡ o
some_again None = refl
some_again (Some n) = refl

nested_more : (before : List Happening) (es : List Event) (x : Event) (n : Nest) (o : Option Nest)
    → nest_behind_both before es ≡ Some n → nest_behind_event x.0 n ≡ o → nest_behind_both before (es ++ x ∷ []) ≡ o
nested_more before es x n o e f = nest_behind_both-append before es (x ∷ [])
    ∙ ap (option_and_then (nest_behind_all (x.0 ∷ []))) e ∙ some_again (nest_behind_event x.0 n) ∙ f

pub takes : {K : Type 0} {HasKept : List Event → K → Type 0} (limits : Limits) (before : List Happening)
    (es : List Event) (x : Event) (place : Marker) (old new : Loader K) (r : Result (Unit {0}) TreeFault)
    → HasTaken HasKept limits before es old
    → Tallies (Ok tt) (counts_behind x.0 (counts_of old.tally)) place old.tally new.tally
    → Grows r (x.0 ∷ []) (nest_behind_event x.0 (nest_of old.builder)) old.builder new.builder
    → HasKept (es ++ x ∷ []) new.keeper → TakesLast HasKept r limits before (es ++ x ∷ []) place new
takes limits before es x place old new (Ok u) t c g k = record {
  same_limits = c.0 ∙ t.same_limits;
  written = g.0 ∙ ap (λ (hs : List Happening). hs ++ x.0 ∷ []) t.written
      ∙ append_assoc before (happenings es) (x.0 ∷ [])
      ∙ ap (λ (hs : List Happening). before ++ hs) (sym (happenings-append es (x ∷ [])));
  nested = nested_more before es x _ _ t.nested g.1;
  counted = c.1 ∙ counts_more limits es x old.tally t.same_limits t.counted;
  within = within_more limits es x old.tally t.same_limits t.counted t.within c.2;
  kept = k;
}
takes limits before es x place old new (Err fault.NotFresh) t c g k = nested_more before es x _ _ t.nested g
takes limits before es x place old new (Err fault.OutOfMemory) t c g k =
    lacks_memory limits es x old.tally t.same_limits t.counted c.2
takes limits before es x place old new (Err _) t c g k = absurd g
