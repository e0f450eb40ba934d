-- What contracts see of a loader.
use Rattle.std.specs.Prelude.{◌≡◌, Bool, List, ◌++◌, Option, Some, None, Result, Ok, Err}
use Rattle.saphyr_scalar.specs.declared.scalar.position.Marker.{Marker}
use Rattle.saphyr_parser.specs.Answer.{Answer}
use Rattle.saphyr_parser.specs.Events.{Happening}
use Rattle.saphyr_parser.specs.Nesting.{Nest, happenings, nest_before_stream, nest_behind_all}
use Rattle.yaml_tree.specs.declared.fault.TreeFault.{TreeFault}
use Rattle.yaml_tree.specs.declared.tally.Limits.{Limits}
use Rattle.yaml_tree.specs.declared.loading.Loader.{Loader}
use Rattle.yaml_tree.specs.BuilderSeen.{builder_events, nest_of}
use Rattle.yaml_tree.specs.TallySeen.{counts_of}
use Rattle.yaml_tree.specs.Counting.{no_nodes, counts_behind_all, StayWithin}
use Rattle.yaml_tree.specs.Loading.{Forbids, TakesComing}
use Rattle.yaml_tree.specs.Tables.{Event}

-- where these events lead, behind those from before
abbrev pub nest_behind_both : List Happening → List Event → Option Nest
nest_behind_both before es = nest_behind_all (before ++ happenings es) nest_before_stream

-- behind the events from before, of which none is a node, the loader has taken exactly these, and kept them so
pub record HasTaken {K : Type 0} (HasKept : List Event → K → Type 0) (limits : Limits) (before : List Happening)
    (es : List Event) (l : Loader K) : Type 0 where
  pub same_limits : l.tally.limits ≡ limits
  pub written : builder_events l.builder ≡ before ++ happenings es
  pub nested : nest_behind_both before es ≡ Some (nest_of l.builder)
  pub counted : counts_of l.tally ≡ counts_behind_all (happenings es) no_nodes
  pub within : StayWithin limits (happenings es) no_nodes
  pub kept : HasKept es l.keeper

-- these events are taken, or the last of them can't be
abbrev pub TakesLast : {K : Type 0} → (List Event → K → Type 0) → Result (Unit {0}) TreeFault → Limits
    → List Happening → List Event → Marker → Loader K → Type 0
TakesLast HasKept (Ok u) limits before es place new = HasTaken HasKept limits before es new
TakesLast HasKept (Err f) limits before es place new =
    Forbids (nest_behind_both before es ≡ None) f limits (happenings es) place

-- what a loader takes of all that is still to come
abbrev pub LoaderTakes : {K : Type 0} → (List Event → K → Type 0) → Bool → Limits → List Happening
    → Result Bool TreeFault → Answer → Answer → Loader K → Type 0
LoaderTakes HasKept wanted limits before r all left l =
    TakesComing wanted (λ es. HasTaken HasKept limits before es l) (λ es. HasTaken HasKept limits before es l)
    (nest_behind_both before all.events ≡ None) limits r all left
