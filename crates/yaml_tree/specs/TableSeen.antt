-- What contracts see of a grower that takes events.
use Rattle.std.specs.Prelude.{◌≡◌, Bool, List, [], ◌∷◌, ◌++◌, Result, Ok, Err}
use Rattle.saphyr_scalar.specs.declared.scalar.position.Marker.{Marker}
use Rattle.saphyr_parser.specs.Answer.{Answer}
use Rattle.saphyr_parser.specs.Nesting.{happenings}
use Rattle.yaml_tree.specs.declared.fault.TreeFault.{TreeFault}
use Rattle.yaml_tree.specs.declared.fault.TreeFault.TheVariants as fault
use Rattle.yaml_tree.specs.declared.table.NodeTable.{NodeTable}
use Rattle.yaml_tree.specs.declared.table_loading.Grower.{Grower}
use Rattle.yaml_tree.specs.declared.tally.Limits.{Limits}
use Rattle.yaml_tree.specs.Counting.{StayWithin, counts_behind_all, no_nodes}
use Rattle.yaml_tree.specs.TallySeen.{counts_of}
use Rattle.yaml_tree.specs.GrowerSeen.{HasGrown, HasNoneOpen}
use Rattle.yaml_tree.specs.Loading.{Forbids, TakesComing}
use Rattle.yaml_tree.specs.Tables.{Event, IsTable}

-- the grower has taken exactly these events
pub record HasGrownWithin (limits : Limits) (es : List Event) (g : Grower) : Type 0 where
  pub same_limits : g.tally.limits ≡ limits
  pub counted : counts_of g.tally ≡ counts_behind_all (happenings es) no_nodes
  pub within : StayWithin limits (happenings es) no_nodes
  pub grown : HasGrown es g.growth

-- these events are taken, or the last of them can't be; a grower doesn't ask how they nest
abbrev pub GrowsByLast : Result (Unit {0}) TreeFault → Limits → List Event → Marker → Grower → Type 0
GrowsByLast (Ok u) limits es place new = HasGrownWithin limits es new
GrowsByLast (Err f) limits es place new = Forbids ⊥ f limits (happenings es) place

-- what a grower takes of all that is still to come
abbrev pub GrowsByEvents : Bool → Limits → Result Bool TreeFault → Answer → Answer → Grower → Type 0
GrowsByEvents wanted limits r all left g =
    TakesComing wanted (λ es. HasGrownWithin limits es g × HasNoneOpen g.growth)
    (λ es. HasGrownWithin limits es g) ⊥ limits r all left

-- no document is open, and the table is whole
abbrev pub FinishesTable : List Event → Result NodeTable TreeFault → Type 0
FinishesTable es (Ok t) = IsTable es t
FinishesTable es (Err fault.OutOfMemory) = (inner : List Event) × (last : Event) × (es ≡ inner ++ last ∷ [])
FinishesTable es (Err _) = ⊥
