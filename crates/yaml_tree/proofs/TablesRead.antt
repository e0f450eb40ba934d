-- A grower takes events, all or up to the end of a document, and what calls answer.
use Rattle.std.proofs.Common.{◌≡◌, ◌<◌, ◌∷◌, ◌++◌, ◌∙◌, List, [], Bool, true, false, true≢false, Ok, Err, Result, Option, Some, None, refl, sym, ap, subst, append_assoc}
use Rattle.saphyr_scalar.specs.declared.scalar.position.Marker.{Marker}
use Rattle.saphyr_parser.specs.Events.{Happening}
use Rattle.saphyr_parser.specs.Answer.{Answer, OutOfMemory, fault_alone}
use Rattle.saphyr_parser.specs.Cursor.{EventCursor, Stays, count, to_come}
use Rattle.saphyr_parser.specs.Calls.{Looks}
use Rattle.saphyr_parser.specs.Nesting.{happenings, IsAtStart}
use Rattle.yaml_tree.specs.declared.fault.TreeFault.{TreeFault}
use Rattle.yaml_tree.specs.declared.fault.TreeFault.TheVariants as fault
use Rattle.yaml_tree.specs.declared.table.NodeTable.{NodeTable}
use Rattle.yaml_tree.specs.declared.table_loading.Grower.{Grower}
use Rattle.yaml_tree.specs.declared.tally.Limits.{Limits}
use Rattle.yaml_tree.specs.Counting.{Counts, Fits, StayWithin, counts_behind, counts_behind_all, no_nodes}
use Rattle.yaml_tree.specs.DocumentLoading.{ComesBetweenDocuments}
use Rattle.yaml_tree.specs.GrowerSeen.{AddsEvent, HasNoneOpen}
use Rattle.yaml_tree.specs.Leaving.{LeavesFrom, LeavesParser}
use Rattle.yaml_tree.specs.Loading.{TakesToEnd}
use Rattle.yaml_tree.specs.TableLoading.{LoadsNextTable, LoadsTable, PassesNoTable, PassesTable}
use Rattle.yaml_tree.specs.Tables.{Event}
use Rattle.yaml_tree.specs.TableSeen.{FinishesTable, GrowsByEvents, HasGrownWithin}
use Rattle.yaml_tree.specs.TallySeen.{Tallies, counts_of}
use Rattle.yaml_tree.proofs.DocumentRead.{fails_lost, never_stops}
use Rattle.yaml_tree.proofs.Growths.{between_first, grown_table}
use Rattle.yaml_tree.proofs.LastItems.{nothing_before}
use Rattle.yaml_tree.proofs.Loads.{behind_look, some_fault}
use Rattle.yaml_tree.proofs.Taking.{counts_more, happenings-append, within_more}

pub takes : (limits : Limits) (es : List Event) (x : Event) (place : Marker) (old new : Grower)
    → HasGrownWithin limits es old
    → Tallies (Ok tt) (counts_behind x.0 (counts_of old.tally)) place old.tally new.tally
    → AddsEvent x old.growth new.growth → HasGrownWithin limits (es ++ x ∷ []) new
takes limits es x place old new t c adds = record {
  same_limits = c.0 ∙ t.same_limits;
  counted = c.1 ∙ counts_more limits es x old.tally t.same_limits t.counted;
  within = within_more limits es x old.tally t.same_limits t.counted t.within c.2;
  grown = adds es t.grown;
}

-- ## A table is finished

last_of : (e : Event) (es : List Event) → (inner : List Event) × (last : Event) × ((e ∷ es) ≡ inner ++ last ∷ [])
last_of e [] = ([], e, refl)
last_of e (f ∷ es) = let rest = last_of f es in (e ∷ rest.0, rest.1, ap (λ (l : List Event). e ∷ l) rest.2)

pub not_finished : (limits : Limits) (es : List Event) (g : Grower) → HasGrownWithin limits es g
    → (HasNoneOpen g.growth → ⊥) → FinishesTable es (Err fault.OutOfMemory)
not_finished limits [] g t n = absurd (n (between_first g.growth t.grown))
not_finished limits (e ∷ es) g t n = last_of e es

-- ## All documents

within_last : (limits : Limits) (hs : List Happening) (h : Happening) (c : Counts)
    → StayWithin limits (hs ++ h ∷ []) c
    → StayWithin limits hs c × Fits limits (counts_behind_all (hs ++ h ∷ []) c)
within_last limits [] h c w = (tt, w.0)
within_last limits (x ∷ xs) h c w =
    let rest = within_last limits xs h (counts_behind x c) w.1 in ((w.0, rest.0), rest.1)

-- where all events are wanted no document's end is the last
pub takes_all : (limits : Limits) (ended : Bool) (all left : Answer) (g : Grower)
    → GrowsByEvents true limits (Ok ended) all left g → ended ≡ false
takes_all limits true all left g t = absurd (true≢false t.0)
takes_all limits false all left g t = refl

-- all events were taken, and the table is finished
pub loads_all : (limits : Limits) (all left : Answer) (g : Grower) (r : Result NodeTable TreeFault) → IsAtStart all
    → GrowsByEvents true limits (Ok false) all left g → FinishesTable all.events r → LoadsTable limits r all left
loads_all limits all left g (Ok table) start t is = (start, is, t.fault, t.holds.1.within, t.nothing)
loads_all limits all left g (Err fault.OutOfMemory) start t (inner, last, is) =
    let within = within_last limits (happenings inner) last.0 no_nodes
    (subst (λ (hs : List Happening). StayWithin limits hs no_nodes)
    (ap happenings is ∙ happenings-append inner (last ∷ [])) t.holds.1.within) in (
      start,
      record {
        taken = inner;
        event = last;
        split = is ∙ ap (λ (x : Answer). inner ++ (last ∷ x.events)) (sym t.nothing);
        fault = t.fault ∙ ap (λ (x : Answer). x.fault) (sym t.nothing);
        inside = tt;
        within = within.0;
        why = within.1;
      },
    )
loads_all limits all left g (Err _) start t is = absurd is

-- no call of a grower says that the parser isn't fresh
pub loads_none : (limits : Limits) (all left : Answer) (g : Grower) (f : TreeFault) → IsAtStart all
    → GrowsByEvents true limits (Err f) all left g → LoadsTable limits (Err f) all left
loads_none limits all left g fault.NotFresh start h = absurd h
loads_none limits all left g (fault.Parse f) start h = h
loads_none limits all left g _ start h = (start, h)

pub loads_behind : (limits : Limits) (all mid left : Answer) (r : Result NodeTable TreeFault) → Stays all mid
    → LoadsTable limits r mid left → LoadsTable limits r all left
loads_behind limits all mid left r stays = behind_look (λ a. LoadsTable limits r a left) all mid stays (lost r)
  where
    lost : (s : Result NodeTable TreeFault) → 0 < count all → LoadsTable limits s (fault_alone OutOfMemory) left
        → LoadsTable limits s all left
    lost (Ok t) some l = absurd (some_fault OutOfMemory l.2)
    lost (Err fault.NotFresh) some l = absurd (l.0 tt)
    lost (Err (fault.Parse f)) some l = fails_lost true f limits all left some l
    lost (Err f) some l = absurd (never_stops true f limits left l.1)

pub leaves_done : (es : List Event) (r : Result NodeTable TreeFault) (old looked new : EventCursor)
    → Looks old looked → LeavesFrom {X = Bool} (Ok false) looked new → FinishesTable es r → LeavesParser r old new
leaves_done es (Ok t) old looked new l h f = record { looked = looked; looks = l; leaves = h }
leaves_done es (Err fault.OutOfMemory) old looked new l h f =
    record { looked = looked; looks = l; leaves = record { handed = (to_come looked).events; over = h.0 } }
leaves_done es (Err _) old looked new l h f = absurd f

-- ## The next document

pub passes_table : (limits : Limits) (all left : Answer) (g : Grower)
    → GrowsByEvents false limits (Ok true) all left g → PassesTable limits g.growth.table all left
passes_table limits all left g (off, t) = record {
  taken = t.taken;
  inner = t.inner;
  last = t.last;
  split = t.split;
  fault = t.fault;
  up_to = t.up_to;
  ends = t.ends;
  inside = t.inside;
  holds = (t.holds.0.within, grown_table t.taken g.growth t.holds.1.levels t.holds.0.grown);
}

pub passes_none : (limits : Limits) (all left : Answer) (g : Grower)
    → GrowsByEvents false limits (Ok false) all left g → PassesNoTable all left
passes_none limits all left g t = record { fault = t.fault; nothing = t.nothing; holds = t.holds.0 }

pub fails_next : (limits : Limits) (all left : Answer) (g : Grower) (f : TreeFault) → ComesBetweenDocuments all
    → GrowsByEvents false limits (Err f) all left g → LoadsNextTable limits (Err f) all left
fails_next limits all left g fault.NotFresh between h = absurd h
fails_next limits all left g (fault.Parse f) between h = h
fails_next limits all left g _ between h = (between, h)

never_ends : (Holds : List Event → Type 0) (left : Answer) → TakesToEnd Holds (fault_alone OutOfMemory) left → ⊥
never_ends Holds left t = nothing_before t.inner left.events t.last
    (t.split ∙ ap (λ (es : List Event). es ++ left.events) t.up_to ∙ append_assoc t.inner (t.last ∷ []) left.events)

pub next_behind : (limits : Limits) (all mid left : Answer) (r : Result (Option NodeTable) TreeFault) → Stays all mid
    → LoadsNextTable limits r mid left → LoadsNextTable limits r all left
next_behind limits all mid left r stays = behind_look (λ a. LoadsNextTable limits r a left) all mid stays (lost r)
  where
    lost : (s : Result (Option NodeTable) TreeFault) → 0 < count all
        → LoadsNextTable limits s (fault_alone OutOfMemory) left → LoadsNextTable limits s all left
    lost (Ok (Some t)) some l = absurd (never_ends _ left l.1)
    lost (Ok None) some l = absurd (some_fault OutOfMemory l.1.fault)
    lost (Err fault.NotFresh) some l = absurd (l.0 tt)
    lost (Err (fault.Parse f)) some l = fails_lost false f limits all left some l
    lost (Err f) some l = absurd (never_stops false f limits left l.1)
