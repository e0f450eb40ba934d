-- Which parser loading leaves: event after event was handed out.
use Rattle.std.proofs.Common.{◌≡◌, ◌<◌, ◌++◌, List, [], ◌∷◌, Bool, false, Result, Ok, Err, Vec, Global, refl, sym, ap, subst, ◌∙◌, append-nil, arith, inr}
use Rattle.saphyr_scalar.specs.declared.scalar.position.Marker.{Marker}
use Rattle.saphyr_scalar.specs.declared.scalar.position.Span.{Span}
use Rattle.saphyr_parser.specs.Events.{Happening}
use Rattle.saphyr_parser.specs.Answer.{Answer, empty_answer, with_first_event}
use Rattle.saphyr_parser.specs.Cursor.{EventCursor, count, to_come}
use Rattle.saphyr_parser.specs.Calls.{Advances, AdvancesOver, IsOver, Looks}
use Rattle.yaml_tree.specs.declared.fault.TreeFault.{TreeFault}
use Rattle.yaml_tree.specs.declared.fault.TreeFault.TheVariants as fault
use Rattle.yaml_tree.specs.declared.tally.Limits.{Limits}
use Rattle.yaml_tree.specs.declared.document.Document.{Document}
use Rattle.yaml_tree.specs.declared.builder.Builder.{Builder}
use Rattle.yaml_tree.specs.BuilderSeen.{Finishes}
use Rattle.saphyr_parser.specs.Nesting.{IsAtStart}
use Rattle.yaml_tree.specs.DocumentSeen.{LeavesPart}
use Rattle.yaml_tree.specs.Loading.{Forbids}
use Rattle.yaml_tree.specs.Tables.{Event}
use Rattle.yaml_tree.specs.Leaving.{HasHandedOut, LeavesFrom, LeavesParser}

-- What the parser's law `hands_out_what_comes` says of events that were handed out, and of the end.
abbrev pub Splits : Type 0
Splits = (es : List (Happening × Span)) (old new : EventCursor) → AdvancesOver es old new
    → ((to_come old).events ≡ es ++ (to_come new).events) × ((to_come old).fault ≡ (to_come new).fault)

abbrev pub HasNoMore : Type 0
HasNoMore = (c : EventCursor) → IsOver c → to_come c ≡ empty_answer

pub over_both : (es fs : List (Happening × Span)) (a b c : EventCursor) → AdvancesOver es a b → AdvancesOver fs b c
    → AdvancesOver (es ++ fs) a c
over_both [] fs a b c same others = subst (λ (x : EventCursor). AdvancesOver fs x c) same others
over_both (e ∷ es) fs a b c (m, first, more) others = (m, first, over_both es fs m b c more others)

pub hands_none : (c : EventCursor) → HasHandedOut c c
hands_none c = record { handed = []; over = refl }

pub hands_more : (a b c : EventCursor) (e : Happening × Span) → HasHandedOut a b → Advances e b c → HasHandedOut a c
hands_more a b c e h next =
    record { handed = h.handed ++ (e ∷ []); over = over_both h.handed (e ∷ []) a b c h.over (c, next, refl) }

pub leaves_all : {X : Type 0} (x : X) (a b c : EventCursor) → Splits → HasNoMore → HasHandedOut a b
    → IsOver b × (c ≡ b) → LeavesFrom {X = X} (Ok x) a c
leaves_all x a b c splits none h (over, same) =
    let all : (to_come a).events ≡ h.handed = (splits h.handed a b h.over).0
    ∙ ap (λ (y : Answer). h.handed ++ y.events) (none b over) ∙ append-nil h.handed in
    subst (λ (y : EventCursor). AdvancesOver (to_come a).events a y × IsOver y) (sym same)
    (subst (λ (l : List (Happening × Span)). AdvancesOver l a b) (sym all) h.over, over)

-- an event was handed out and not taken
pub leaves_at : (Ill : Type 0) (f : TreeFault) (limits : Limits) (hs : List Happening) (place : Marker)
    (a b : EventCursor) → Forbids Ill f limits hs place → HasHandedOut a b → LeavesPart (Err f) a b
leaves_at Ill (fault.Parse f) limits hs place a b w h = absurd w
leaves_at Ill _ limits hs place a b w h = h

pub leaves_looked : (X Y : Type 0) (f : TreeFault) (old looked new : EventCursor) → Looks old looked
    → IsAtStart (to_come looked) → LeavesFrom {X = X} (Err f) looked new → LeavesParser {X = Y} (Err f) old new
leaves_looked X Y fault.NotFresh old looked new l s h = record { looked = looked; looks = l; leaves = inr (s, h) }
leaves_looked X Y _ old looked new l s h = record { looked = looked; looks = l; leaves = h }

-- all events were taken, and the documents are finished
pub leaves_behind : (r : Result (Vec Document Global) TreeFault) (b : Builder) (old looked new : EventCursor)
    → Looks old looked → IsAtStart (to_come looked) → LeavesFrom {X = Bool} (Ok false) looked new → Finishes r b
    → LeavesParser r old new
leaves_behind (Ok documents) b old looked new l s h f = record { looked = looked; looks = l; leaves = h }
leaves_behind (Err fault.NotFresh) b old looked new l s h f =
    record { looked = looked; looks = l; leaves = inr (s, record { handed = (to_come looked).events; over = h.0 }) }
leaves_behind (Err _) b old looked new l s h f = absurd f

-- after an event less is left
pub less_behind : (e : Event) (a b : Answer) → a ≡ with_first_event e b → count b < count a
less_behind e a b same = rw same (omega arith)
