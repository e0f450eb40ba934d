-- The path to where a walk is.
use Rattle.std.proofs.Common.{◌≡◌, ℕ, suc, ◌-◌, List, [], ◌∷◌, ◌++◌, length, drop, Option, Some, None, option_map, Result, Ok, Err, IfOk, OnOk, Vec, Global, refl, sym, ap, subst, ◌∙◌, append_assoc, append-nil, arith, length-append, rules}
use Rattle.std.specs.Prelude.{slice_get}
use Rattle.std.specs.Option.{option_and_then, unwrap_or}
use Rattle.std.specs.List.{flat_map}
use Rattle.std.specs.Borrow.{Bor}
use Rattle.std.specs.declared.alloc.AllocError.{AllocError}
use Rattle.std.proofs.lemmas.Grind.{flat_map-append}
use Rattle.saphyr_parser.specs.Types.Tag.{Tag}
use Rattle.saphyr_parser.specs.Events.{Happening, SequenceEnd, MappingEnd}
use Rattle.yaml_tree.specs.declared.node.Node.{Node, Seq, Map, the_lemmas}
use Rattle.yaml_tree.specs.declared.paths.Step.{Step}
use Rattle.yaml_tree.specs.declared.paths.Step.TheVariants.{Index, Key, Value}
use Rattle.yaml_tree.specs.declared.walk.Rest.{Rest}
use Rattle.yaml_tree.specs.declared.walk.Rest.TheVariants as rest
use Rattle.yaml_tree.specs.declared.walk.Turn.{Turn}
use Rattle.yaml_tree.specs.declared.walk.Turn.TheVariants.{Enter, Leave, Over}
use Rattle.yaml_tree.specs.declared.walk.Walk.{Walk}
use Rattle.yaml_tree.specs.Accessing.{items_of_node, pairs_of_node}
use Rattle.yaml_tree.specs.Unloading.{node_events, pair_events}
use Rattle.yaml_tree.specs.Following.{part_at, parts_behind, value_events, follow, behind_step, behind_path, LeadsTo}
use Rattle.yaml_tree.specs.Walking.{rest_events, frames_events, to_visit, last_step, step_in, path_of, IsRestOf, BeganLast, LeadDown, IsLevel, StandBelow, HasRoot, IsWalkOf, Enters, TurnsWithin}
use Rattle.yaml_tree.proofs.LastItems.{get_seam, same_last}

-- ## Levels

innermost : (rests : List Rest) (r : Rest) (root last : Node) → LeadDown last (rests ++ r ∷ []) root
    → IsLevel rests r root
innermost [] r root last (left, part, began, e) = record { node = root; leads = refl; left = left }
innermost (q ∷ rests) r root last (left, part, began, leads) =
    let inner = innermost rests r part last leads in
    record { node = inner.node; leads = (left, part, began, inner.leads); left = inner.left }

leads_on : (rests : List Rest) (r : Rest) (root node last : Node) → LeadDown node rests root → IsRestOf r node
    → BeganLast r node last → LeadDown last (rests ++ r ∷ []) root
leads_on [] r root node last e left began =
    subst (λ (n : Node). LeadDown last (r ∷ []) n) (sym e) (left, last, began, refl)
leads_on (q ∷ rests) r root node last (other, part, first, leads) left began =
    (other, part, first, leads_on rests r part node last leads left began)

pub stands_below : (levels : List Rest) (root last : Node) → LeadDown last levels root → StandBelow levels root
stands_below levels root last leads rests r e =
    innermost rests r root last (subst (λ (l : List Rest). LeadDown last l root) e leads)

-- ## The path

path_leads : (rests : List Rest) (root last : Node) → LeadDown last rests root
    → (follow (flat_map step_in rests) root ≡ Some last)
    × (frames_events rests ≡ behind_path (flat_map step_in rests) root)
path_leads [] root last e = (ap (λ (n : Node). Some n) e, refl)
path_leads (r ∷ rests) root last (left, part, began, leads) =
    let steps = flat_map step_in rests in
    let inner = path_leads rests part last leads in
    let own = ap (λ (l : List Step). l ++ steps) began.is in (
      ap (λ (l : List Step). follow l root) own ∙ ap (option_and_then (follow steps)) began.leads ∙ inner.0,
      ap (λ (l : List Happening). l ++ rest_events r) inner.1
          ∙ ap (λ (l : List Happening). behind_path steps part ++ l) began.behind
          ∙ sym (ap (λ (l : List Step). behind_path l root) own
          ∙ ap (λ (o : Option Node). unwrap_or (option_map (behind_path steps) o) [] ++ behind_step began.step root)
          began.leads),
    )

-- ## The parts of a collection

parts_there : {X : Type 0} (passed : List X) (x : X) (others : List X)
    → drop (suc (length passed)) (passed ++ x ∷ others) ≡ others
parts_there [] x others = refl
parts_there (p ∷ passed) x others = parts_there passed x others

at_part : {X : Type 0} (parts : Option (List X)) (all passed : List X) (x : X) (others : List X) → parts ≡ Some all
    → all ≡ passed ++ x ∷ others → part_at (length passed) parts ≡ Some x
at_part parts all passed x others is e = ap (part_at (length passed)) is
    ∙ ap (λ l. slice_get l (length passed)) e ∙ get_seam passed x others

behind_part : {X : Type 0} (parts : Option (List X)) (all passed : List X) (x : X) (others : List X)
    → parts ≡ Some all → all ≡ passed ++ x ∷ others → parts_behind (length passed) parts ≡ others
behind_part parts all passed x others is e = ap (parts_behind (length passed)) is
    ∙ ap (λ l. drop (suc (length passed)) l) e ∙ parts_there passed x others

one_step : {X : Type 0} (step : ℕ → Step) (all passed : List X) (x : X) (others : List X)
    → all ≡ passed ++ x ∷ others → last_step step (length all - length others) ≡ step (length passed) ∷ []
one_step step all passed x others e =
    let count : length all - length others ≡ suc (length passed) =
    omega (arith, ap length e, length-append passed (x ∷ others)) in
    ap (last_step step) count

passed_more : {X : Type 0} (all passed left : List X) (x : X) (others : List X) → all ≡ passed ++ left
    → left ≡ x ∷ others → all ≡ (passed ++ x ∷ []) ++ others
passed_more all passed left x others e f =
    e ∙ ap (λ l. passed ++ l) f ∙ sym (append_assoc passed (x ∷ []) others)

-- the part that comes next begins
abbrev Begins : Rest → Node → Node → Type 0
Begins r node part = IsRestOf r node × BeganLast r node part

pub begins_item : (all left others : Bor (List Node)) (node item : Node) → IsRestOf (rest.Items all left) node
    → left.now ≡ item ∷ others.now → Begins (rest.Items all others) node item
begins_item all left others node item (is, passed, e) f =
    let split = e ∙ ap (λ (l : List Node). passed ++ l) f in (
      (is, passed ++ item ∷ [], passed_more all.now passed left.now item others.now e f),
      record {
        step = Index (length passed);
        is = one_step Index all.now passed item others.now split;
        leads = at_part (items_of_node node) all.now passed item others.now is split;
        behind = ap (λ (l : List Node). flat_map node_events l ++ SequenceEnd ∷ [])
            (sym (behind_part (items_of_node node) all.now passed item others.now is split));
      },
    )

pair_end : List (Node × Node) → List Happening
pair_end pairs = flat_map pair_events pairs ++ MappingEnd ∷ []

pub begins_key : (all left others : Bor (List (Node × Node))) (value : Bor Node) (node : Node) (pair : Node × Node)
    → IsRestOf (rest.Pairs all left) node → left.now ≡ pair ∷ others.now → value.now ≡ pair.1
    → Begins (rest.Value value all others) node pair.0
unfolding pair_end
begins_key all left others value node pair (is, passed, e) f v =
    let split = e ∙ ap (λ (l : List (Node × Node)). passed ++ l) f in
    let at = at_part (pairs_of_node node) all.now passed pair others.now is split in (
      (is, passed, pair.0, split ∙ ap (λ (n : Node). passed ++ (pair.0, n) ∷ others.now) (sym v)),
      record {
        step = Key (length passed);
        is = one_step Key all.now passed pair others.now split;
        leads = ap (option_map (λ (p : Node × Node). p.0)) at;
        behind = ap (λ (n : Node). node_events n ++ pair_end others.now) v
            ∙ ap (λ (o : Option (Node × Node)). value_events o ++ pair_end others.now) (sym at)
            ∙ ap (λ (l : List (Node × Node)). value_events (part_at (length passed) (pairs_of_node node)) ++ pair_end l)
            (sym (behind_part (pairs_of_node node) all.now passed pair others.now is split));
      },
    )

pub begins_value : (all others : Bor (List (Node × Node))) (value : Bor Node) (node : Node)
    → IsRestOf (rest.Value value all others) node → Begins (rest.Pairs all others) node value.now
unfolding pair_end
begins_value all others value node (is, passed, key, e) =
    let pair : Node × Node = (key, value.now) in (
      (is, passed ++ pair ∷ [], e ∙ sym (append_assoc passed (pair ∷ []) others.now)),
      record {
        step = Value (length passed);
        is = one_step Value all.now passed pair others.now e;
        leads = ap (option_map (λ (p : Node × Node). p.1))
            (at_part (pairs_of_node node) all.now passed pair others.now is e);
        behind = ap pair_end (sym (behind_part (pairs_of_node node) all.now passed pair others.now is e));
      },
    )

-- ## A node begins

none_passed : {X : Type 0} (step : ℕ → Step) (xs : List X) → last_step step (length xs - length xs) ≡ []
none_passed step xs = let same : length xs - length xs ≡ 0 = omega arith in ap (last_step step) same

same_path : (rests more : List Rest) (r : Rest) → more ≡ rests ++ r ∷ [] → step_in r ≡ []
    → flat_map step_in more ≡ flat_map step_in rests
same_path rests more r e none = ap (flat_map step_in) e ∙ flat_map-append step_in rests (r ∷ [])
    ∙ ap (λ (l : List Step). flat_map step_in rests ++ (l ++ [])) none ∙ append-nil (flat_map step_in rests)

level_below : (node : Node) (rests more : List Rest) (r : Rest) (root : Node) → more ≡ rests ++ r ∷ []
    → IsRestOf r node → LeadDown node rests root → StandBelow more root
level_below node rests more r root e left leads outer s f =
    let same = same_last rests outer r s (sym e ∙ f) in
    record {
      node = node;
      leads = subst (λ (l : List Rest). LeadDown node l root) same.0 leads;
      left = subst (λ (t : Rest). IsRestOf t node) same.1 left;
    }

items-Seq : (id : ℕ) (tag : Option Tag) (v : Vec Node Global) → items_of_node (Seq id tag v) ≡ Some v.items
items-Seq id tag v = search (rules, the_lemmas)

pairs-Map : (id : ℕ) (tag : Option Tag) (v : Vec (Node × Node) Global) → pairs_of_node (Map id tag v) ≡ Some v.items
pairs-Map id tag v = search (rules, the_lemmas)

pub sequence_below : (node : Node) (id : ℕ) (tag : Option Tag) (v : Vec Node Global) (all : Bor (List Node))
    (rests more : List Rest) → node ≡ Seq id tag v → all.now ≡ v.items → more ≡ rests ++ rest.Items all all ∷ []
    → (root : Node) → LeadDown node rests root → StandBelow more root
sequence_below node id tag v all rests more is same e root = level_below node rests more (rest.Items all all) root e
    (ap items_of_node is ∙ items-Seq id tag v ∙ ap (λ (l : List Node). Some l) (sym same), [], refl)

pub mapping_below : (node : Node) (id : ℕ) (tag : Option Tag) (v : Vec (Node × Node) Global)
    (all : Bor (List (Node × Node))) (rests more : List Rest) → node ≡ Map id tag v → all.now ≡ v.items
    → more ≡ rests ++ rest.Pairs all all ∷ [] → (root : Node) → LeadDown node rests root → StandBelow more root
mapping_below node id tag v all rests more is same e root = level_below node rests more (rest.Pairs all all) root e
    (ap pairs_of_node is ∙ pairs-Map id tag v ∙ ap (λ (l : List (Node × Node)). Some l) (sym same), [], refl)

pub sequence_path : (all : Bor (List Node)) (rests more : List Rest) → more ≡ rests ++ rest.Items all all ∷ []
    → flat_map step_in more ≡ flat_map step_in rests
sequence_path all rests more e = same_path rests more (rest.Items all all) e (none_passed Index all.now)

pub mapping_path : (all : Bor (List (Node × Node))) (rests more : List Rest) → more ≡ rests ++ rest.Pairs all all ∷ []
    → flat_map step_in more ≡ flat_map step_in rests
mapping_path all rests more e = same_path rests more (rest.Pairs all all) e (none_passed Value all.now)

-- ## A turn

below_root : (o : Option (Bor Node)) (levels : List Rest) (root : Node) → HasRoot o levels root → o ≡ None
    → StandBelow levels root
below_root o levels root h none = subst (λ (p : Option (Bor Node)). HasRoot p levels root) none h

stands_walk : (w : Walk) (root : Node) → w.root ≡ None → StandBelow w.levels.items root → IsWalkOf root w
stands_walk w root none below = subst (λ (o : Option (Bor Node)). HasRoot o w.levels.items root) (sym none) below

pub opens : (old : Walk) (rests mid : List Rest) (r t : Rest) (part : Node) → old.root ≡ None
    → old.levels.items ≡ rests ++ r ∷ [] → mid ≡ rests ++ t ∷ []
    → ((node : Node) → IsRestOf r node → Begins t node part)
    → (root : Node) → IsWalkOf root old → LeadDown part mid root
opens old rests mid r t part none e f begins root h =
    let inner = below_root old.root old.levels.items root h none rests r e in
    let next = begins inner.node inner.left in
    subst (λ (l : List Rest). LeadDown part l root) (sym f)
    (leads_on rests t root inner.node part inner.leads next.0 next.1)

pub begins_root : (old : Walk) (top : Bor Node) → old.root ≡ Some top → (root : Node) → IsWalkOf root old
    → LeadDown top.now old.levels.items root
begins_root old top some root h =
    let first = subst (λ (o : Option (Bor Node)). HasRoot o old.levels.items root) some h in
    subst (λ (l : List Rest). LeadDown top.now l root) (sym first.1) (sym first.0)

leads_to : (mid : List Rest) (path : List Step) (part node root : Node) (events : List Happening)
    → LeadDown part mid root → path ≡ flat_map step_in mid → node ≡ part
    → events ≡ node_events part ++ frames_events mid → LeadsTo path root node events
leads_to mid path part node root events leads same is e =
    let inner = path_leads mid root part leads in
    record {
      there = ap (λ (l : List Step). follow l root) same ∙ inner.0 ∙ ap (λ (n : Node). Some n) (sym is);
      place = e ∙ ap (λ (l : List Happening). node_events part ++ l) inner.1
          ∙ ap (λ (n : Node). node_events n ++ behind_path (flat_map step_in mid) root) (sym is)
          ∙ ap (λ (l : List Step). node_events node ++ behind_path l root) (sym same);
    }

-- a node begins, to which the levels lead
pub enters_within : (result : Result Turn AllocError) (old new : Walk) (part : Node) (mid : List Rest)
    (behind ahead : List Happening) (depth : ℕ) → ((root : Node) → IsWalkOf root old → LeadDown part mid root)
    → IfOk result (λ t. Enters t part behind ahead depth)
    → OnOk result ((root : Node) → LeadDown part mid root → StandBelow new.levels.items root)
    → OnOk result (path_of new ≡ flat_map step_in mid) → new.root ≡ None
    → to_visit old ≡ node_events part ++ frames_events mid
    → IfOk result (λ t. (root : Node) → IsWalkOf root old → TurnsWithin root t (to_visit old) new)
enters_within (Ok (Enter entered depth)) old new part mid behind ahead around before h below path none e = λ root of. (
  stands_walk new root none (below root (before root of)),
  leads_to mid (path_of new) part entered.now root (to_visit old) (before root of) path h.0 e,
)
enters_within (Ok Leave) old new part mid behind ahead around before h below path none e = absurd h
enters_within (Ok Over) old new part mid behind ahead around before h below path none e = absurd h
enters_within (Err f) old new part mid behind ahead around before h below path none e = tt

-- a collection ends
pub leaves_within : (old new : Walk) (r : Rest) → old.root ≡ None → new.root ≡ None
    → old.levels.items ≡ new.levels.items ++ r ∷ [] → (root : Node) → IsWalkOf root old → IsWalkOf root new
leaves_within old new r none none_new e root h =
    let inner = below_root old.root old.levels.items root h none new.levels.items r e in
    stands_walk new root none_new (stands_below new.levels.items root inner.node inner.leads)
