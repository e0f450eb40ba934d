-- The steps of a walk.
use Rattle.std.proofs.Common.{◌≡◌, ℕ, ◌+◌, List, [], ◌∷◌, ◌++◌, length, zip, Option, Some, None, option_map, Result, Ok, Err, IfOk, Vec, String, Global, refl, sym, ap, subst, ◌∙◌, append_assoc, append-nil, arith, rules}
use Rattle.std.specs.List.{flat_map}
use Rattle.std.specs.Borrow.{Bor}
use Rattle.std.specs.declared.alloc.AllocError.{AllocError}
use Rattle.saphyr_scalar.specs.declared.scalar.position.Span.{Span}
use Rattle.saphyr_scalar.specs.declared.scalar.style.ScalarStyle.{ScalarStyle}
use Rattle.saphyr_parser.specs.Types.Tag.{Tag}
use Rattle.saphyr_parser.specs.Events as events
use Rattle.saphyr_parser.specs.Events.{Happening, SequenceStart, SequenceEnd, MappingStart, MappingEnd}
use Rattle.saphyr_parser.specs.Nesting.{happenings}
use Rattle.saphyr_parser.specs.Views.Events.{resolved_tag}
use Rattle.std.specs.Prelude.{string_bytes}
use Rattle.yaml_tree.specs.declared.node.Node.{Node, Alias, Scalar, Seq, Map, the_lemmas}
use Rattle.yaml_tree.specs.declared.walk.Rest.{Rest}
use Rattle.yaml_tree.specs.declared.walk.Rest.TheVariants.{Items, Pairs}
use Rattle.yaml_tree.specs.declared.walk.Turn.{Turn}
use Rattle.yaml_tree.specs.declared.walk.Turn.TheVariants.{Enter, Leave, Over}
use Rattle.yaml_tree.specs.declared.walk.Visit.{Visit}
use Rattle.yaml_tree.specs.declared.walk.Walk.{Walk}
use Rattle.yaml_tree.specs.Unloading.{node_events, pair_events}
use Rattle.yaml_tree.specs.Walking.{IsCollectionEnd, AreCollectionEnds, BeginsNode, root_events, rest_events, frames_events, to_visit, left_to_visit, openings, Turns, Enters, Visits, IsWalkOf, path_of}
use Rattle.yaml_tree.specs.Following.{LeadsTo}
use Rattle.yaml_tree.proofs.Taking.{happenings-append}
use Rattle.yaml_tree.proofs.Unloads.{node_events-Seq, node_events-Map}
use Rattle.yaml_tree.proofs.Balance.{ends_frames}

-- ## Levels

frames_push : (rests : List Rest) (r : Rest) → frames_events (rests ++ r ∷ []) ≡ rest_events r ++ frames_events rests
frames_push [] r = sym (append-nil (rest_events r))
frames_push (q ∷ rests) r = ap (λ (l : List Happening). l ++ rest_events q) (frames_push rests r)
    ∙ append_assoc (rest_events r) (frames_events rests) (rest_events q)

pub pushed : (rests more : List Rest) (r : Rest) → more ≡ rests ++ r ∷ []
    → frames_events more ≡ rest_events r ++ frames_events rests
pushed rests more r e = ap frames_events e ∙ frames_push rests r

-- ## A node begins

abbrev Begins : Node → List Happening → List Happening → Type 0
Begins node old new = (start : Happening) × (node_events node ++ old ≡ start ∷ new)

pub events-Alias : (id : ℕ) → node_events (Alias id) ≡ events.Alias id ∷ []
events-Alias id = search (rules, the_lemmas)

pub events-Scalar : (text : String Global) (style : ScalarStyle) (id : ℕ) (tag : Option Tag)
    → node_events (Scalar text style id tag)
    ≡ events.Scalar (string_bytes text) style id (option_map resolved_tag tag) ∷ []
events-Scalar text style id tag = search (rules, the_lemmas)

pub begins_alias : (node : Node) (id : ℕ) (old : List Happening) → node ≡ Alias id → Begins node old old
begins_alias node id old is =
    (events.Alias id, ap (λ (l : List Happening). l ++ old) (ap node_events is ∙ events-Alias id))

pub begins_scalar : (node : Node) (text : String Global) (style : ScalarStyle) (id : ℕ) (tag : Option Tag)
    (old : List Happening) → node ≡ Scalar text style id tag → Begins node old old
begins_scalar node text style id tag old is = (
  events.Scalar (string_bytes text) style id (option_map resolved_tag tag),
  ap (λ (l : List Happening). l ++ old) (ap node_events is ∙ events-Scalar text style id tag),
)

begins : (node : Node) (start : Happening) (inner : List Happening) (rests more : List Rest) (r : Rest)
    → node_events node ≡ start ∷ inner → rest_events r ≡ inner → more ≡ rests ++ r ∷ []
    → Begins node (frames_events rests) (frames_events more)
begins node start inner rests more r own same e = (
  start,
  ap (λ (l : List Happening). l ++ frames_events rests) own
      ∙ ap (λ (l : List Happening). start ∷ l)
      (ap (λ (l : List Happening). l ++ frames_events rests) (sym same) ∙ sym (pushed rests more r e)),
)

pub begins_sequence : (node : Node) (id : ℕ) (tag : Option Tag) (v : Vec Node Global) (rests more : List Rest)
    (r : Rest) → node ≡ Seq id tag v → rest_events r ≡ flat_map node_events v.items ++ SequenceEnd ∷ []
    → more ≡ rests ++ r ∷ [] → Begins node (frames_events rests) (frames_events more)
begins_sequence node id tag v rests more r is same e =
    begins node (SequenceStart id (option_map resolved_tag tag)) _ rests more r
    (ap node_events is ∙ node_events-Seq id tag v) same e

pub begins_mapping : (node : Node) (id : ℕ) (tag : Option Tag) (v : Vec (Node × Node) Global)
    (rests more : List Rest) (r : Rest) → node ≡ Map id tag v
    → rest_events r ≡ flat_map pair_events v.items ++ MappingEnd ∷ [] → more ≡ rests ++ r ∷ []
    → Begins node (frames_events rests) (frames_events more)
begins_mapping node id tag v rests more r is same e =
    begins node (MappingStart id (option_map resolved_tag tag)) _ rests more r
    (ap node_events is ∙ node_events-Map id tag v) same e

-- ## An event more

enters_turn : (t : Turn) (node : Node) (olds news : List Happening) (rests : List Rest)
    → Enters t node (frames_events rests) news (length rests) → olds ≡ node_events node ++ frames_events rests
    → Turns t olds news
enters_turn (Enter entered depth) node olds news rests h e = record {
  start = h.2;
  next = e ∙ h.3;
  behind = frames_events rests;
  own = e ∙ ap (λ (n : Node). node_events n ++ frames_events rests) (sym h.0);
  around = ends_frames rests ∙ ap (λ n. n + openings (frames_events rests)) (sym h.1);
}
enters_turn Leave node olds news rests h e = absurd h
enters_turn Over node olds news rests h e = absurd h

-- a node begins, which is the next part of what is left
enters : (r : Result Turn AllocError) (node : Node) (olds news : List Happening) (rests : List Rest)
    → IfOk r (λ t. Enters t node (frames_events rests) news (length rests))
    → olds ≡ node_events node ++ frames_events rests → IfOk r (λ t. Turns t olds news)
enters (Ok t) node olds news rests h e = enters_turn t node olds news rests h e
enters (Err f) node olds news rests h e = tt

visits_levels : (w : Walk) → w.root ≡ None → to_visit w ≡ frames_events w.levels.items
visits_levels w e = ap (λ (o : Option (Bor Node)). root_events o ++ frames_events w.levels.items) e

-- what is left of the innermost collection begins with a node
opens : (olds rests more : List Rest) (r s : Rest) (node : Node) → olds ≡ rests ++ r ∷ [] → more ≡ rests ++ s ∷ []
    → rest_events r ≡ node_events node ++ rest_events s
    → frames_events olds ≡ node_events node ++ frames_events more
opens olds rests more r s node e f own = pushed rests olds r e
    ∙ ap (λ (l : List Happening). l ++ frames_events rests) own
    ∙ append_assoc (node_events node) (rest_events s) (frames_events rests)
    ∙ ap (λ (l : List Happening). node_events node ++ l) (sym (pushed rests more s f))

-- what is to be visited begins with a part of the innermost collection
pub comes_next : (old : Walk) (rests mid : List Rest) (r s : Rest) (node : Node) → old.root ≡ None
    → old.levels.items ≡ rests ++ r ∷ [] → mid ≡ rests ++ s ∷ []
    → rest_events r ≡ node_events node ++ rest_events s → to_visit old ≡ node_events node ++ frames_events mid
comes_next old rests mid r s node none e f own =
    visits_levels old none ∙ opens old.levels.items rests mid r s node e f own

pub comes_first : (old : Walk) (root : Bor Node) → old.root ≡ Some root
    → to_visit old ≡ node_events root.now ++ frames_events old.levels.items
comes_first old root some =
    ap (λ (o : Option (Bor Node)). root_events o ++ frames_events old.levels.items) some

pub turn_enters : (result : Result Turn AllocError) (old new : Walk) (rests mid : List Rest) (r s : Rest) (node : Node)
    → old.root ≡ None → new.root ≡ None → old.levels.items ≡ rests ++ r ∷ [] → mid ≡ rests ++ s ∷ []
    → rest_events r ≡ node_events node ++ rest_events s
    → IfOk result (λ t. Enters t node (frames_events mid) (frames_events new.levels.items) (length mid))
    → IfOk result (λ t. Turns t (to_visit old) (to_visit new))
turn_enters result old new rests mid r s node none none_new e f own h =
    enters result node (to_visit old) (to_visit new) mid
    (subst (λ (l : List Happening). IfOk result (λ t. Enters t node (frames_events mid) l (length mid)))
    (sym (visits_levels new none_new)) h)
    (visits_levels old none ∙ opens old.levels.items rests mid r s node e f own)

-- the root begins
pub turn_begins : (result : Result Turn AllocError) (old new : Walk) (root : Bor Node) → old.root ≡ Some root
    → new.root ≡ None → IfOk result (λ t. Enters t root.now (frames_events old.levels.items)
    (frames_events new.levels.items) (length old.levels.items))
    → IfOk result (λ t. Turns t (to_visit old) (to_visit new))
turn_begins result old new root some none_new h = enters result root.now (to_visit old) (to_visit new) old.levels.items
    (subst (λ (l : List Happening). IfOk result (λ t. Enters t root.now (frames_events old.levels.items) l
    (length old.levels.items))) (sym (visits_levels new none_new)) h)
    (ap (λ (o : Option (Bor Node)). root_events o ++ frames_events old.levels.items) some)

-- nothing is left of it but its end
pub turn_leaves : (old new : Walk) (r : Rest) (h : Happening) → old.root ≡ None → new.root ≡ None
    → old.levels.items ≡ new.levels.items ++ r ∷ [] → IsCollectionEnd h → rest_events r ≡ h ∷ []
    → Turns Leave (to_visit old) (to_visit new)
turn_leaves old new r h none none_new e end own = (
  h,
  end,
  visits_levels old none ∙ pushed new.levels.items old.levels.items r e
      ∙ ap (λ (l : List Happening). l ++ frames_events new.levels.items) own
      ∙ ap (λ (l : List Happening). h ∷ l) (sym (visits_levels new none_new)),
)

-- ## The parts of a collection

pub none_left : {X : Type 0} (xs : List X) → length xs ≡ 0 → xs ≡ []
none_left [] e = refl
none_left (x ∷ xs) e = absurd (omega arith)

pub no_item : (all left : Bor (List Node)) → length left.now ≡ 0 → rest_events (Items all left) ≡ SequenceEnd ∷ []
no_item all left e =
    ap (λ (l : List Node). flat_map node_events l ++ SequenceEnd ∷ []) (none_left left.now e)

pub no_pair : (all left : Bor (List (Node × Node))) → length left.now ≡ 0
    → rest_events (Pairs all left) ≡ MappingEnd ∷ []
no_pair all left e =
    ap (λ (l : List (Node × Node)). flat_map pair_events l ++ MappingEnd ∷ []) (none_left left.now e)

pub next_item : (all left others : Bor (List Node)) (node : Node) → left.now ≡ node ∷ others.now
    → rest_events (Items all left) ≡ node_events node ++ rest_events (Items all others)
next_item all left others node e = ap (λ (l : List Node). flat_map node_events l ++ SequenceEnd ∷ []) e
    ∙ append_assoc (node_events node) (flat_map node_events others.now) (SequenceEnd ∷ [])

-- the value of the key comes next
pub next_key : (all left others : Bor (List (Node × Node))) (pair : Node × Node) → left.now ≡ pair ∷ others.now
    → rest_events (Pairs all left)
    ≡ node_events pair.0 ++ (node_events pair.1 ++ (flat_map pair_events others.now ++ MappingEnd ∷ []))
next_key all left others pair e =
    let inner = flat_map pair_events others.now in
    ap (λ (l : List (Node × Node)). flat_map pair_events l ++ MappingEnd ∷ []) e
    ∙ append_assoc (pair_events pair) inner (MappingEnd ∷ [])
    ∙ append_assoc (node_events pair.0) (node_events pair.1) (inner ++ MappingEnd ∷ [])

-- ## A visit

ends_joined : (xs ys : List (Happening × Span)) → AreCollectionEnds xs → AreCollectionEnds ys
    → AreCollectionEnds (xs ++ ys)
ends_joined [] ys h k = k
ends_joined (x ∷ xs) ys h k = (h.0, ends_joined xs ys h.1 k)

-- only ends of collections were passed
pub record HasPassed (old new : Walk) : Type 0 where
  pub passed : List (Happening × Span)
  pub ends : AreCollectionEnds passed
  pub told : to_visit old ≡ happenings passed ++ to_visit new
  pub split : left_to_visit old ≡ passed ++ left_to_visit new
  pub within : (root : Node) → IsWalkOf root old → IsWalkOf root new

pub passes_end : (old s t : Walk) (span : Span) (others : List Span) → HasPassed old s
    → Turns Leave (to_visit s) (to_visit t) → ((root : Node) → IsWalkOf root s → IsWalkOf root t)
    → s.spans.now ≡ span ∷ others → t.spans.now ≡ others → HasPassed old t
passes_end old s t span others p (h, end, e) within es et =
    let step = ap (λ l. zip l s.spans.now) e ∙ ap (λ l. zip (h ∷ to_visit t) l) es
    ∙ ap (λ l. (h, span) ∷ zip (to_visit t) l) (sym et) in
    record {
      passed = p.passed ++ (h, span) ∷ [];
      ends = ends_joined p.passed ((h, span) ∷ []) p.ends (end, tt);
      told = p.told ∙ ap (λ (hs : List Happening). happenings p.passed ++ hs) e
          ∙ sym (append_assoc (happenings p.passed) (h ∷ []) (to_visit t))
          ∙ ap (λ (hs : List Happening). hs ++ to_visit t) (sym (happenings-append p.passed ((h, span) ∷ [])));
      split = p.split ∙ ap (λ (l : List (Happening × Span)). p.passed ++ l) step
          ∙ sym (append_assoc p.passed ((h, span) ∷ []) (left_to_visit t));
      within = λ root of. within root (p.within root of);
    }

pub visits_node : (old s t : Walk) (visit : Visit) (others : List Span) → HasPassed old s
    → BeginsNode visit.node.now visit.depth (to_visit s) (to_visit t)
    → ((root : Node) → IsWalkOf root s → IsWalkOf root t × LeadsTo (path_of t) root visit.node.now (to_visit s))
    → s.spans.now ≡ visit.span ∷ others → t.spans.now ≡ others → Visits old (Some (Ok visit)) t
visits_node old s t visit others p b leads es et = (
  p.passed,
  to_visit s,
  p.ends,
  p.told,
  b,
  p.split ∙ ap (λ (l : List Span). p.passed ++ zip (to_visit s) l)
      (es ∙ ap (λ (o : List Span). visit.span ∷ o) (sym et)),
  λ root of. leads root (p.within root of),
)

ended : (old s : Walk) → HasPassed old s → left_to_visit s ≡ [] → AreCollectionEnds (left_to_visit old)
ended old s p none = subst AreCollectionEnds
    (sym (p.split ∙ ap (λ (l : List (Happening × Span)). p.passed ++ l) none ∙ append-nil p.passed)) p.ends

no_spans : (hs : List Happening) (spans : List Span) → length spans ≡ 0 → zip hs spans ≡ []
no_spans [] spans e = refl
no_spans (h ∷ hs) [] e = refl
no_spans (h ∷ hs) (s ∷ spans) e = absurd (omega arith)

pub ends_without_spans : (old s : Walk) → HasPassed old s → length s.spans.now ≡ 0
    → AreCollectionEnds (left_to_visit old)
ends_without_spans old s p none = ended old s p (no_spans (to_visit s) s.spans.now none)
