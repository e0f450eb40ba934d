-- The events of a forest nest, and so do those that are taken from a text.
use Rattle.event_laws.proofs.Common.{◌≡◌, Bool, List, [], ◌∷◌, ◌++◌, Option, Some, None, option_map, option_and_then, refl, sym, ap, ◌∙◌, append_assoc, ℕ, arith, Part, node_parts, entry_parts, pair_parts, document_parts, Happening, event_of_part, first_and_others, events_behind, Ending, Answer, IsCut, AreTaken}
use Rattle.saphyr_scanner.specs.Grammar.Forest.{Node, Alias, Scalar, Seq, Map, Nodes, NoNode, MoreNodes, Pairs, NoPair, MorePairs, Forest}
use Rattle.event_laws.specs.Preorder as parts
use Rattle.saphyr_machine.specs.Events as events
use Rattle.event_laws.specs.ForestEvents as forests
use Rattle.event_laws.specs.Nesting.{NestPlace, InStream, BeforeRoot, BehindRoot, InSequence, BeforeKey, BeforeValue, Nest, nest_before_stream, nest_behind_stream, place_behind_node, with_next_place, nest_inside, nest_behind_event, nest_behind_all, IsWhole, IsNested, IsAtStart}

-- ## Steps

record Begins (e : Option Happening) (o : Option (List Happening)) (es : List Happening) : Type 0 where
  first : Happening
  others : List Happening
  is : e ≡ Some first
  are : o ≡ Some others
  joined : es ≡ first ∷ others

first_and_others_begins : (e : Option Happening) (o : Option (List Happening)) (es : List Happening)
    → first_and_others e o ≡ Some es → Begins e o es
first_and_others_begins u0 u1 es p = grind arith

-- parts are passed, and their events lead from a nest to another
record PassesParts (keep : Bool) (rest : List Part) (es : List Happening) (n m : Nest) : Type 0 where
  front : List Part
  more : List Happening
  are : events_behind keep front rest ≡ Some more
  same : nest_behind_all es n ≡ nest_behind_all more m

one_part : (keep : Bool) (front : List Part) (part : Part) (rest : List Part) (es : List Happening) (n m : Nest)
    → events_behind keep front (part ∷ rest) ≡ Some es
    → ((h : Happening) → event_of_part keep front part ≡ Some h → nest_behind_event h n ≡ Some m)
    → PassesParts keep rest es n m
one_part keep front part rest es n m p step =
    let b = first_and_others_begins (event_of_part keep front part) (events_behind keep (part ∷ front) rest) es p in
    record { front = part ∷ front; more = b.others; are = b.are; same = simp (b.joined, step b.first b.is) }

and_then : (keep : Bool) (rest more : List Part) (es : List Happening) (n m k : Nest) → PassesParts keep rest es n m
    → ((front : List Part) (hs : List Happening) → events_behind keep front rest ≡ Some hs
    → PassesParts keep more hs m k) → PassesParts keep more es n k
and_then keep rest more es n m k a next =
    let b = next a.front a.more a.are in
    record { front = b.front; more = b.more; are = b.are; same = a.same ∙ b.same }

no_part : (keep : Bool) (front rest : List Part) (es : List Happening) (n : Nest)
    → events_behind keep front rest ≡ Some es → PassesParts keep rest es n n
no_part keep front rest es n p = record { front = front; more = es; are = p; same = refl }

mapped : {A : Type 0} (f : A → Happening) (o : Option A) (h : Happening) (n : Nest) (m : Option Nest)
    → ((x : A) → nest_behind_event (f x) n ≡ m) → option_map f o ≡ Some h → nest_behind_event h n ≡ m
mapped f u0 h n m each p = grind arith

given : (e h : Happening) (n : Nest) (m : Option Nest) → nest_behind_event e n ≡ m → Some e ≡ Some h
    → nest_behind_event h n ≡ m
given e h n m each p = let same : e ≡ h = cc in ap (λ (g : Happening). nest_behind_event g n) (sym same) ∙ each

-- the nest after a node
abbrev at : Nest → NestPlace → Nest
at n place = record { innermost = place; outer = n.outer }

behind_moved : (n : Nest) (place : NestPlace) → place_behind_node n.innermost ≡ Some place
    → with_next_place place_behind_node n ≡ Some (at n place)
behind_moved n place h = simp h

-- ## Nodes

-- By recursion on the tree. A collection is its first part, its entries and its last part, one after the other
-- (`and_then`): the first opens a nest, in which the entries leave the place as it was, and the last goes back to the
-- nest around it, where the node was due.
mutual
  node_passes : (keep : Bool) (node : Node) (front rest : List Part) (es : List Happening) (n : Nest)
      (place : NestPlace) → place_behind_node n.innermost ≡ Some place
      → events_behind keep front (node_parts node ++ rest) ≡ Some es → PassesParts keep rest es n (at n place)
  node_passes keep (Alias name) front rest es n place h p = one_part keep front (parts.Reference name) rest es n _ p
      (λ e q. mapped events.Alias _ e n _ (λ id. behind_moved n place h) q)
  node_passes keep (Scalar own style value) front rest es n place h p =
      one_part keep front (parts.Leaf own style value) rest es n _ p
      (λ e q. mapped (events.Scalar _ style _) _ e n _ (λ tag. behind_moved n place h) q)
  node_passes keep (Seq own nodes) front rest es n place h p =
      let begun = one_part keep front (parts.OpenSequence own)
      ((entry_parts nodes ++ parts.CloseSequence ∷ []) ++ rest) es n (nest_inside InSequence n) p
      (λ e q. mapped (events.SequenceStart _) _ e n _ (λ tag. refl) q) in
      let filled = and_then keep _ (parts.CloseSequence ∷ rest) es n _ (nest_inside InSequence n) begun
      (λ f hs q. entries_pass keep nodes f (parts.CloseSequence ∷ rest) hs _ (rw append_assoc at q)) in
      and_then keep _ rest es n _ (at n place) filled
      (λ f hs q. one_part keep f parts.CloseSequence rest hs _ _ q
      (λ e r. given events.SequenceEnd e (nest_inside InSequence n) _ (behind_moved n place h) r))
  node_passes keep (Map own pairs) front rest es n place h p =
      let begun = one_part keep front (parts.OpenMapping own)
      ((pair_parts pairs ++ parts.CloseMapping ∷ []) ++ rest) es n (nest_inside BeforeKey n) p
      (λ e q. mapped (events.MappingStart _) _ e n _ (λ tag. refl) q) in
      let filled = and_then keep _ (parts.CloseMapping ∷ rest) es n _ (nest_inside BeforeKey n) begun
      (λ f hs q. pairs_pass keep pairs f (parts.CloseMapping ∷ rest) hs _ (rw append_assoc at q)) in
      and_then keep _ rest es n _ (at n place) filled
      (λ f hs q. one_part keep f parts.CloseMapping rest hs _ _ q
      (λ e r. given events.MappingEnd e (nest_inside BeforeKey n) _ (behind_moved n place h) r))

  entries_pass : (keep : Bool) (nodes : Nodes) (front rest : List Part) (es : List Happening) (outer : List NestPlace)
      → events_behind keep front (entry_parts nodes ++ rest) ≡ Some es
      → PassesParts keep rest es (record { innermost = InSequence; outer = outer })
      (record { innermost = InSequence; outer = outer })
  entries_pass keep NoNode front rest es outer p = no_part keep front rest es _ p
  entries_pass keep (MoreNodes node nodes) front rest es outer p =
      let first = node_passes keep node front (entry_parts nodes ++ rest) es
      (record { innermost = InSequence; outer = outer }) InSequence refl (rw append_assoc at p) in
      and_then keep _ rest es _ _ _ first (λ f hs q. entries_pass keep nodes f rest hs outer q)

  pairs_pass : (keep : Bool) (pairs : Pairs) (front rest : List Part) (es : List Happening) (outer : List NestPlace)
      → events_behind keep front (pair_parts pairs ++ rest) ≡ Some es
      → PassesParts keep rest es (record { innermost = BeforeKey; outer = outer })
      (record { innermost = BeforeKey; outer = outer })
  pairs_pass keep NoPair front rest es outer p = no_part keep front rest es _ p
  pairs_pass keep (MorePairs key value pairs) front rest es outer p =
      let first = node_passes keep key front ((node_parts value ++ pair_parts pairs) ++ rest) es
      (record { innermost = BeforeKey; outer = outer }) BeforeValue refl (rw append_assoc at p) in
      let second = and_then keep _ (pair_parts pairs ++ rest) es _ _
      (record { innermost = BeforeKey; outer = outer }) first
      (λ f hs q. node_passes keep value f (pair_parts pairs ++ rest) hs
      (record { innermost = BeforeValue; outer = outer }) BeforeKey refl (rw append_assoc at q)) in
      and_then keep _ rest es _ _ _ second (λ f hs q. pairs_pass keep pairs f rest hs outer q)

-- ## Documents

abbrev stream : Nest
stream = record { innermost = InStream; outer = [] }

documents_pass : (keep : Bool) (documents : Forest) (front : List Part) (es : List Happening)
    → events_behind keep front (document_parts documents) ≡ Some es → PassesParts keep [] es stream nest_behind_stream
documents_pass keep [] front es p = one_part keep front parts.CloseStream [] es _ nest_behind_stream p
    (λ e q. given events.StreamEnd e _ _ refl q)
documents_pass keep (d ∷ ds) front es p =
    let begun = one_part keep front (parts.OpenDocument d.explicit d.directives)
    (node_parts d.node ++ parts.CloseDocument ∷ document_parts ds) es stream (nest_inside BeforeRoot stream) p
    (λ e q. given (events.DocumentStart d.explicit) e stream _ refl q) in
    let filled = and_then keep _ (parts.CloseDocument ∷ document_parts ds) es stream _ (nest_inside BehindRoot stream)
    begun
    (λ f hs q. node_passes keep d.node f (parts.CloseDocument ∷ document_parts ds) hs
    (nest_inside BeforeRoot stream) BehindRoot refl q) in
    let ended = and_then keep _ (document_parts ds) es stream _ stream filled
    (λ f hs q. one_part keep f parts.CloseDocument (document_parts ds) hs (nest_inside BehindRoot stream) stream q
    (λ e r. given events.DocumentEnd e (nest_inside BehindRoot stream) _ refl r)) in
    and_then keep _ [] es stream _ nest_behind_stream ended (λ f hs q. documents_pass keep ds f hs q)

forest_passes : (forest : Forest) (keep : Bool) (es : List Happening) → forests.events forest keep ≡ Some es
    → PassesParts keep [] es nest_before_stream nest_behind_stream
forest_passes forest keep es p =
    let begun = one_part keep [] parts.OpenStream (document_parts forest) es nest_before_stream stream p
    (λ e q. given events.StreamStart e nest_before_stream _ refl q) in
    and_then keep _ [] es nest_before_stream _ nest_behind_stream begun (λ f hs q. documents_pass keep forest f hs q)

pub forest_nests : (forest : Forest) (keep : Bool) (es : List Happening) → forests.events forest keep ≡ Some es
    → nest_behind_all es nest_before_stream ≡ Some nest_behind_stream
forest_nests forest keep es p =
    let passes = forest_passes forest keep es p in cc

-- ## Beginnings

whole_along : (ending : Option Ending) (o : Option Nest) (f g : Nest → Option Nest)
    → ((n : Nest) → f n ≡ Some nest_behind_stream → IsWhole ending (g n))
    → option_and_then f o ≡ Some nest_behind_stream → IsWhole ending (option_and_then g o)
whole_along ending u0 f g each e = grind arith

-- A beginning of events that lead to the stream's end nests too, and is all of them if no fault cuts it off.
pub whole_before : (ending : Option Ending) (emitted missing : List Happening) (n : Nest) → IsCut ending missing
    → nest_behind_all (emitted ++ missing) n ≡ Some nest_behind_stream → IsWhole ending (nest_behind_all emitted n)
whole_before (Some f) [] missing n h e = tt
whole_before None [] missing n h e = cc
whole_before ending (x ∷ emitted) missing n h e = whole_along ending (nest_behind_event x n)
    (nest_behind_all (emitted ++ missing)) (nest_behind_all emitted) (λ m. whole_before ending emitted missing m h) e

pub nests : (keep : Bool) (text : List ℕ) (a : Answer) → AreTaken keep text a → IsNested a
nests keep text a u0 = grind (arith, whole_before, forest_nests)

-- ## Starts

pub starts : (keep : Bool) (text : List ℕ) (a : Answer) → AreTaken keep text a → IsAtStart a
starts keep text a u0 = grind arith
