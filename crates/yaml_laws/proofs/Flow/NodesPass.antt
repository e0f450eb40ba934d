-- The scanner takes a node in flow style and makes its tokens.
use Rattle.yaml_laws.proofs.Common.{◌≡◌, ℕ, ◌+◌, ◌≤◌, false, true, List, [], length, arith, inl, inr, Marker, is_block, Level, Node, Alias, Scalar, Seq, Map, Nodes, NoNode, MoreNodes, Pairs, NoPair, MorePairs, most_open, AreItems, AreOtherItems, AreFlowPairs, AreOtherFlowPairs, IsFlowNode}
use Rattle.saphyr_scanner.specs.Grammar.TokenGrammar as grammar
use Rattle.yaml_laws.proofs.InFlow.States.{Around, FlowMoment, state_at}
use Rattle.yaml_laws.proofs.Flow.Tokens.{part_ready}
use Rattle.yaml_laws.proofs.Flow.ContentStarts.{Begins, node_begins, plain_key_node_begins}
use Rattle.yaml_laws.proofs.InBlock.Crossings.{holds_in_flow}
use Rattle.yaml_laws.proofs.Flow.States.{fits_free, IsBehindNode, ReaderPromises, NodePasses, IsNext, PassesNode, ReadsText, follows_inside}
use Rattle.yaml_laws.proofs.Flow.Collections.{square, curly, are_square, are_curly}
use Rattle.yaml_laws.proofs.Flow.Items.{PassesPairItem, pair_item_passes, reads_item, reads_pair, ReadsOthers, no_others, more_others, ReadsEntries, no_entries, more_entries}
use Rattle.yaml_laws.proofs.Flow.Properties.{alias_passes}
use Rattle.yaml_laws.proofs.Flow.ScalarNodes.{scalar_passes, key_node_passes}
use Rattle.yaml_laws.proofs.Flow.Collections.Runs.{reads_sequence, reads_mapping, calm_in_flow, collection_passes}
use Rattle.saphyr_scanner.specs.declared.engine.level.Context.TheVariants as context

-- ## A node inside flow

passes_inside : {around : Around} {node : Node} {m : Marker} {t o : List ℕ} (room : ℕ) → Begins t → ((now : FlowMoment)
    → is_block now.context ≡ false → room + length now.outer ≤ most_open → ReadsText around node m t o now)
    → IsBehindNode around.indent node o → (now : FlowMoment) → is_block now.context ≡ false
    → IsNext around room now m t o → NodePasses around now node m t o
passes_inside {around} {node} {m} {t} {o} room begins passes behind now flow next =
    let low = next.low in
    let f = fits_free (inl flow) next.fits in
    let r = passes now flow next.enough f (follows_inside flow behind) (omega (arith, low), inr low)
    (state_at around now)
    (part_ready around now m t o begins f next.fits.right next.stands (holds_in_flow flow)) in
    record { tokens = r.tokens; are = r.are grammar.InFlow; passes = rw (r.none (inl flow)) at r.passes }

-- ## All nodes

mutual
  pub nodes_pass : ReaderPromises → (around : Around) (room : ℕ) (node : Node) → PassesNode around room node
  nodes_pass reads around room (Alias name) m t o (inl h) =
      passes_inside room (node_begins around.indent room (Alias name) true t h)
      (λ now flow small. alias_passes reads around name m t o now h)
  nodes_pass reads around room (Alias name) m t o (inr h) = absurd h.0
  nodes_pass reads around room (Scalar p style value) m t o (inl h) =
      passes_inside room (node_begins around.indent room (Scalar p style value) true t h)
      (λ now flow small. scalar_passes reads around p style value m t o now (rw flow h))
  nodes_pass reads around room (Scalar p style value) m t o (inr (h, (r, e))) =
      passes_inside room (plain_key_node_begins true around.indent (Scalar p style value) t h) (λ now flow small. rw e
      (key_node_passes reads around p style value t r m now (rw flow h)))
  nodes_pass reads around room (Seq p nodes) m t o (inl h) =
      passes_inside room (node_begins around.indent room (Seq p nodes) true t h)
      (λ now flow small. collection_passes reads
      (reads_sequence around p nodes (λ left. all_items_pass reads around left nodes)) room m t o now h small
      (calm_in_flow around now.context flow))
  nodes_pass reads around room (Seq p nodes) m t o (inr h) = absurd h.0
  nodes_pass reads around room (Map p pairs) m t o (inl h) =
      passes_inside room (node_begins around.indent room (Map p pairs) true t h)
      (λ now flow small. collection_passes reads
      (reads_mapping around p pairs (λ left. all_pairs_pass reads around left pairs)) room m t o now h small
      (calm_in_flow around now.context flow))
  nodes_pass reads around room (Map p pairs) m t o (inr h) = absurd h.0

  all_items_pass : ReaderPromises → (around : Around) (room : ℕ) (nodes : Nodes)
      → ReadsEntries around square room (AreItems room nodes around.indent) (grammar.YieldFlowEntries nodes)
  all_items_pass reads around room NoNode = no_entries are_square
  all_items_pass reads around room (MoreNodes node nodes) =
      more_entries (reads_item room node (nodes_pass reads around room node)
      (all_pair_items_pass reads around room node)) (all_others_pass reads around room nodes)

  all_others_pass : ReaderPromises → (around : Around) (room : ℕ) (nodes : Nodes)
      → ReadsOthers around square room (AreOtherItems room nodes around.indent) (grammar.YieldOtherFlowEntries nodes)
  all_others_pass reads around room NoNode = no_others are_square
  all_others_pass reads around room (MoreNodes node nodes) =
      more_others (reads_item room node (nodes_pass reads around room node)
      (all_pair_items_pass reads around room node)) (all_others_pass reads around room nodes)

  all_pair_items_pass : ReaderPromises → (around : Around) (room : ℕ) (node : Node) → PassesPairItem around room node
  all_pair_items_pass reads around room (Map p (MorePairs key value NoPair)) =
      pair_item_passes room p key value (nodes_pass reads around room key) (nodes_pass reads around room value)
  all_pair_items_pass reads around room (Map p (MorePairs key value (MorePairs other another pairs))) =
      λ m t c cs ends h. absurd h
  all_pair_items_pass reads around room (Map p NoPair) = λ m t c cs ends h. absurd h
  all_pair_items_pass reads around room (Alias name) = λ m t c cs ends h. absurd h
  all_pair_items_pass reads around room (Scalar p style value) = λ m t c cs ends h. absurd h
  all_pair_items_pass reads around room (Seq p nodes) = λ m t c cs ends h. absurd h

  all_pairs_pass : ReaderPromises → (around : Around) (room : ℕ) (pairs : Pairs)
      → ReadsEntries around curly room (AreFlowPairs room pairs around.indent) (grammar.YieldFlowPairs pairs)
  all_pairs_pass reads around room NoPair = no_entries are_curly
  all_pairs_pass reads around room (MorePairs key value pairs) =
      more_entries (reads_pair room key value (nodes_pass reads around room key) (nodes_pass reads around room value))
      (all_other_pairs_pass reads around room pairs)

  all_other_pairs_pass : ReaderPromises → (around : Around) (room : ℕ) (pairs : Pairs)
      → ReadsOthers around curly room (AreOtherFlowPairs room pairs around.indent) (grammar.YieldOtherFlowPairs pairs)
  all_other_pairs_pass reads around room NoPair = no_others are_curly
  all_other_pairs_pass reads around room (MorePairs key value pairs) =
      more_others (reads_pair room key value (nodes_pass reads around room key) (nodes_pass reads around room value))
      (all_other_pairs_pass reads around room pairs)

all_room : (ls : List Level) → ls ≡ [] → most_open + length ls ≤ most_open
all_room ls e = rw e (omega arith)

-- at block level
pub nodes_close : ReaderPromises → (around : Around) → around.pending ≡ around.required → (node : Node) (m : Marker)
    (t o : List ℕ) → IsFlowNode most_open node false around.indent t → (now : FlowMoment)
    → now.context ≡ context.Block → now.outer ≡ [] → ReadsText around node m t o now
nodes_close reads around same (Alias name) m t o h now is none = alias_passes reads around name m t o now h
nodes_close reads around same (Scalar p style value) m t o h now is none =
    scalar_passes reads around p style value m t o now (rw is h)
nodes_close reads around same (Seq p nodes) m t o h now is none =
    collection_passes reads (reads_sequence around p nodes (λ left. all_items_pass reads around left nodes)) most_open m
    t o now h (all_room now.outer none) (λ _. same)
nodes_close reads around same (Map p pairs) m t o h now is none =
    collection_passes reads (reads_mapping around p pairs (λ left. all_pairs_pass reads around left pairs)) most_open m
    t o now h (all_room now.outer none) (λ _. same)
