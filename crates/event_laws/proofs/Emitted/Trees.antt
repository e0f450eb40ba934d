-- Every node is told, by recursion on the tree.
use Rattle.event_laws.proofs.Common.{List, sym, subst, Kind, Context, InFlow, InBlock, InBlockMapping, YieldsNode, YieldsPairEntry, YieldFlowEntries, YieldOtherFlowEntries, YieldFlowPairs, YieldOtherFlowPairs, YieldBlockEntries, YieldBlockPairs}
use Rattle.saphyr_scanner.specs.Grammar.Forest.{Node, Alias, Scalar, Seq, Map, Nodes, NoNode, MoreNodes, Pairs, NoPair, MorePairs}
use Rattle.event_laws.proofs.NodeStarts.{NodeSays}
use Rattle.event_laws.proofs.Emitted.Scalars.{alias_says, scalar_says}
use Rattle.event_laws.proofs.Emitted.Collections.{OtherEntriesSay, OtherPairsSay, FlowEntriesSay, FlowPairsSay, BlockEntriesSay, IndentlessSay, BlockPairsSay, sequence_says, mapping_says}
use Rattle.event_laws.proofs.Emitted.Entries.{EntrySays, either_says, wrapped_pair, first_entries, other_entries, no_entries, no_other_entries, first_pairs, other_pairs, no_pairs, no_other_pairs, block_entries, no_block_entries, indentless_entries, no_indentless_entries, block_pairs, no_block_pairs}

mutual
  pub node_says : (n : Node) (c : Context) (t : List Kind) → YieldsNode n c t → NodeSays n c t
  node_says (Alias name) c t h = alias_says name c t h
  node_says (Scalar p style value) c t h = scalar_says p style value c t h
  node_says (Seq p ns) c t h = sequence_says p ns c t h (λ u g. entries_say ns u g) (λ u g. block_entries_say ns u g)
      (λ u g. indentless_say ns u g)
  node_says (Map p qs) c t h = mapping_says p qs c t h (λ u g. pairs_say qs u g) (λ u g. block_pairs_say qs u g)

  pair_entry_says : (n : Node) (t : List Kind) → YieldsPairEntry n t → EntrySays n t
  pair_entry_says (Map p (MorePairs key value NoPair)) t h =
      wrapped_pair p key value t h.0 h.1 (λ u g. node_says key InFlow u g) (λ u g. node_says value InFlow u g)
  pair_entry_says _ t h = elim h [ ]

  entries_say : (ns : Nodes) (t : List Kind) → YieldFlowEntries ns t → FlowEntriesSay ns t
  entries_say NoNode t h = subst (FlowEntriesSay NoNode) (sym h) no_entries
  entries_say (MoreNodes n ns) t h = first_entries n ns h.0 h.1 t h.3 h.4
      (either_says n h.0 h.2 (λ g. node_says n InFlow h.0 g) (λ g. pair_entry_says n h.0 g))
      (other_entries_say ns h.1 h.3)

  other_entries_say : (ns : Nodes) (t : List Kind) → YieldOtherFlowEntries ns t → OtherEntriesSay ns t
  other_entries_say NoNode t h = no_other_entries t h
  other_entries_say (MoreNodes n ns) t h = other_entries n ns h.0 h.1 t h.3 h.4
      (either_says n h.0 h.2 (λ g. node_says n InFlow h.0 g) (λ g. pair_entry_says n h.0 g))
      (other_entries_say ns h.1 h.3)

  pairs_say : (qs : Pairs) (t : List Kind) → YieldFlowPairs qs t → FlowPairsSay qs t
  pairs_say NoPair t h = subst (FlowPairsSay NoPair) (sym h) no_pairs
  pairs_say (MorePairs key value qs) t h =
      first_pairs key value qs h.0 h.1 t h.3 h.4 h.2 (λ u g. node_says key InFlow u g)
      (λ u g. node_says value InFlow u g) (other_pairs_say qs h.1 h.3)

  other_pairs_say : (qs : Pairs) (t : List Kind) → YieldOtherFlowPairs qs t → OtherPairsSay qs t
  other_pairs_say NoPair t h = no_other_pairs t h
  other_pairs_say (MorePairs key value qs) t h =
      other_pairs key value qs h.0 h.1 t h.3 h.4 h.2 (λ u g. node_says key InFlow u g)
      (λ u g. node_says value InFlow u g) (other_pairs_say qs h.1 h.3)

  block_entries_say : (ns : Nodes) (t : List Kind) → YieldBlockEntries ns t → BlockEntriesSay ns t
  block_entries_say NoNode t h = subst (BlockEntriesSay NoNode) (sym h) no_block_entries
  block_entries_say (MoreNodes n ns) t h =
      block_entries n ns h.0 h.1 t h.2 h.3 h.4 (λ g. node_says n InBlock h.0 g) (block_entries_say ns h.1 h.3)

  indentless_say : (ns : Nodes) (t : List Kind) → YieldBlockEntries ns t → IndentlessSay ns t
  indentless_say NoNode t h = subst (IndentlessSay NoNode) (sym h) no_indentless_entries
  indentless_say (MoreNodes n ns) t h =
      indentless_entries n ns h.0 h.1 t h.2 h.3 h.4 (λ g. node_says n InBlock h.0 g) (indentless_say ns h.1 h.3)

  block_pairs_say : (qs : Pairs) (t : List Kind) → YieldBlockPairs qs t → BlockPairsSay qs t
  block_pairs_say NoPair t h = subst (BlockPairsSay NoPair) (sym h) no_block_pairs
  block_pairs_say (MorePairs key value qs) t h =
      block_pairs key value qs h.0 h.1 t h.2 h.3 h.4 (λ u g. node_says key InBlockMapping u g)
      (λ u g. node_says value InBlockMapping u g) (block_pairs_say qs h.1 h.3)
