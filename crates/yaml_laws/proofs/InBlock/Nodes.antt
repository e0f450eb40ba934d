-- All nodes at block level are read, given the leaves (YAML 1.2.2, chapter 8).
use Rattle.yaml_laws.proofs.Common.{Bool, List, [], ap, append-nil, append_assoc, arith, false, inl, inr, refl, subst, suc, sym, true, ℕ, ◌++◌, ◌+◌, ◌<◌, ◌∙◌, ◌∷◌, ◌≡◌, ◌≤◌, ◌⊎◌, None, nat_le, ◌||◌, nat_tests, Marker, IsEol, State, Kind, Alias, Map, MoreNodes, MorePairs, NoNode, NoPair, Node, Nodes, Pairs, Properties, Scalar, Seq, most_open, or-true, leb-true, clash, le_next, Position, indent_at, sequence_indent_at, IsLead, IsLeftOut, IsFlowInBlock, IsBlockNode, AreEntries, ArePairs}
use Rattle.saphyr_scanner.specs.Grammar.Tokens as tokens
use Rattle.saphyr_scanner.specs.Grammar.TokenGrammar as grammar
use Rattle.yaml_laws.proofs.Flow.Places.{moved_append}
use Rattle.yaml_laws.proofs.InBlock.Lines.{fits_front, fits_back, fits_so}
use Rattle.yaml_laws.proofs.Flow.Fillers.{rest_past}
use Rattle.yaml_laws.proofs.InBlock.States.{Frame, is_compact, EndsDocument, IsLeftOf, At, moved, past}
use Rattle.yaml_laws.proofs.InBlock.Closing.{closes_block}
use Rattle.yaml_laws.proofs.InBlock.Skips.{line_end_skipped, line_end_crosses, skipped_past}
use Rattle.yaml_laws.proofs.InBlock.Entries.{frame_behind}
use Rattle.yaml_laws.proofs.InBlock.Statements.{context_at, EndsNodeAt, ArrivedAt, Arrived, ReadsAt, ReadsLeaves, place_allows_block, arrived_so}
use Rattle.yaml_laws.proofs.InBlock.Texts.{behind_wider}
use Rattle.yaml_laws.proofs.InBlock.BehindIndicators.{entries_content, pairs_content, further_content}
use Rattle.yaml_laws.proofs.InBlock.Leads.{reads_lead, lead_col, mapping_least, sequence_least}
use Rattle.yaml_laws.proofs.InBlock.Parts.{reads_parts}
use Rattle.yaml_laws.proofs.InBlock.Sequences.{ReadsOtherEntries, no_entries, more_entries, reads_entries, sequence_start}
use Rattle.yaml_laws.proofs.InBlock.Pairs.{is_pair, ReadsOtherPairs, no_other_pairs, more_pairs}
use Rattle.yaml_laws.proofs.InFlow.KeyLines.{to_next}

-- ## A node that is left out

eol_past : (m : Marker) (t o : List ℕ) → IsEol t o → past 0 m (t ++ o) ≡ past 0 (moved m t) o
eol_past m t o h = grind (arith, skipped_past, line_end_skipped, rest_past)

reads_left_out : (limit : ℕ) (node : Node) → ReadsAt limit node (IsLeftOut node)
reads_left_out limit node place f same m t o (is, out, eol) fits behind start ts v =
    record {
      tokens = [];
      are = inl (out, is, refl);
      arrived = subst (λ (us : List Kind). Arrived limit start f (moved m t) o us) (sym (append-nil ts))
          (subst (ArrivedAt limit start f ts) (eol_past m t o eol) (record { at = v.at; next = by_eol eol }));
    }
  where
    nothing_left : (o ≡ []) → (past 0 m (t ++ o)).1 ≡ []
    nothing_left e = ap (λ (q : Marker × List ℕ). q.1) (eol_past m t o eol)
        ∙ ap (λ (x : List ℕ). (past 0 (moved m t) x).1) e

    by_eol : IsEol t o → EndsDocument (past 0 m (t ++ o)).0 (past 0 m (t ++ o)).1
        ⊎ ((v.at.key ≡ None) × (v.at.allowed ≡ true))
    by_eol (inl h) = inr (
      v.none,
      v.allows
          (ap (λ (b : Bool). is_compact place || b) (line_end_crosses t o h) ∙ or-true (is_compact place)),
    )
    by_eol (inr h) = inl (inl (nothing_left h.1))

-- ## Block sequences

indent_near : (place : Position) → indent_at place ≤ suc (sequence_indent_at place)
indent_near place = grind arith

-- a sequence at the column of what encloses it is in a mapping
in_mapping : (place : Position) (i col : ℕ) → i ≡ indent_at place → sequence_indent_at place ≤ col
    → nat_le i col ≡ false → grammar.IsInBlockMapping (context_at place)
in_mapping place i col h k e = grind (arith, clash, nat_tests)

new_list : (ts us : List Kind) (k : Kind)
    → ((ts ++ k ∷ []) ++ us) ++ tokens.BlockEnd ∷ [] ≡ ts ++ (k ∷ (us ++ tokens.BlockEnd ∷ []))
new_list ts us k = simp append_assoc

-- a collection that began at a column ends
collection_closes : {limit : ℕ} {start : State} {ts : List Kind} (f : Frame) (column : ℕ) (q : Marker × List ℕ)
    → f.indent ≤ column → EndsDocument q.0 q.1 ⊎ (q.0.col < f.indent)
    → ArrivedAt limit start (frame_behind true column f) ts q → ArrivedAt limit start f (ts ++ tokens.BlockEnd ∷ []) q
collection_closes {limit} {start} {ts} f column q low left v =
    let c = closes_block f column q.0 q.1 low (by_left left) v.at in
    record { at = c.0; next = by_next c v.next }
  where
    further : (a i c : ℕ) → i ≤ c → a < i → a < c
    further a i c h k = omega (arith, h, k)

    by_left : EndsDocument q.0 q.1 ⊎ (q.0.col < f.indent) → EndsDocument q.0 q.1 ⊎ (q.0.col < column)
    by_left (inl h) = inl h
    by_left (inr h) = inr (further q.0.col f.indent column low h)

    by_next : (c : (w : At limit start f q.0 q.1 (ts ++ tokens.BlockEnd ∷ [])) × (w.key ≡ v.at.key)
        × (w.allowed ≡ v.at.allowed)) → EndsDocument q.0 q.1 ⊎ ((v.at.key ≡ None) × (v.at.allowed ≡ true))
        → EndsDocument q.0 q.1 ⊎ ((c.0.key ≡ None) × (c.0.allowed ≡ true))
    by_next c (inl h) = inl h
    by_next c (inr h) = inr (c.1 ∙ h.0, c.2 ∙ h.1)

-- how a block sequence is at a place
abbrev IsBlockSequence : Properties → Nodes → Position → List ℕ → List ℕ → Type 0
IsBlockSequence p nodes place t o = (m : ℕ) × (lead entries : List ℕ) × IsLead p place (sequence_indent_at place) m lead
    × AreEntries most_open nodes m entries o × (t ≡ lead ++ entries)

-- After its lead a sequence's entries are read in a frame of their own, which closes behind them, or, at the column of
-- the mapping around it, in that mapping's frame.
reads_sequence : {limit : ℕ} → ReadsLeaves limit → (p : Properties) (node : Node) (nodes : Nodes)
    → ReadsAt limit node (IsBlockNode most_open node) → ReadsOtherEntries limit nodes
    → ReadsAt limit (Seq p (MoreNodes node nodes)) (IsBlockSequence p (MoreNodes node nodes))
reads_sequence {limit} leaves p node nodes reads more place f same m t o (column, lead, entries, lead_is, h, e) fits
    behind start ts v =
    let n = moved m lead in
    let col = lead_col p place (sequence_indent_at place) column m lead v.placed lead_is in
    let text : t ++ o ≡ lead ++ (entries ++ o) = ap (λ (x : List ℕ). x ++ o) e ∙ append_assoc lead entries o in
    let whole = fits_so m t (lead ++ entries) o e fits in
    let end = ap (moved m) e ∙ moved_append m lead entries in
    let low : sequence_indent_at place ≤ n.col = rw col (sequence_least p place column lead lead_is) in
    let far = near f.indent (indent_at place) (sequence_indent_at place) n.col same (indent_near place) low in
    let behind_o = subst (λ (x : Marker). EndsNodeAt f.indent x o) end behind in
    let l = reads_lead leaves p place (sequence_indent_at place) column f same m lead (entries ++ o) lead_is
    (further_content entries o (entries_content (MoreNodes node nodes) column entries o h))
    (fits_front m lead entries o whole) start ts (rw text at v) in
    let r = reads_entries leaves node nodes reads more f n (nat_le f.indent n.col) refl far entries o (rw col h)
    (fits_back m lead entries o whole)
    (behind_wider f.indent (suc n.col) (moved n entries) o (to_next f.indent n.col far) behind_o) start (ts ++ l.tokens)
    l.at in
    let c = ended n low (moved n entries) behind_o.left (nat_le f.indent n.col) refl (ts ++ l.tokens) r.tokens r.are
    r.arrived in
    record {
      tokens = l.tokens ++ c.0;
      are = inr (l.tokens, c.0, l.are, c.1, refl);
      arrived = arrived_so o end (append_assoc ts l.tokens c.0) c.2;
    }
  where
    near : (i a s c : ℕ) → i ≡ a → a ≤ suc s → s ≤ c → i ≤ c + 1
    near i a s c e h k = omega (arith, e, h, k)

    -- the tokens of the entries, which end at z, as those of the sequence
    ended : (n : Marker) → sequence_indent_at place ≤ n.col → (z : Marker)
        → IsLeftOf f.indent (past 0 z o).0 (past 0 z o).1 → (further : Bool) → nat_le f.indent n.col ≡ further
        → (us vs : List Kind) → grammar.YieldBlockEntries (MoreNodes node nodes) vs
        → Arrived limit start (frame_behind further n.col f) z o ((us ++ sequence_start further) ++ vs)
        → (content : List Kind) × grammar.YieldsSequence (MoreNodes node nodes) (context_at place)
        (grammar.YieldFlowEntries (MoreNodes node nodes)) (grammar.YieldBlockEntries (MoreNodes node nodes)) content
        × Arrived limit start f z o (us ++ content)
    ended n low z left true k us vs are v = (
      tokens.BlockSequenceStart ∷ (vs ++ tokens.BlockEnd ∷ []),
      inr (inl (place_allows_block place, (vs, are, refl))),
      subst (Arrived limit start f z o) (new_list us vs tokens.BlockSequenceStart)
          (collection_closes f n.col (past 0 z o) (leb-true f.indent n.col k) left v),
    )
    ended n low z left false k us vs are v = (
      vs,
      inr (inr (in_mapping place f.indent n.col same low k, tt, are)),
      subst (λ (x : List Kind). Arrived limit start f z o (x ++ vs)) (append-nil us) v,
    )

-- ## Block mappings

abbrev IsBlockMapping : Properties → Pairs → Position → List ℕ → List ℕ → Type 0
IsBlockMapping p pairs place t o =
    (m : ℕ) × (lead entries : List ℕ) × IsLead p place (indent_at place) m lead × ArePairs most_open pairs m entries o
    × (t ≡ lead ++ entries)

-- As `reads_sequence`, but a mapping is always right of what encloses it. So its pairs are read in a frame of their
-- own, which closes behind them (`collection_closes`).
reads_mapping : {limit : ℕ} → ReadsLeaves limit → (p : Properties) (key value : Node) (pairs : Pairs)
    → ReadsAt limit key (IsBlockNode most_open key) → ReadsAt limit value (IsBlockNode most_open value)
    → ReadsOtherPairs limit pairs
    → ReadsAt limit (Map p (MorePairs key value pairs)) (IsBlockMapping p (MorePairs key value pairs))
reads_mapping leaves p key value pairs K V more place f same m t o (column, lead, entries, lead_is, h, e) fits behind
    start ts v =
    let n = moved m lead in
    let col = lead_col p place (indent_at place) column m lead v.placed lead_is in
    let text : t ++ o ≡ lead ++ (entries ++ o) = ap (λ (x : List ℕ). x ++ o) e ∙ append_assoc lead entries o in
    let whole = fits_so m t (lead ++ entries) o e fits in
    let end = ap (moved m) e ∙ moved_append m lead entries in
    let low : f.indent ≤ n.col = rw (col, same) (mapping_least p place column lead lead_is) in
    let far = le_next f.indent n.col low in
    let behind_o = subst (λ (x : Marker). EndsNodeAt f.indent x o) end behind in
    let l = reads_lead leaves p place (indent_at place) column f same m lead (entries ++ o) lead_is
    (further_content entries o (pairs_content leaves (MorePairs key value pairs) column entries o h))
    (fits_front m lead entries o whole) start ts (rw text at v) in
    let r = reads_parts (is_pair leaves key value K V) more f n true (yes f.indent n.col low) far
    entries o (rw col h) (fits_back m lead entries o whole)
    (behind_wider f.indent (suc n.col) (moved n entries) o (to_next f.indent n.col far) behind_o) start (ts ++ l.tokens)
    l.at in
    let c = collection_closes f n.col (past 0 (moved n entries) o) low behind_o.left r.arrived in
    record {
      tokens = l.tokens ++ (tokens.BlockMappingStart ∷ (r.tokens ++ tokens.BlockEnd ∷ []));
      are = inr (
        l.tokens,
        tokens.BlockMappingStart
            ∷ (r.tokens ++ tokens.BlockEnd ∷ []),
        l.are,
        inr (place_allows_block place, (r.tokens, r.are, refl)),
        refl,
      );
      arrived = arrived_so o end (new_list (ts ++ l.tokens) r.tokens tokens.BlockMappingStart
          ∙ append_assoc ts l.tokens (tokens.BlockMappingStart ∷ (r.tokens ++ tokens.BlockEnd ∷ []))) c;
    }
  where
    yes : (i c : ℕ) → i ≤ c → nat_le i c ≡ true
    yes i c h = grind (arith, nat_tests)

-- ## All nodes

reads_either : (limit : ℕ) (node : Node) (A B : Position → List ℕ → List ℕ → Type 0) → ReadsAt limit node A
    → ReadsAt limit node B → ReadsAt limit node (λ place t o. A place t o ⊎ B place t o)
reads_either limit node A B a b place f same m t o (inl h) fits behind start ts v =
    a place f same m t o h fits behind start ts v
reads_either limit node A B a b place f same m t o (inr h) fits behind start ts v =
    b place f same m t o h fits behind start ts v

no_sequence : (limit : ℕ) (p : Properties) → ReadsAt limit (Seq p NoNode) (IsBlockSequence p NoNode)
no_sequence limit p place f same m t o (column, lead, entries, lead_is, h, e) fits behind start ts v = absurd h

no_mapping : (limit : ℕ) (p : Properties) → ReadsAt limit (Map p NoPair) (IsBlockMapping p NoPair)
no_mapping limit p place f same m t o (column, lead, entries, lead_is, h, e) fits behind start ts v = absurd h

mutual
  pub reads_node : {limit : ℕ} → ReadsLeaves limit → (node : Node) → ReadsAt limit node (IsBlockNode most_open node)
  reads_node leaves (Alias name) = leaves.flow (Alias name)
  reads_node {limit} leaves (Scalar p style value) =
      reads_either limit (Scalar p style value) (IsLeftOut (Scalar p style value)) _
      (reads_left_out limit (Scalar p style value))
      (reads_either limit (Scalar p style value) (IsFlowInBlock most_open (Scalar p style value)) _
      (leaves.flow (Scalar p style value)) (leaves.block_scalar p style value))
  reads_node {limit} leaves (Seq p NoNode) =
      reads_either limit (Seq p NoNode) (IsFlowInBlock most_open (Seq p NoNode)) (IsBlockSequence p NoNode)
      (leaves.flow (Seq p NoNode)) (no_sequence limit p)
  reads_node {limit} leaves (Seq p (MoreNodes node nodes)) =
      reads_either limit (Seq p (MoreNodes node nodes)) (IsFlowInBlock most_open (Seq p (MoreNodes node nodes)))
      (IsBlockSequence p (MoreNodes node nodes)) (leaves.flow (Seq p (MoreNodes node nodes)))
      (reads_sequence leaves p node nodes (reads_node leaves node) (reads_others leaves nodes))
  reads_node {limit} leaves (Map p NoPair) =
      reads_either limit (Map p NoPair) (IsFlowInBlock most_open (Map p NoPair)) (IsBlockMapping p NoPair)
      (leaves.flow (Map p NoPair)) (no_mapping limit p)
  reads_node {limit} leaves (Map p (MorePairs key value pairs)) = reads_either limit (Map p (MorePairs key value pairs))
      (IsFlowInBlock most_open (Map p (MorePairs key value pairs)))
      (IsBlockMapping p (MorePairs key value pairs)) (leaves.flow (Map p (MorePairs key value pairs)))
      (reads_mapping leaves p key value pairs (reads_node leaves key) (reads_node leaves value)
      (reads_other_pairs leaves pairs))

  reads_others : {limit : ℕ} → ReadsLeaves limit → (nodes : Nodes) → ReadsOtherEntries limit nodes
  reads_others leaves NoNode = no_entries
  reads_others leaves (MoreNodes node nodes) =
      more_entries leaves node nodes (reads_node leaves node) (reads_others leaves nodes)

  reads_other_pairs : {limit : ℕ} → ReadsLeaves limit → (pairs : Pairs) → ReadsOtherPairs limit pairs
  reads_other_pairs leaves NoPair = no_other_pairs
  reads_other_pairs leaves (MorePairs key value pairs) =
      more_pairs leaves key value pairs (reads_node leaves key) (reads_node leaves value)
      (reads_other_pairs leaves pairs)
