-- The texts of nodes at block level: where they end, and the columns and tokens after what is skipped.
use Rattle.yaml_laws.proofs.Common.{List, [], ap, append-nil, arith, inl, inr, length, refl, suc, zero, ℕ, ◌++◌, ◌<◌, ◌∙◌, ◌∷◌, ◌≡◌, ◌≤◌, ◌⊎◌, not, ◌==◌, line_feed, Marker, spaces, along, AreIn, IsEol, Alias, Map, MoreNodes, MorePairs, NoNode, NoPair, Node, Nodes, Pairs, Scalar, Seq, most_open, Position, indent_at, IsLeftOut, IsFlowInBlock, IsBlockPair, IsEntryIndentation, IsBlockNode, AreEntries, AreOtherEntries, ArePairs, AreOtherPairs}
use Rattle.yaml_laws.proofs.Flow.States.{IsContentStart, moved, past}
use Rattle.yaml_laws.proofs.Flow.Places.{moved_append, moved_along}
use Rattle.yaml_laws.proofs.Documents.Lines.{filler_line}
use Rattle.yaml_laws.proofs.InBlock.Gaps.{content_stop, stop_tabbed, stop_past}
use Rattle.yaml_laws.proofs.InBlock.Skips.{IsSkipped, Passes, IsClean, skipped_passes, skipped_clean, skipped_append, spaces_skipped, filler_skipped}
use Rattle.yaml_laws.proofs.InBlock.Statements.{EndsWithLine, EndsNodeAt, ReadsLeaves}

-- ## Where a node ends

ends_back : (a t o : List ℕ) → EndsWithLine t o → EndsWithLine (a ++ t) o
ends_back a t o (inl h) = inl (λ m. cc (moved_append m a t, h (moved m a)))
ends_back a t o (inr h) = inr h

ends_so : (t u o : List ℕ) → t ≡ u → EndsWithLine u o → EndsWithLine t o
ends_so t u o e h = rw e h

pub eol_ends : (t o : List ℕ) → IsEol t o → EndsWithLine t o
eol_ends t o (inl (rest, h, is)) = ends_so t (rest ++ (10 ∷ [])) o is (ends_back rest (10 ∷ []) o (inl (λ m. refl)))
eol_ends t o (inr h) = inr h.1

last_ends : (a t o : List ℕ) → (t ≡ []) ⊎ EndsWithLine t o → EndsWithLine a (t ++ o) → EndsWithLine (a ++ t) o
last_ends a t o (inr h) first = ends_back a t o h
last_ends a t o (inl e) first = ends_so (a ++ t) a o (ap (λ (x : List ℕ). a ++ x) e ∙ append-nil a) (rw e at first)

left_out_ends : (node : Node) (place : Position) (t o : List ℕ) → IsLeftOut node place t o → EndsWithLine t o
left_out_ends node place t o h = eol_ends t o h.2

flow_ends : (room : ℕ) (node : Node) (place : Position) (t o : List ℕ) → IsFlowInBlock room node place t o
    → EndsWithLine t o
flow_ends room node place t o (gap, text, end, gap_is, is, apart, end_is, e) = search (ends_so, ends_back, eol_ends)

pub pair_ends : (key value : Node)
    → ((place : Position) (t o : List ℕ) → IsBlockNode most_open key place t o → EndsWithLine t o)
    → ((place : Position) (t o : List ℕ) → IsBlockNode most_open value place t o → EndsWithLine t o)
    → (m : ℕ) (t o : List ℕ)
    → IsBlockPair most_open key value (IsBlockNode most_open key) (IsBlockNode most_open value) m t o → EndsWithLine t o
pair_ends key value K V m t o (inl (inl (node, between, v, node_is, line, spaced, before, short, h, e))) =
    search (ends_so, ends_back)
pair_ends key value K V m t o (inl (inr (v, out, h, e))) =
    ends_so t ((58 ∷ []) ++ v) o e (ends_back (58 ∷ []) v o (V _ v o h))
pair_ends key value K V m t o (inr (inl (node, out, some, h, unvalued, e))) =
    ends_so t ((63 ∷ []) ++ node) o e (ends_back (63 ∷ []) node o (K _ node o h))
pair_ends key value K V m t o (inr (inr (node, colon, v, some, h, mark, k, e))) = search (ends_so, ends_back)

mutual
  pub node_ends : {limit : ℕ} → ReadsLeaves limit → (node : Node) (place : Position) (t o : List ℕ)
      → IsBlockNode most_open node place t o → EndsWithLine t o
  node_ends leaves (Alias name) place t o h = flow_ends most_open (Alias name) place t o h
  node_ends leaves (Scalar p style value) place t o (inl h) = left_out_ends (Scalar p style value) place t o h
  node_ends leaves (Scalar p style value) place t o (inr (inl h)) =
      flow_ends most_open (Scalar p style value) place t o h
  node_ends leaves (Scalar p style value) place t o (inr (inr (gap, front, scalar, gap_is, front_is, h, e))) =
      ends_so t (gap ++ (front ++ scalar)) o e (ends_back gap (front ++ scalar) o
      (ends_back front scalar o (leaves.scalar_ends style value (indent_at place) scalar o h)))
  node_ends leaves (Seq p nodes) place t o (inl h) = flow_ends most_open (Seq p nodes) place t o h
  node_ends leaves (Seq p nodes) place t o (inr (m, lead, entries, lead_is, h, e)) =
      ends_so t (lead ++ entries) o e (ends_back lead entries o (entries_end leaves nodes m entries o h))
  node_ends leaves (Map p pairs) place t o (inl h) = flow_ends most_open (Map p pairs) place t o h
  node_ends leaves (Map p pairs) place t o (inr (m, lead, entries, lead_is, h, e)) =
      ends_so t (lead ++ entries) o e (ends_back lead entries o (pairs_end leaves pairs m entries o h))

  pub entries_end : {limit : ℕ} → ReadsLeaves limit → (nodes : Nodes) (m : ℕ) (t o : List ℕ)
      → AreEntries most_open nodes m t o → EndsWithLine t o
  entries_end leaves NoNode m t o h = absurd h
  entries_end leaves (MoreNodes node nodes) m t o (entry, others, h, k, e) =
      ends_so t ((45 ∷ []) ++ (entry ++ others)) o e (ends_back (45 ∷ []) (entry ++ others) o
      (last_ends entry others o (other_entries_end leaves nodes m others o k)
      (node_ends leaves node _ entry (others ++ o) h)))

  other_entries_end : {limit : ℕ} → ReadsLeaves limit → (nodes : Nodes) (m : ℕ) (t o : List ℕ)
      → AreOtherEntries most_open nodes m t o → (t ≡ []) ⊎ EndsWithLine t o
  other_entries_end leaves NoNode m t o h = inl h
  other_entries_end leaves (MoreNodes node nodes) m t o (front, entry, others, front_is, h, k, e) =
      inr (ends_so t (front ++ ((45 ∷ []) ++ (entry ++ others))) o e (ends_back front (45 ∷ (entry ++ others)) o
      (ends_back (45 ∷ []) (entry ++ others) o (last_ends entry others o (other_entries_end leaves nodes m others o k)
      (node_ends leaves node _ entry (others ++ o) h)))))

  pub pairs_end : {limit : ℕ} → ReadsLeaves limit → (pairs : Pairs) (m : ℕ) (t o : List ℕ)
      → ArePairs most_open pairs m t o → EndsWithLine t o
  pairs_end leaves NoPair m t o h = absurd h
  pairs_end leaves (MorePairs key value pairs) m t o (pair, others, h, k, e) = ends_so t (pair ++ others) o e
      (last_ends pair others o (other_pairs_end leaves pairs m others o k)
      (pair_ends key value (node_ends leaves key) (node_ends leaves value) m pair (others ++ o) h))

  other_pairs_end : {limit : ℕ} → ReadsLeaves limit → (pairs : Pairs) (m : ℕ) (t o : List ℕ)
      → AreOtherPairs most_open pairs m t o → (t ≡ []) ⊎ EndsWithLine t o
  other_pairs_end leaves NoPair m t o h = inl h
  other_pairs_end leaves (MorePairs key value pairs) m t o (front, pair, others, front_is, h, k, e) =
      inr (ends_so t (front ++ (pair ++ others)) o e (ends_back front (pair ++ others) o
      (last_ends pair others o (other_pairs_end leaves pairs m others o k)
      (pair_ends key value (node_ends leaves key) (node_ends leaves value) m pair (others ++ o) h))))

-- ## Columns

no_feeds : (n : ℕ) → AreIn (λ c. not (c == line_feed)) (spaces n)
no_feeds zero = tt
no_feeds (suc n) = (refl, no_feeds n)

spaces_size : (n : ℕ) → length (spaces n) ≡ n
spaces_size zero = refl
spaces_size (suc n) = let more = spaces_size n in omega (arith, more)

pub spaces_moved : (m : Marker) (n : ℕ) → moved m (spaces n) ≡ along m n
spaces_moved m n = moved_along m (spaces n) (no_feeds n) ∙ ap (along m) (spaces_size n)

-- the column after filler and indentation that begin at a line's start
pub indentation_col : (m : Marker) (column : ℕ) (w : List ℕ) → IsEntryIndentation column w → m.col ≡ 0
    → (moved m w).col ≡ column
indentation_col m column w h e = grind (arith, moved_append, spaces_moved, moved, filler_line)

pub indentation_skipped : (column : ℕ) (w : List ℕ) → IsEntryIndentation column w → IsSkipped w
indentation_skipped column w (filler, h, is) = grind (arith, skipped_append, filler_skipped, spaces_skipped)

-- ## Before a token

pub content_clean : (c : ℕ) (cs : List ℕ) → IsContentStart c → IsClean (c ∷ cs)
content_clean c cs h least m blank = stop_tabbed least m blank (c ∷ cs) (content_stop c cs h)

-- where what is passed leads to a token
pub passes_to : (m : Marker) (w : List ℕ) (c : ℕ) (cs : List ℕ) → Passes w → IsContentStart c
    → past 0 m (w ++ (c ∷ cs)) ≡ (moved m w, c ∷ cs)
passes_to m w c cs h content = h m (c ∷ cs) ∙ stop_past (moved m w) (c ∷ cs) (content_stop c cs content)

pub reaches : (m : Marker) (w : List ℕ) (c : ℕ) (cs : List ℕ) → IsSkipped w → IsContentStart c
    → past 0 m (w ++ (c ∷ cs)) ≡ (moved m w, c ∷ cs)
reaches m w c cs h content = passes_to m w c cs (skipped_passes w h) content

-- What is skipped comes after a node that ends a line, before a token at a column.
pub behind_indented : (column : ℕ) (m : Marker) (w : List ℕ) (c : ℕ) (cs : List ℕ) → IsEntryIndentation column w
    → IsContentStart c → m.col ≡ 0 → EndsNodeAt (suc column) m (w ++ (c ∷ cs))
behind_indented column m w c cs h content e =
    let k = indentation_skipped column w h in
    let there = reaches m w c cs k content in
    record {
      left = inr (rw there (less (moved m w).col column (indentation_col m column w h e)));
      clean = skipped_clean w (c ∷ cs) k (content_clean c cs content);
    }
  where
    less : (a b : ℕ) → a ≡ b → a < suc b
    less a b e = omega (arith, e)

-- further to the right, what is left of a column is left of it too
pub behind_wider : (i j : ℕ) (m : Marker) (o : List ℕ) → i ≤ j → EndsNodeAt i m o → EndsNodeAt j m o
behind_wider i j m o low h = grind (arith, past)
