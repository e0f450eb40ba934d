-- Two machines side by side give the same between documents, and in each step.
use Rattle.std.proofs.Common.{◌≡◌, ◌≢◌, ℕ, ◌+◌, ◌≤◌, Bool, List, ◌∷◌, Result, refl, ap, arith, ◌⊎◌, inl, inr}
use Rattle.std.specs.Prelude.{if◌then◌else◌}
use Rattle.saphyr_scalar.specs.declared.scalar.position.Marker.{Marker}
use Rattle.saphyr_scalar.specs.declared.scalar.fault.Refusal.{Refusal}
use Rattle.saphyr_scanner.specs.Grammar.Tokens as tokens
use Rattle.saphyr_scanner.specs.Grammar.Tokens.{Kind}
use Rattle.saphyr_scanner.specs.Views.Tokens.{Piece, Remaining}
use Rattle.saphyr_machine.specs.declared.context.NodeContext.TheVariants.{Block}
use Rattle.saphyr_machine.specs.declared.state.State.{State}
use Rattle.saphyr_machine.specs.declared.state.State.TheVariants as state
use Rattle.saphyr_machine.specs.Events.{Happening}
use Rattle.saphyr_machine.specs.Steps.Machine.{◌>>=◌, Machine, Emitted, with_pieces, put_back, left_out_event}
use Rattle.saphyr_machine.specs.Steps.Documents as document
use Rattle.saphyr_machine.specs.Steps.Documents.{unpassed_token_from, unpassed_token, is_mark, is_end_or_mark, none_declared, directives, without_anchors, without_prefixes}
use Rattle.saphyr_machine.specs.Steps.Nodes.{node}
use Rattle.saphyr_machine.specs.Steps.Block as block
use Rattle.saphyr_machine.specs.Steps.Block.{block_node}
use Rattle.saphyr_machine.specs.Steps.Flow as flow
use Rattle.saphyr_machine.specs.Steps.Expected.{event_step_at}
use Rattle.saphyr_machine.specs.Answer.{begins_with_value, weight_before, total_weight}
use Rattle.saphyr_machine.proofs.Beside.Machines.{Beside, With, Near, Held, GivesAlike, Awaits, IsMarkers, Left, Alike, EmitsAlike, Both, AtBoth, facing, changed, less, taken, taken_by, refuses, expects, emits, emits_end, enters_emitted}
use Rattle.saphyr_machine.proofs.Beside.Nodes.{node_beside}
use Rattle.saphyr_machine.proofs.Beside.Collections as steps
use Rattle.saphyr_machine.proofs.Beside.Passing.{Has, PassesAlike, passes, has, goes_by_marks, goes_by_ends, behind_both, directives_beside}

-- both settings are the same
abbrev pub KeepsSetting : Beside → Type 0
KeepsSetting w = (b c : Bool) → w.Setting b c → c ≡ b

-- The first machine's tokens were all passed, and the step is the one after them.
abbrev pub PassedAll : Beside → Machine → Machine → (Machine → Result Emitted Refusal) → Type 0
PassedAll w m n go = (ts : List Piece) × (us : List Piece)
    × With w (w.Over tokens.DocumentEnd) (with_pieces ts m) (with_pieces us n)
    × (go m ≡ go (with_pieces ts m)) × (go n ≡ go (with_pieces us n))

module _ (w : Beside) where
  -- ## The beginnings of the stream and of documents

  forgets_anchors : (T : Remaining → Remaining → Type 0) (m n : Machine) → With w T m n
      → With w T (without_anchors m) (without_anchors n)
  forgets_anchors u0 m n near = grind arith

  -- after a document's marker these states are expected
  left_behind_marker : (k : Kind) (what : Happening) {a x : Marker} {d : ℕ} (s : State) (ss rs : List State)
      (m n : Machine) → rs ≡ ss
      → 10 + weight_before s m.tokens.pieces + total_weight ss ≤ d
      → Awaits k (record m { state = s; states = ss }) → IsMarkers k what
      → With w (λ r q. w.Ahead a x d r q ⊎ w.Over k r q) m n
      → Left w what (record m { state = s; states = ss }) (record n { state = s; states = rs })
  left_behind_marker k what {a} {x} {d} s ss rs m n es l awaits is near = grind (arith, expects, changed)

  stream_at : AtBoth w 10 (Alike w) document.stream_start_at document.stream_start_at
  stream_at tokens.StreamStart t u m n h =
      enters_emitted w _ _ t.span u.span m n h.span (omega arith) h.behind tt
  stream_at _ t u m n h = refuses w _ t u h.span

  explicit_at : AtBoth w 10 (Alike w) document.explicit_document_at document.explicit_document_at
  explicit_at tokens.DocumentStart t u m n h =
      record {
        what = refl;
        span = h.span;
        machine = left_behind_marker tokens.DocumentStart _ state.DocumentContent (state.DocumentEnd ∷ m.states)
            (state.DocumentEnd ∷ n.states) (without_anchors m) (without_anchors n)
            (ap (λ ss. state.DocumentEnd ∷ ss) h.behind.states) (omega arith) (refl, (m.states, refl)) refl
            (forgets_anchors _ m n h.behind);
        closes = tt;
      }
  explicit_at tokens.ByteOrderMark t u m n h = refuses w _ t u h.span
  explicit_at _ t u m n h = refuses w _ t u h.span

  explicit_document : (d : ℕ) → 10 ≤ d
      → AtBoth w d (Alike w) (λ k. document.explicit_document) (λ k. document.explicit_document)
  unfolding document.explicit_document directives
  explicit_document d l k t u m n h =
      behind_both w 10 (Alike w) _ _ document.explicit_document_at document.explicit_document_at explicit_at
      (directives_beside w 10 (t ∷ m.tokens.pieces) (u ∷ n.tokens.pieces) none_declared t.span.start u.span.start
      (put_back t m) (put_back u n) (facing w _ _ 10 (put_back t m) (put_back u n)
      (less w (put_back t m) (put_back u n) (omega (arith, l)) h.back)))

  -- the end of the stream
  stream_ends : {d : ℕ} (t u : Piece) (m n : Machine) → Held w d tokens.StreamEnd t u m n
      → EmitsAlike w (document.explicit_start_at tokens.StreamEnd t m) (document.explicit_start_at tokens.StreamEnd u n)
  stream_ends t u m n h = grind arith

  implicit_at : AtBoth w 13 (Alike w) document.implicit_start_at document.implicit_start_at
  unfolding document.bare_document
  implicit_at tokens.StreamEnd t u m n h = stream_ends t u m n h
  implicit_at (tokens.VersionDirective major minor) t u m n h = explicit_document 13 (omega arith) _ t u m n h
  implicit_at (tokens.TagDirective handle prefix) t u m n h = explicit_document 13 (omega arith) _ t u m n h
  implicit_at (tokens.ReservedDirective name) t u m n h = explicit_document 13 (omega arith) _ t u m n h
  implicit_at tokens.DocumentStart t u m n h = explicit_document 13 (omega arith) _ t u m n h
  implicit_at _ t u m n h = emits w _ t.span u.span _ _ h.span
      (expects w state.BlockNode (state.DocumentEnd ∷ m.states) (state.DocumentEnd ∷ n.states)
      (without_anchors (put_back t m)) (without_anchors (put_back u n))
      (ap (λ ss. state.DocumentEnd ∷ ss) h.back.states) (omega arith)
      (forgets_anchors _ (put_back t m) (put_back u n) h.back)) tt

  start_at : AtBoth w 10 (Alike w) document.explicit_start_at document.explicit_start_at
  start_at tokens.StreamEnd t u m n h = stream_ends t u m n h
  start_at k t u m n h = explicit_document 10 (omega arith) k t u m n h

  abbrev Starting : Machine → Machine → (Machine → Result Emitted Refusal) → Type 0
  Starting m n go = EmitsAlike w (go m) (go n) ⊎ PassedAll w m n go

  starts_beside : (d : ℕ) (a x : Marker) (m n : Machine) (go : Kind → Piece → Machine → Result Emitted Refusal)
      → AtBoth w d (Alike w) go go → Near w a x d m n
      → Starting m n (λ m. unpassed_token_from is_end_or_mark m.tokens.pieces m >>= (λ t. go t.0.kind t.0 t.1))
  starts_beside d a x m n go f near =
      by _ _ (passes w d _ is_end_or_mark (goes_by_ends w) _ _ a x m n (facing w a x d m n near))
    where
      goes_on_with : Result (Piece × Machine) Refusal → Result Emitted Refusal
      goes_on_with r = r >>= (λ t. go t.0.kind t.0 t.1)

      by : (p q : Result (Piece × Machine) Refusal) → PassesAlike w d (w.Over tokens.DocumentEnd) is_end_or_mark m n p q
          → EmitsAlike w (goes_on_with p) (goes_on_with q)
          ⊎ ((ts : List Piece) × (us : List Piece)
          × With w (w.Over tokens.DocumentEnd) (with_pieces ts m) (with_pieces us n)
          × (goes_on_with p ≡ goes_on_with (unpassed_token_from is_end_or_mark ts (with_pieces ts m)))
          × (goes_on_with q ≡ goes_on_with (unpassed_token_from is_end_or_mark us (with_pieces us n))))
      by p q (inl g) = inl (behind_both w d (Alike w) p q go go f g)
      by p q (inr (ts, us, o, e, y)) = inr (ts, us, o, ap goes_on_with e, ap goes_on_with y)

  implicit_start : (a x : Marker) (m n : Machine) → Near w a x 13 m n → Starting m n document.implicit_start
  unfolding document.implicit_start unpassed_token
  implicit_start a x m n near = starts_beside 13 a x m n document.implicit_start_at implicit_at near

  explicit_start : (a x : Marker) (m n : Machine) → Near w a x 10 m n → Starting m n document.explicit_start
  unfolding document.explicit_start unpassed_token
  explicit_start a x m n near = starts_beside 10 a x m n document.explicit_start_at start_at near

  -- ## The content and the end of documents

  none_at : AtBoth w 10 (Alike w) (λ k. document.no_content) (λ k. document.no_content)
  none_at k t u m n h = emits_end w _ t.span u.span (put_back t m) (put_back u n) h.span (omega arith) h.back tt

  content_at : AtBoth w 10 (Alike w) document.document_content_at document.document_content_at
  content_at u0 t u m n h = grind (arith, none_at, node_beside)

  marks_at : (p q : Marker) → w.Spans p p q q
      → AtBoth w 11 (Has w 11) (λ k. document.token_behind_marks_at k p) (λ k. document.token_behind_marks_at k q)
  marks_at p q e u0 t u m n h = grind arith

  marks : (p q : Marker) → w.Spans p p q q
      → Both w 11 (Has w 11) (document.token_behind_marks p) (document.token_behind_marks q)
  unfolding document.token_behind_marks unpassed_token
  marks p q e a x m n near = by _ _ (passes w 11 _ is_mark (goes_by_marks w) _ _ a x m n (facing w a x 11 m n near))
    where
      by : (r s : Result (Piece × Machine) Refusal) → PassesAlike w 11 (λ r q. ⊥) is_mark m n r s
          → GivesAlike w (Has w 11) (r >>= (λ t. document.token_behind_marks_at t.0.kind p t.0 t.1))
          (s >>= (λ t. document.token_behind_marks_at t.0.kind q t.0 t.1))
      by r s (inl g) = behind_both w 11 (Has w 11) r s (λ k. document.token_behind_marks_at k p)
          (λ k. document.token_behind_marks_at k q) (marks_at p q e) g
      by r s (inr i) = absurd i.2.tokens

  document_at : AtBoth w 11 (Has w 11) document.token_behind_document_at document.token_behind_document_at
  document_at tokens.ByteOrderMark t u m n h = marks t.span.start u.span.start (w.first _ _ _ _ h.span) _ _ m n
      (less w m n (omega arith) h.behind)
  document_at k t u m n h = has w 11 k t u m n h

  document_beside : Both w 11 (Has w 11) document.token_behind_document document.token_behind_document
  unfolding document.token_behind_document
  document_beside = taken w (Has w 11) 11 document.token_behind_document_at document.token_behind_document_at
      document_at

  forgets : (T : Remaining → Remaining → Type 0) (m n : Machine) → KeepsSetting w → With w T m n
      → With w T (without_prefixes m) (without_prefixes n)
  forgets u0 m n keeps near = grind arith

  end_at : AtBoth w 11 (Alike w) document.document_end_at document.document_end_at
  end_at tokens.DocumentEnd t u m n h =
      record {
        what = refl;
        span = h.span;
        machine = left_behind_marker tokens.DocumentEnd _ state.ImplicitDocumentStart m.states n.states m n
            h.behind.states (omega arith) refl refl h.behind;
        closes = tt;
      }
  end_at (tokens.VersionDirective major minor) t u m n h = refuses w _ t u h.span
  end_at (tokens.TagDirective handle prefix) t u m n h = refuses w _ t u h.span
  end_at (tokens.ReservedDirective name) t u m n h = refuses w _ t u h.span
  end_at _ t u m n h =
      enters_emitted w _ _ t.span u.span (put_back t m) (put_back u n) h.span (omega arith) h.back tt

  end_beside : KeepsSetting w → Both w 11 (Alike w) document.document_end document.document_end
  unfolding document.document_end
  end_beside keeps a x m n near = grind (arith, behind_both, end_at, forgets, document_beside)

-- ## All steps

-- a document may begin, or the stream end
abbrev pub IsBetweenDocuments : State → Type 0
IsBetweenDocuments state.ImplicitDocumentStart = Unit {0}
IsBetweenDocuments state.DocumentStart = Unit {0}
IsBetweenDocuments _ = ⊥

start_passed : {A B : Type 0} → A ⊎ B → A ⊎ (Unit {0} × B)
start_passed (inl a) = inl a
start_passed (inr b) = inr (tt, b)

-- A step of both, but that at the end of a document where the settings differ.
pub steps_beside : (w : Beside) (s : State) (a x : Marker) (m n : Machine) → s ≢ state.End
    → (s ≡ state.DocumentEnd → KeepsSetting w) → Near w a x (9 + weight_before s m.tokens.pieces) m n
    → EmitsAlike w (event_step_at s m) (event_step_at s n)
    ⊎ (IsBetweenDocuments s × PassedAll w m n (event_step_at s))
unfolding block_node document.stream_start document.document_content block.block_sequence_entry
    block.indentless_sequence_entry block.block_mapping_key block.block_mapping_value
    flow.flow_sequence_first_entry flow.flow_sequence_entry flow.flow_sequence_entry_mapping_key
    flow.flow_sequence_entry_mapping_value flow.flow_mapping_first_key flow.flow_mapping_key flow.flow_mapping_value
    flow.flow_mapping_empty_value
steps_beside w state.StreamStart a x m n on keeps near =
    inl (taken w _ 10 document.stream_start_at document.stream_start_at (stream_at w) a x m n near)
steps_beside w state.ImplicitDocumentStart a x m n on keeps near =
    start_passed (implicit_start w a x m n near)
steps_beside w state.DocumentStart a x m n on keeps near = start_passed (explicit_start w a x m n near)
steps_beside w state.DocumentContent a x m n on keeps near =
    inl (taken w _ 10 document.document_content_at document.document_content_at (content_at w) a x m n near)
steps_beside w state.DocumentEnd a x m n on keeps near = inl (end_beside w (keeps refl) a x m n near)
steps_beside w state.BlockNode a x m n on keeps near =
    inl (taken w _ 10 (λ k. node Block) (λ k. node Block) (node_beside w 10 Block (omega arith)) a x m n near)
steps_beside w state.BlockSequenceEntry a x m n on keeps near =
    inl (steps.take w 10 _ (steps.sequence_entries w) a x m n near)
steps_beside w state.IndentlessSequenceEntry a x m n on keeps near =
    inl (steps.take w 10 _ (steps.indentless_entries w) a x m n near)
steps_beside w state.BlockMappingKey a x m n on keeps near =
    inl (taken_by w (Alike w) (λ ts. 9 + (if begins_with_value ts then 3 else 1)) block.block_mapping_key_at
    block.block_mapping_key_at a x m n near (λ t u m n g h. steps.mapping_keys w t.kind t u m n h))
steps_beside w state.BlockMappingValue a x m n on keeps near =
    inl (steps.take w 11 _ (steps.mapping_values w) a x m n near)
steps_beside w state.FlowSequenceFirstEntry a x m n on keeps near =
    inl (steps.take w 10 _ (steps.first_entries w) a x m n near)
steps_beside w state.FlowSequenceEntry a x m n on keeps near =
    inl (steps.take w 10 _ (steps.other_entries w) a x m n near)
steps_beside w state.FlowSequenceEntryMappingKey a x m n on keeps near =
    inl (steps.pair_keys w a x m n near)
steps_beside w state.FlowSequenceEntryMappingValue a x m n on keeps near =
    inl (steps.take w 12 _ (steps.pair_values w) a x m n near)
steps_beside w state.FlowSequenceEntryMappingEnd a x m n on keeps near =
    inl (steps.pair_ends w a x m n near)
steps_beside w state.FlowMappingFirstKey a x m n on keeps near =
    inl (steps.take w 12 _ (steps.first_pairs w) a x m n near)
steps_beside w state.FlowMappingKey a x m n on keeps near =
    inl (steps.take w 10 _ (steps.other_pairs w) a x m n near)
steps_beside w state.FlowMappingValue a x m n on keeps near =
    inl (steps.take w 11 _ (steps.values_in_braces w) a x m n near)
steps_beside w state.FlowMappingEmptyValue a x m n on keeps near = inl
    (steps.take w 11 (λ k t. left_out_event t state.FlowMappingKey t.span) (steps.empty_values w) a x m n near)
steps_beside w state.End a x m n on keeps near = absurd (on refl)

-- The same where no marker that is the first machine's last token may be passed.
pub steps_alike : (w : Beside) → ((r q : Remaining) → w.Over tokens.DocumentEnd r q → ⊥) → (s : State) (a x : Marker)
    (m n : Machine) → s ≢ state.End → (s ≡ state.DocumentEnd → KeepsSetting w)
    → Near w a x (9 + weight_before s m.tokens.pieces) m n → EmitsAlike w (event_step_at s m) (event_step_at s n)
steps_alike w never s a x m n on keeps near = grind (arith, steps_beside)
