-- Two machines side by side give the same inside collections.
use Rattle.std.proofs.Common.{◌≡◌, ℕ, ◌+◌, ◌≤◌, Bool, false, List, [], ◌∷◌, Result, refl, ap, ◌∙◌, arith}
use Rattle.std.specs.Prelude.{if◌then◌else◌}
use Rattle.saphyr_scalar.specs.declared.scalar.position.Marker.{Marker}
use Rattle.saphyr_scalar.specs.declared.scalar.position.Span.{Span}
use Rattle.saphyr_scalar.specs.declared.scalar.fault.Refusal.{Refusal}
use Rattle.saphyr_scanner.specs.Grammar.Tokens as tokens
use Rattle.saphyr_scanner.specs.Grammar.Tokens.{Kind}
use Rattle.saphyr_scanner.specs.Views.Tokens.{Piece}
use Rattle.saphyr_machine.specs.declared.context.NodeContext.{NodeContext}
use Rattle.saphyr_machine.specs.declared.context.NodeContext.TheVariants.{Flow, BlockMapping}
use Rattle.saphyr_machine.specs.declared.state.State.{State}
use Rattle.saphyr_machine.specs.declared.state.State.TheVariants as state
use Rattle.saphyr_machine.specs.Steps.Machine.{◌>>=◌, Machine, Emitted, taken_token, left_out_event, push, with_pair_end, put_back}
use Rattle.saphyr_machine.specs.Steps.Nodes.{context_before, is_left_out, node_behind, node_here, node_inside, node_or_nothing_at}
use Rattle.saphyr_machine.specs.Steps.Block as block
use Rattle.saphyr_machine.specs.Steps.Flow as flow
use Rattle.saphyr_machine.specs.Answer.{weight, is_value}
use Rattle.saphyr_machine.proofs.Beside.Machines.{Beside, SpansAlike, EndsAlike, Near, Held, Alike, EmitsAlike, Both, AtBoth, less, taken, refuses, holds, holds_end, with_ends, expects, emits, emits_end, enters_emitted}
use Rattle.saphyr_machine.proofs.Beside.Nodes.{room, node_beside}

-- the room before the first token of a node that may be left out
abbrev pub optional_room : NodeContext → ℕ
optional_room BlockMapping = 11
optional_room _ = 10

leaves_room : (c : NodeContext) → (10 ≤ optional_room c) × (room c ≤ optional_room c)
leaves_room u0 = grind arith

module _ (w : Beside) where
  -- a step does the same to both machines, or one after a token, or after tokens of these spans
  abbrev StepBeside : ℕ → (Machine → Result Emitted Refusal) → Type 0
  StepBeside d go = Both w d (Alike w) go go

  abbrev TokenBeside : ℕ → (Kind → Piece → Machine → Result Emitted Refusal) → Type 0
  TokenBeside d go = AtBoth w d (Alike w) go go

  abbrev TokenBesideAt : ℕ → (Kind → Span → Piece → Machine → Result Emitted Refusal) → Type 0
  TokenBesideAt d go = (s r : Span) → SpansAlike w s r → AtBoth w d (Alike w) (λ k. go k s) (λ k. go k r)

  pub take : (d : ℕ) (go : Kind → Piece → Machine → Result Emitted Refusal) → TokenBeside d go
      → StepBeside d (λ m. taken_token m >>= (λ t. go t.0.kind t.0 t.1))
  take d go h = taken w (Alike w) d go go h

  -- the token before one has these spans
  take_at : (d : ℕ) (go : Kind → Span → Piece → Machine → Result Emitted Refusal) → TokenBesideAt d go → (s r : Span)
      → SpansAlike w s r → Both w d (Alike w) (λ m. taken_token m >>= (λ t. go t.0.kind s t.0 t.1))
      (λ m. taken_token m >>= (λ t. go t.0.kind r t.0 t.1))
  take_at d go h s r e = taken w (Alike w) d (λ k. go k s) (λ k. go k r) (h s r e)

  inside : (x : State) (c : NodeContext) {d : ℕ} {k : Kind} {t u : Piece} {m n : Machine} → weight x + room c ≤ d
      → Held w d k t u m n → EmitsAlike w (node_inside x c t m) (node_inside x c u n)
  inside x c {d} {k} {t} {u} {m} {n} l h = node_beside w (room c) c (omega arith) k t u (push x m) (push x n)
      (holds w (room c) d x k t u m n l h)

  leaves_out : (x : State) {d : ℕ} {s r : Span} {k : Kind} {t u : Piece} {m n : Machine} → SpansAlike w s r
      → 10 + weight x ≤ d → Held w d k t u m n → EmitsAlike w (left_out_event t x s m) (left_out_event u x r n)
  leaves_out x {d} {s} {r} {k} {t} {u} {m} {n} e l h =
      enters_emitted w _ x s r (put_back t m) (put_back u n) e (omega (arith, l)) h.back tt

  abbrev pub room_for : State → ℕ
  room_for x = optional_room (context_before x) + weight x

  or_nothing : (b : Bool) (x : State) {s r : Span} {k : Kind} {t u : Piece} {m n : Machine}
      → SpansAlike w s r → Held w (room_for x) k t u m n
      → EmitsAlike w (node_or_nothing_at b x s t m) (node_or_nothing_at b x r u n)
  or_nothing u0 x e h = grind (arith, leaves_out, leaves_room, inside)

  -- after an indicator
  behind : (x : State) (s r : Span) → SpansAlike w s r
      → Both w (room_for x) (Alike w) (node_behind x s) (node_behind x r)
  unfolding node_behind
  behind x s r e = take_at (room_for x) (λ k span. node_or_nothing_at (is_left_out x k) x span)
      (λ s r e k t u m n h. or_nothing (is_left_out x k) x e h) s r e

  here : (x : State) → StepBeside (room_for x) (node_here x)
  unfolding node_here
  here x = take (room_for x) (λ k t. node_or_nothing_at (is_left_out x k) x t.span t)
      (λ k t u m n h. or_nothing (is_left_out x k) x h.span h)

  -- ## Block collections

  pub sequence_entries : TokenBeside 10 block.block_sequence_entry_at
  sequence_entries tokens.BlockEnd t u m n h = emits_end w _ t.span u.span m n h.span (omega arith) h.behind tt
  sequence_entries tokens.BlockEntry t u m n h =
      behind state.BlockSequenceEntry t.span u.span h.span _ _ m n (less w m n (omega arith) h.behind)
  sequence_entries k t u m n h = refuses w _ t u h.span

  pub indentless_entries : TokenBeside 10 block.indentless_sequence_entry_at
  indentless_entries tokens.BlockEntry t u m n h =
      behind state.IndentlessSequenceEntry t.span u.span h.span _ _ m n (less w m n (omega arith) h.behind)
  indentless_entries k t u m n h =
      emits_end w _ t.span u.span (put_back t m) (put_back u n) h.span (omega arith) h.back tt

  -- a key that is left out before a value takes more of the room
  pub mapping_keys : (k : Kind) (t u : Piece) (m n : Machine) → Held w (9 + (if is_value k then 3 else 1)) k t u m n
      → EmitsAlike w (block.block_mapping_key_at k t m) (block.block_mapping_key_at k u n)
  mapping_keys tokens.Key t u m n h =
      here state.BlockMappingValue _ _ m n (less w m n (omega arith) h.behind)
  mapping_keys tokens.Value t u m n h = leaves_out _ h.span (omega arith) h
  mapping_keys tokens.BlockEnd t u m n h = emits_end w _ t.span u.span m n h.span (omega arith) h.behind tt
  mapping_keys k t u m n h = refuses w _ t u h.span

  -- a key after a token that is no value
  left_key : (k : Kind) (t u : Piece) (m n : Machine) → is_value k ≡ false → Held w 11 k t u m n
      → EmitsAlike w (left_out_event t state.BlockMappingKey t.span m) (left_out_event u state.BlockMappingKey u.span n)
  left_key k t u m n e h = emits w _ t.span u.span _ _ h.span
      (expects w state.BlockMappingKey m.states n.states (put_back t m) (put_back u n)
      h.behind.states (rw (ap is_value h.kind ∙ e) (omega arith)) h.back) tt

  pub mapping_values : TokenBeside 11 block.block_mapping_value_at
  mapping_values tokens.Value t u m n h =
      behind state.BlockMappingKey t.span u.span h.span _ _ m n (less w m n (omega arith) h.behind)
  mapping_values k t u m n h = left_key k t u m n refl h

  -- ## Flow collections

  pub first_entries : TokenBeside 10 flow.flow_sequence_first_entry_at
  first_entries tokens.FlowSequenceEnd t u m n h = emits_end w _ t.span u.span m n h.span (omega arith) h.behind tt
  first_entries tokens.Key t u m n h = enters_emitted w _ _ _ _ m n h.span (omega arith) h.behind tt
  first_entries k t u m n h = inside _ Flow (omega arith) h

  pub other_entries : TokenBeside 10 flow.flow_sequence_entry_at
  unfolding flow.flow_sequence_first_entry
  other_entries tokens.FlowSequenceEnd t u m n h = emits_end w _ t.span u.span m n h.span (omega arith) h.behind tt
  other_entries tokens.FlowEntry t u m n h =
      take 10 flow.flow_sequence_first_entry_at first_entries _ _ m n (less w m n (omega arith) h.behind)
  other_entries k t u m n h = refuses w _ t u h.span

  pub pair_keys : StepBeside 13 flow.flow_sequence_entry_mapping_key
  unfolding flow.flow_sequence_entry_mapping_key
  pair_keys = here state.FlowSequenceEntryMappingValue

  -- a pair ends where the token does
  ended : {d : ℕ} {k : Kind} (t u : Piece) {m n : Machine} → Held w d k t u m n
      → Held w d k t u (with_pair_end t.span.end m) (with_pair_end u.span.end n)
  ended {d} {k} t u {m} {n} h = holds_end w d k t u m n t.span.end u.span.end (w.last _ _ _ _ h.span) h

  -- what comes after the colon of a pair
  abbrev pair_node_at : Kind → Piece → Machine → Result Emitted Refusal
  pair_node_at k t m =
      let end : State = state.FlowSequenceEntryMappingEnd in
      node_or_nothing_at (is_left_out end k) end t.span t (with_pair_end t.span.end m)

  pair_nodes : TokenBeside 12 pair_node_at
  pair_nodes tokens.FlowEntry t u m n h = leaves_out _ h.span (omega arith) (ended t u h)
  pair_nodes tokens.FlowSequenceEnd t u m n h = leaves_out _ h.span (omega arith) (ended t u h)
  pair_nodes k t u m n h = inside _ Flow (omega arith) (ended t u h)

  pub pair_values : TokenBeside 12 flow.flow_sequence_entry_mapping_value_at
  unfolding flow.flow_sequence_entry_mapping_node
  pair_values tokens.Value t u m n h =
      take 12 pair_node_at pair_nodes _ _ m n (less w m n (omega arith) h.behind)
  pair_values k t u m n h = leaves_out _ h.span (omega arith) (ended t u h)

  pairs : TokenBesideAt 12 flow.flow_mapping_pair_at
  pairs s r e tokens.Key t u m n h = here state.FlowMappingValue _ _ m n (less w m n (omega arith) h.behind)
  pairs s r e tokens.Value t u m n h = leaves_out _ h.span (omega arith) h
  pairs s r e tokens.FlowMappingEnd t u m n h = emits_end w _ s r m n e (omega arith) h.behind tt
  pairs s r e k t u m n h = inside _ Flow (omega arith) h

  pub other_pairs : TokenBeside 10 flow.flow_mapping_key_at
  unfolding flow.flow_mapping_pair_behind_comma
  other_pairs tokens.FlowMappingEnd t u m n h = emits_end w _ t.span u.span m n h.span (omega arith) h.behind tt
  other_pairs tokens.FlowEntry t u m n h = take_at 12 flow.flow_mapping_pair_at pairs t.span u.span h.span _ _ m n
      (less w m n (omega arith) h.behind)
  other_pairs k t u m n h = refuses w _ t u h.span

  pub values_in_braces : TokenBeside 11 flow.flow_mapping_value_at
  values_in_braces tokens.Value t u m n h =
      behind state.FlowMappingKey t.span u.span h.span _ _ m n (less w m n (omega arith) h.behind)
  values_in_braces k t u m n h = leaves_out _ h.span (omega arith) h

  -- ## What steps take or leave out first

  pair_ends_at : (p q : Marker) (ps qs : List Marker) {a x : Marker} {m n : Machine} → w.Spans p p q q
      → EndsAlike w ps qs → Near w a x 11 m n
      → EmitsAlike w (flow.pair_ended_at p ps m) (flow.pair_ended_at q qs n)
  pair_ends_at p q ps qs {m = m} {n = n} e es near =
      enters_emitted w _ state.FlowSequenceEntry _ _ (record m { pair_ends = ps }) (record n { pair_ends = qs }) e
      (omega arith) (with_ends w _ m n ps qs es near) tt

  pub pair_ends : StepBeside 11 flow.flow_sequence_entry_mapping_end
  unfolding flow.flow_sequence_entry_mapping_end
  pair_ends a x m n near = by m.pair_ends n.pair_ends near.pair_ends
    where
      by : (ps qs : List Marker) → EndsAlike w ps qs
          → EmitsAlike w (flow.pair_ended_from ps m) (flow.pair_ended_from qs n)
      by [] [] es = pair_ends_at _ _ [] [] w.start es near
      by [] (q ∷ qs) es = absurd es
      by (p ∷ ps) [] es = absurd es
      by (p ∷ ps) (q ∷ qs) es = pair_ends_at p q ps qs es.0 es.1 near

  pub first_pairs : TokenBeside 12 (λ k t. flow.flow_mapping_pair_at k t.span t)
  first_pairs k t u m n h = pairs t.span u.span h.span k t u m n h

  pub empty_values : TokenBeside 11 (λ k t. left_out_event t state.FlowMappingKey t.span)
  empty_values k t u m n h = leaves_out _ h.span (omega arith) h
