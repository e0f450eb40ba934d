-- The events of any tokens are a beginning of some forest's.
use Rattle.event_laws.proofs.Common.{BeginsSomeForest, HaveTokens, IsAllUnless, IsCut, unplaced_events, unplaced_tokens, ◌≡◌, ◌≢◌, ℕ, zero, suc, ◌+◌, ◌<◌, ◌≤◌, ◌^◌, Bool, List, [], ◌∷◌, ◌++◌, length, Option, Some, Result, Ok, Err, refl, sym, ap, ◌∙◌, inl, inr, append_assoc, append-nil, arith, length-append, Refusal, Kind, Piece, Remaining, State, one_more_anchor, anchor_of, anchors, Part, Happening, kinds, Machine, Emitted, Answer, empty_answer, with_first_event, ending_of, fault_alone, answer_of_step, remaining_answer, machine_size, at_start, keeping_tags, to_come, AreWellFormed, unroll, over, shrinks_at}
use Rattle.event_laws.specs.EventsTaken as taking
use Rattle.event_laws.proofs.OwnTokens.{own_more}
use Rattle.saphyr_machine.specs.declared.state.State.TheVariants as state
use Rattle.saphyr_machine.specs.Steps.Expected.{event_step, event_step_at}
use Rattle.event_laws.proofs.Emitted.Emitting.{Memory}
use Rattle.event_laws.proofs.Remembering.{after, event_in, events_in}
use Rattle.event_laws.proofs.MemoryFits.{same_events}
use Rattle.event_laws.proofs.Promises.Forests.{documents_within, all_compatible, at_first, fits_start}
use Rattle.event_laws.proofs.Turned.Following.{Behind, Outside, IsAlive, IsOutside, IsInsideDocument}
use Rattle.event_laws.proofs.Turned.Turning.{Aside, machine, memory, Goes, weaker, kinds_append}
use Rattle.event_laws.proofs.Turned.Entries.{Wanted, WantedIn, Turns}
use Rattle.event_laws.proofs.Turned.Sequences as sequence
use Rattle.event_laws.proofs.Turned.Mappings as mapping
use Rattle.event_laws.proofs.Turned.Block as block
use Rattle.event_laws.proofs.Turned.Documents.{Over, MovesOn, moves}
use Rattle.event_laws.proofs.Turned.Documents as document
use Rattle.event_laws.proofs.Turned.DocumentEnds as behind
use Rattle.event_laws.proofs.Completions.{Completion, completed}
use Rattle.event_laws.proofs.BareParts.{bare_anchors}
use Rattle.event_laws.proofs.Happenings.{happenings_of}

-- ## Each step

outside_moves : (s x : State) (ts : List Piece) (r : Aside) (e : Memory) → AreWellFormed ts → IsOutside s
    → MovesOn (Wanted s [] (kinds ts)) e ts (event_step_at s (machine ts r x [] e))
outside_moves state.StreamStart x ts r e w i =
    moves (Wanted state.StreamStart [] (kinds ts)) e ts _ (document.stream_turned ts r x e)
outside_moves state.ImplicitDocumentStart x ts r e w i = document.implicit_moves ts r x e w
outside_moves state.DocumentStart x ts r e w i = document.explicit_moves ts r x e w
outside_moves state.DocumentEnd x ts r e w i =
    moves (Wanted state.DocumentEnd [] (kinds ts)) e ts _ (weaker (Outside state.DocumentEnd)
    (Wanted state.DocumentEnd [] (kinds ts)) e ts _ (λ ks ps f. (f, tt)) (behind.document_end_turned ts r x e))
outside_moves _ x ts r e w i = elim i [ ]

-- a step inside a document, in a state before which any token may be
any_before : (s : State) → Turns (λ _. Behind s) (event_step_at s)
    → Turns (λ _ R ks ps. Behind s R ks ps × Unit {0}) (event_step_at s)
any_before s h ts r x o ss e w a = grind arith

inside_turned : (s : State) → IsInsideDocument s → Turns (WantedIn s) (event_step_at s)
inside_turned state.DocumentContent i = any_before state.DocumentContent behind.content_turned
inside_turned state.BlockNode i = any_before state.BlockNode behind.block_node_turned
inside_turned state.BlockSequenceEntry i = any_before state.BlockSequenceEntry block.sequence_entry_turned
inside_turned state.IndentlessSequenceEntry i = block.indentless_entry_turned
inside_turned state.BlockMappingKey i = block.mapping_key_turned
inside_turned state.BlockMappingValue i = block.mapping_value_turned
inside_turned state.FlowSequenceFirstEntry i = any_before state.FlowSequenceFirstEntry sequence.first_entry_turned
inside_turned state.FlowSequenceEntry i = any_before state.FlowSequenceEntry sequence.other_entry_turned
inside_turned state.FlowSequenceEntryMappingKey i =
    any_before state.FlowSequenceEntryMappingKey sequence.pair_key_turned
inside_turned state.FlowSequenceEntryMappingValue i =
    any_before state.FlowSequenceEntryMappingValue sequence.pair_value_turned
inside_turned state.FlowSequenceEntryMappingEnd i =
    any_before state.FlowSequenceEntryMappingEnd sequence.pair_end_turned
inside_turned state.FlowMappingFirstKey i = any_before state.FlowMappingFirstKey mapping.first_pair_turned
inside_turned state.FlowMappingKey i = any_before state.FlowMappingKey mapping.other_pair_turned
inside_turned state.FlowMappingValue i = mapping.mapping_value_turned
inside_turned state.FlowMappingEmptyValue i = any_before state.FlowMappingEmptyValue mapping.empty_value_turned
inside_turned _ i = elim i [ ]

step_moves : (s x : State) (ss : List State) (ts : List Piece) (r : Aside) (e : Memory) → AreWellFormed ts
    → IsAlive s ss → MovesOn (Wanted s ss (kinds ts)) e ts (event_step_at s (machine ts r x ss e))
step_moves s x [] ts r e w a = outside_moves s x ts r e w a
step_moves s x (o ∷ ss) ts r e w a =
    moves (Wanted s (o ∷ ss) (kinds ts)) e ts _ (inside_turned s a.0 ts r x o ss e w a.1)

-- ## All steps

-- The events are a beginning of those of some parts that may follow, by a beginning of their tokens.
pub record BeginsSomeParts (s : State) (ss : List State) (ts : List Piece) (e : Memory) (a : Answer) : Type 0 where
  pub read : List Piece
  pub unread : List Piece
  pub expected : List Kind
  pub parts : List Part
  pub missing : List Happening
  pub are_read : ts ≡ read ++ unread
  pub wanted : Wanted s ss (kinds ts) (kinds read ++ expected) parts
  pub emitted : events_in e parts ≡ Some (happenings_of a ++ missing)
  pub few : anchors parts ≤ length read
  pub places : HaveTokens unread a.events read
  pub have_expected : HaveTokens [] (unplaced_events missing) (unplaced_tokens expected)
  pub all_read : IsAllUnless a.fault unread
  pub all_expected : IsAllUnless a.fault expected
  pub all_given : IsCut a.fault missing

finishes_at_fault : (s : State) (ss : List State) (ts : List Piece) (e : Memory) (f : Refusal) → IsAlive s ss
    → BeginsSomeParts s ss ts e (fault_alone (ending_of f))
finishes_at_fault s ss ts e f a =
    let c : Completion s ss = completed ss s a in
    record {
      read = [];
      unread = ts;
      expected = c.kinds;
      parts = c.parts;
      missing = c.emitted;
      are_read = refl;
      wanted = (c.follows, c.starts (kinds ts));
      emitted = c.emits e;
      few = (let n = bare_anchors c.parts c.bare in omega (arith, n));
      places = taking.nothing;
      have_expected = c.have;
      all_read = tt;
      all_expected = tt;
      all_given = c.some;
    }

events_joined : (part : Part) (ps : List Part) (e : Memory) (w : Happening) (es : List Happening)
    → event_in e part ≡ Some w → events_in (after part e) ps ≡ Some es → events_in e (part ∷ ps) ≡ Some (w ∷ es)
events_joined part ps e w es h k = cc

more_anchors : (o : Option (List ℕ)) (n a b : ℕ) → one_more_anchor o 0 ≤ a → n ≤ b → one_more_anchor o n ≤ a + b
more_anchors o n a b h k = grind arith

finishes_behind_event : (s : State) (ss : List State) (ts : List Piece) (e : Memory) (x : Emitted) (a : Answer)
    → Goes (Wanted s ss (kinds ts)) e ts x
    → BeginsSomeParts x.machine.state x.machine.states x.machine.tokens.pieces (memory x.machine) a
    → BeginsSomeParts s ss ts e (with_first_event (x.what, x.span) a)
finishes_behind_event s ss ts e x a g h = record {
  read = g.used ++ h.read;
  unread = h.unread;
  expected = h.expected;
  parts = g.part ∷ h.parts;
  missing = h.missing;
  are_read = cc (append_assoc g.used h.read h.unread);
  wanted = rw (ap (λ (l : List Kind). l ++ h.expected) (kinds_append g.used h.read) ∙ append_assoc (kinds g.used)
      (kinds h.read) h.expected) (g.makes (kinds h.read ++ h.expected) h.parts h.wanted.0 h.wanted.1);
  emitted = events_joined g.part h.parts e x.what (happenings_of a ++ h.missing) g.emits (rw g.remembers at h.emitted);
  few = (let l = length-append g.used h.read in let m =
      more_anchors (anchor_of g.part) (anchors h.parts) (length g.used) (length h.read) g.few h.few in
      omega (arith, l, m));
  places = own_more g.used h.read h.unread x.what x.span a.events (rw h.are_read at g.places) h.places;
  have_expected = h.have_expected;
  all_read = h.all_read;
  all_expected = h.all_expected;
  all_given = h.all_given;
}

is_over : (s : State) (ss : List State) (ts : List Piece) (e : Memory) (x : Emitted)
    → Over (Wanted s ss (kinds ts)) e ts x
    → BeginsSomeParts s ss ts e (with_first_event (x.what, x.span) empty_answer)
is_over s ss ts e x o = record {
  read = ts;
  unread = [];
  expected = [];
  parts = o.part ∷ [];
  missing = [];
  are_read = sym (append-nil ts);
  wanted = rw (append-nil (kinds ts)) o.makes;
  emitted = events_joined o.part [] e x.what [] o.emits refl;
  few = o.few;
  places = rw (append-nil ts) at (own_more ts [] [] x.what x.span [] o.places taking.nothing);
  have_expected = taking.nothing;
  all_read = refl;
  all_expected = refl;
  all_given = refl;
}

behind_used : (used ts us : List Piece) → ts ≡ used ++ us → AreWellFormed ts → AreWellFormed us
behind_used [] ts us e w = rw e at w
behind_used (t ∷ used) ts us e w = behind_used used (used ++ us) us refl ((rw e at w).2)

alive_is_no_end : (s : State) (ss : List State) → IsAlive s ss → s ≢ state.End
alive_is_no_end s [] a e = rw e at a
alive_is_no_end s (o ∷ ss) a e = rw e at a.0

finishes : (n : ℕ) (m : Machine) → machine_size m < n → AreWellFormed m.tokens.pieces → IsAlive m.state m.states
    → BeginsSomeParts m.state m.states m.tokens.pieces (memory m) (remaining_answer m)
unfolding event_step
finishes zero m l w a = absurd (omega (arith, l))
finishes (suc n) m l w a = rw (unroll m (alive_is_no_end m.state m.states a))
    (by (event_step m) refl (step_moves m.state m.state m.states m.tokens.pieces
    (record { refusal = m.tokens.refusal; pair_ends = m.pair_ends }) (memory m) w a)
    (λ k. finishes n k))
  where
    by : (r : Result Emitted Refusal) → event_step m ≡ r
        → MovesOn (Wanted m.state m.states (kinds m.tokens.pieces)) (memory m) m.tokens.pieces r
        → ((k : Machine) → machine_size k < n → AreWellFormed k.tokens.pieces → IsAlive k.state k.states
        → BeginsSomeParts k.state k.states k.tokens.pieces (memory k) (remaining_answer k))
        → BeginsSomeParts m.state m.states m.tokens.pieces (memory m) (answer_of_step r remaining_answer)
    by (Err f) e h go = finishes_at_fault m.state m.states m.tokens.pieces (memory m) f a
    by (Ok x) e (inl g) go =
        finishes_behind_event m.state m.states m.tokens.pieces (memory m) x (remaining_answer x.machine) g
        (go x.machine (let s = shrinks_at (machine_size m) m x (omega arith) e in omega (arith, l, s))
        (behind_used g.used m.tokens.pieces x.machine.tokens.pieces g.taken w) g.alive)
    by (Ok x) e (inr o) go = rw (over x.machine o.is_over) (is_over m.state m.states m.tokens.pieces (memory m) x o)

-- ## From the start

from_start : (tokens : Remaining) (keep : Bool) (a : Answer) → length tokens.pieces < 2 ^ 64
    → BeginsSomeParts state.StreamStart [] tokens.pieces (at_first keep) a → BeginsSomeForest keep tokens a
from_start tokens keep a l h = grind (arith, documents_within, all_compatible, length-append, same_events, fits_start)

pub begins : (tokens : Remaining) (keep : Bool) → AreWellFormed tokens.pieces → length tokens.pieces < 2 ^ 64
    → BeginsSomeForest keep tokens (to_come (keeping_tags keep (at_start tokens)))
begins tokens keep w l =
    let r : Aside = record { refusal = tokens.refusal; pair_ends = [] } in
    let m : Machine = machine tokens.pieces r state.StreamStart [] (at_first keep) in
    from_start tokens keep (remaining_answer m) l (finishes (suc (machine_size m)) m (omega arith) w tt)
