-- The state of a machine that turns tokens into events, and what its steps do to it.
use Rattle.std.specs.Prelude.{ℕ, ◌+◌, ◌-◌, ◌^◌, min, Bool, false, List, [], ◌∷◌, Option, Some, None, Result, Ok, Err}
use Rattle.std.specs.BTreeMap.{is_at, insert_entry}
use Rattle.std.specs.BTreeSet.{insert_key}
use Rattle.std.specs.List.{list_any}
use Rattle.std.specs.Cmp.Lexicographic.{slice_cmp}
use Rattle.std.specs.Map.{lookup}
use Rattle.std.specs.Ordering.{nat_cmp}
use Rattle.saphyr_scalar.specs.declared.scalar.position.Marker.{Marker}
use Rattle.saphyr_scalar.specs.declared.scalar.position.Span.{Span}
use Rattle.saphyr_scalar.specs.declared.scalar.fault.Refusal.{Refusal}
use Rattle.saphyr_scalar.specs.declared.scalar.fault.FaultText.{FaultText}
use Rattle.saphyr_scalar.specs.declared.scalar.fault.FaultText.TheVariants as fault
use Rattle.saphyr_scanner.specs.Views.Tokens.{Piece, Remaining, before}
use Rattle.saphyr_machine.specs.declared.state.State.{State}
use Rattle.saphyr_machine.specs.declared.state.State.TheVariants as state
use Rattle.saphyr_machine.specs.Events.{Happening, empty_scalar}

-- a step, if the one before it gave something
infixl 10 ◌>>=◌
abbrev pub ◌>>=◌ : {A B : Type 0} → Result A Refusal → (A → Result B Refusal) → Result B Refusal
(Ok x) >>= f = f x
(Err e) >>= f = Err e

-- ## Names, each with what it stands for, in the order of their UTF-8 bytes

abbrev pub Names : Type 0 → Type 0
Names X = List (List ℕ × X)

-- what a name stands for
abbrev pub meaning : {X : Type 0} → List ℕ → Names X → Option X
meaning name names = lookup (is_at (slice_cmp nat_cmp name)) names

-- a name gets a meaning, in place of one that it may have
abbrev pub with_meaning : {X : Type 0} → List ℕ → X → Names X → Names X
with_meaning name x names = insert_entry (slice_cmp nat_cmp) names name x

abbrev pub is_listed : List ℕ → List (List ℕ) → Bool
is_listed name names = list_any (is_at (slice_cmp nat_cmp name)) names

-- one more name
abbrev pub with_name : List ℕ → List (List ℕ) → List (List ℕ)
with_name name names = insert_key (slice_cmp nat_cmp) names name

-- the ids of the anchors of a document, and the id that was given last in any document
pub record Anchors : Type 0 where
  pub ids : Names ℕ
  pub last : ℕ

abbrev pub no_anchors : Anchors
no_anchors = record { ids = []; last = 0 }

abbrev pub without_ids : Anchors → Anchors
without_ids a = record { ids = []; last = a.last }

-- the id of one more anchor, up to the last number that can be
abbrev pub next_id : Anchors → ℕ
next_id a = min (a.last + 1) (2 ^ 64 - 1)

abbrev pub with_anchor : List ℕ → Anchors → Anchors
with_anchor name a = record { ids = with_meaning name (next_id a) a.ids; last = next_id a }

-- ## The state

-- the tokens still to be read, what is expected now, what is expected after each node that is open, and where the pairs
-- of flow sequences end that are open, the innermost first
pub record Machine : Type 0 where
  pub tokens : Remaining
  pub state : State
  pub states : List State
  pub pair_ends : List Marker
  pub anchors : Anchors
  pub prefixes : Names (List ℕ)
  pub keep_tags : Bool

-- an event with its span, and the machine that it leaves
pub record Emitted : Type 0 where
  pub what : Happening
  pub span : Span
  pub machine : Machine

abbrev pub emit : Happening → Span → Machine → Result Emitted Refusal
emit what span m = Ok (record { what = what; span = span; machine = m })

abbrev pub refusal_at : {X : Type 0} → FaultText → Piece → Result X Refusal
refusal_at text t = Err (record { text = text; mark = t.span.start; may_change = false })

-- What ends the tokens. A scanner gives the end of the stream or a refusal, so the second case doesn't come.
abbrev pub ending_refusal : Option Refusal → Refusal
ending_refusal (Some e) = e
ending_refusal None = record {
  text = fault.DocumentStartExpected;
  mark = record { index = 0; line = 0; col = 0 };
  may_change = false;
}

abbrev pub with_pieces : List Piece → Machine → Machine
with_pieces ts m = record m { tokens = record { pieces = ts; refusal = m.tokens.refusal } }

abbrev pub taken_token_from : List Piece → Machine → Result (Piece × Machine) Refusal
taken_token_from [] m = Err (ending_refusal m.tokens.refusal)
taken_token_from (t ∷ ts) m = Ok (t, with_pieces ts m)

-- the next token
abbrev pub taken_token : Machine → Result (Piece × Machine) Refusal
taken_token m = taken_token_from m.tokens.pieces m

-- a token that is still to be read
abbrev pub put_back : Piece → Machine → Machine
put_back t m = record m { tokens = before t m.tokens }

abbrev pub pop_from : List State → Machine → Machine
pop_from [] m = record m { state = state.End; states = [] }
pop_from (s ∷ ss) m = record m { state = s; states = ss }

-- what is expected after the node that has ended
abbrev pub pop : Machine → Machine
pop m = pop_from m.states m

abbrev pub with_state : State → Machine → Machine
with_state s m = record m { state = s }

abbrev pub push : State → Machine → Machine
push s m = record m { states = s ∷ m.states }

-- a pair of a flow sequence, which is open, ends there
abbrev pub with_pair_end : Marker → Machine → Machine
with_pair_end place m = record m { pair_ends = place ∷ m.pair_ends }

-- a node is left out before the token
abbrev pub left_out_event : Piece → State → Span → Machine → Result Emitted Refusal
left_out_event t s span m = emit empty_scalar span (with_state s (put_back t m))

abbrev pub text_start : Marker
text_start = record { index = 0; line = 1; col = 0 }

-- at the start of a stream
abbrev pub fresh_machine : Remaining → Machine
fresh_machine r = record {
  tokens = r;
  state = state.StreamStart;
  states = [];
  pair_ends = [];
  anchors = no_anchors;
  prefixes = [];
  keep_tags = false;
}
