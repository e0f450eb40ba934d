-- States of a scanner that reads a node in flow style, whatever block collections are open around it.
use Rattle.yaml_laws.proofs.Common.{Bool, List, Ok, [], ap, arith, cond, false, length, slice_index, refl, true, ℕ, ◌++◌, ◌<◌, ◌∙◌, ◌∷◌, ◌≡◌, ◌≤◌, ◌⊎◌, None, Option, Some, if◌then◌else◌, nat_lt, not, ◌&&◌, ◌-◌, ◌||◌, SkipTabs, Yes, Marker, Cursor, along, separation, ◌>>=◌, Context, Kind, Place, Candidate, Level, is_block, State, after_step, on_core, most_open, LeadsTo, leads_on, onward, stay, cursor_at, le-leb, level_of, saved, queue_of}
use Rattle.saphyr_scanner.specs.Steps.Core.{Core, is_too_far, drop_far_key, save_key, from_to, completed_step}
use Rattle.saphyr_scanner.specs.Steps.Flow as flow
use Rattle.saphyr_scanner.specs.Steps.Flow.{open_collection, close_collection, behind_pair}
use Rattle.saphyr_scanner.specs.Steps.Unrolling.{end_blocks, unroll}
use Rattle.saphyr_scanner.specs.Steps.Fetch.{fetch, step, check_limit, fetch_within}

-- ## What stays as it is

-- How long the text may be, which block collections are open around the nodes that are read, and whether a key is
-- required at block level, and inside the nodes. `column` is the first column to the right of the innermost collection,
-- and 0 where there is none; `indent` is the indentation of the nodes, which is further right where they are in a key
-- that begins a block mapping. `held` is the key on one line that is read, where a key is.
pub record Around : Type 0 where
  pub limit : ℕ
  pub column : ℕ
  pub indent : ℕ
  pub low : column ≤ indent
  pub outers : List ℕ
  pub pending : Bool
  pub required : Bool
  pub held : Option Candidate

pub not_more : (n : ℕ) → n ≤ n
not_more n = omega arith

-- no block collection is open
abbrev pub alone : ℕ → Around
alone limit = record {
  limit = limit;
  column = 0;
  indent = 0;
  low = not_more 0;
  outers = [];
  pending = false;
  required = false;
  held = None;
}

-- ## States

abbrev pub required_at : Around → Context → Bool
required_at around x = if is_block x then around.pending else around.required

-- What a step changes: the text that is left and where it is, the level with the key that is kept at it, the levels
-- around it, whether a key may begin, where a colon may come at once, and the places in the queue.
pub record FlowMoment : Type 0 where
  pub cursor : Cursor
  pub context : Context
  pub key : Option Candidate
  pub outer : List Level
  pub allowed : Bool
  pub adjacent : ℕ
  pub places : List Place

-- a moment by its parts
abbrev pub moment : Cursor → Context → Option Candidate → List Level → Bool → ℕ → List Place → FlowMoment
moment s x k ls a ad ps =
    record { cursor = s; context = x; key = k; outer = ls; allowed = a; adjacent = ad; places = ps }

-- the same in another context
abbrev pub moment_in : Context → FlowMoment → FlowMoment
moment_in x now = record now { context = x }

-- the same with another cursor
abbrev pub at_cursor : Cursor → FlowMoment → FlowMoment
at_cursor cursor now = record now { cursor = cursor }

-- the same with further places
abbrev pub moment_with : List Place → FlowMoment → FlowMoment
moment_with new now = record now { places = now.places ++ new }

-- right at a token at m, where the text is y
abbrev pub right_at : FlowMoment → List ℕ → Marker → Bool → Option Candidate → Bool → FlowMoment
right_at now y m blank key allowed = record now { cursor = cursor_at y m blank; key = key; allowed = allowed }

abbrev pub core_at : Around → Bool → FlowMoment → Core
core_at around d now =
    record {
      cursor = now.cursor;
      level = record { context = now.context; key = now.key };
      outer = now.outer;
      required = required_at around now.context;
      key_allowed = now.allowed;
      adjacent = now.adjacent;
      indent = around.column;
      deeper = d;
      outer_indents = around.outers;
      comment = None;
      started = true;
      ended = false;
    }

-- The state at a moment, and whether content has to be one column further right, which comes last: it is so after a
-- bracket, and not after a plain scalar, and nothing that is read depends on it. So runs are told for both.
abbrev pub state_at : Around → FlowMoment → Bool → State
state_at around now d = record { core = core_at around d now; queue = queue_of now.places }

-- a core and a state with the comment that ended a plain scalar outside flow
abbrev pub noted_core : Option Marker → Core → Core
noted_core comment c = record c { comment = comment }

abbrev pub noted : Option Marker → State → State
noted comment s = record s { core = noted_core comment s.core }

-- the column that content has to reach
abbrev pub least : ℕ → Bool → ℕ
least indent d = if d then indent else indent - 1

pub least_low : (indent : ℕ) (d : Bool) → least indent d ≤ indent
least_low indent true = omega arith
least_low indent false = grind arith

pub not_left : (indent col : ℕ) (d : Bool) → indent ≤ col → nat_lt col (least indent d) ≡ false
not_left indent col d h = grind arith

-- the column that content has to reach around a node, which is not right of the node's indentation
abbrev pub reach : Around → Bool → ℕ
reach around d = least around.column d

pub reach_low : (around : Around) (d : Bool) → reach around d ≤ around.indent
reach_low around d = grind arith

pub in_column : (around : Around) (col : ℕ) → around.indent ≤ col → around.column ≤ col
in_column around col h = let low = around.low in omega (arith, low, h)

-- a state from which the scanner comes to another
pub record Run (around : Around) (to : Bool → State) (start : State) : Type 0 where
  pub deeper : Bool
  pub leads : LeadsTo around.limit (to deeper) start

pub record RunsTo (around : Around) (to start : Bool → State) : Type 0 where
  pub run : (d : Bool) → Run around to (start d)

pub runs_to_itself : (around : Around) (s : Bool → State) → RunsTo around s s
runs_to_itself around s = record { run = λ d. record { deeper = d; leads = stay } }

pub chains : {around : Around} {c b a : Bool → State} → RunsTo around b a → RunsTo around c b → RunsTo around c a
chains f g = grind (arith, leads_on)

-- ## A key outside flow may be forgotten

-- the key that is left
abbrev pub key_left : Context → Option Candidate → Marker → Option Candidate
key_left x k m = if is_block x && is_too_far k m then None else k

-- What is known where a key might be dropped: outside flow none is required, or it is near.
pub data Kept (around : Around) (x : Context) (k : Option Candidate) (m : Marker) : Type 0 where
  unrequired : around.pending ≡ false → Kept around x k m
  kept_inside : is_block x ≡ false → Kept around x k m
  kept_near : is_too_far k m ≡ false → Kept around x k m

-- a moment with the key that is left
abbrev pub with_key_left : FlowMoment → FlowMoment
with_key_left now = record now { key = key_left now.context now.key now.cursor.mark }

pub drops_far_key : (around : Around) (comment : Option Marker) (d : Bool) (now : FlowMoment)
    → Kept around now.context now.key now.cursor.mark → drop_far_key (noted_core comment (core_at around d now))
    ≡ Ok (noted_core comment (core_at around d (with_key_left now)))
unfolding drop_far_key
drops_far_key around comment d now (unrequired calm) = grind arith
drops_far_key around comment d now (kept_inside flow) = grind arith
drops_far_key around comment d now (kept_near near) = grind arith

pub left_near : (x : Context) (k : Option Candidate) (m : Marker) → is_too_far k m ≡ false → key_left x k m ≡ k
left_near x k m near = grind arith

pub left_or_none : (x : Context) (k : Option Candidate) (m : Marker) → (key_left x k m ≡ None) ⊎ (key_left x k m ≡ k)
left_or_none x k m = grind (arith)

pub left_in_flow : (x : Context) (k : Option Candidate) (m : Marker) → is_block x ≡ false → key_left x k m ≡ k
left_in_flow x k m e = rw e refl

-- ## No block collection ends right of its indentation

pub no_ends : (col : ℕ) (m : Marker) (is : List ℕ) (s : State) → nat_lt col (s.core.indent - 1) ≡ false
    → end_blocks (Some col) m is s ≡ s
no_ends col m [] s h = rw h refl
no_ends col m (i ∷ is) s h = rw h refl

pub none_unrolls : (around : Around) (col : ℕ) (m : Marker) (now : FlowMoment) (d : Bool) → around.indent ≤ col
    → unroll (Some col) m (state_at around now d) ≡ state_at around now d
unfolding unroll
none_unrolls around col m now d h = grind (arith, no_ends)

-- ## Steps

-- whether content has to be further right after a bracket, by whether it had to before it
abbrev pub deepened : Around → Context → Bool → Bool
deepened around x d = (is_block x && nat_lt 0 around.column) || d

-- from a state the scanner comes to another, with a comment noted or none, but for the key outside flow
pub record ComesAround (around : Around) (start : Bool → State) (comment : Option Marker) (next : FlowMoment) : Type 0
  where
    pub key : Option Candidate
    pub leads : RunsTo around (λ d. noted comment (state_at around (record next { key = key }) d)) start
    pub same : is_block next.context ≡ false → key ≡ next.key
    pub kept : (key ≡ None) ⊎ (key ≡ next.key)
    pub stays : is_too_far next.key next.cursor.mark ≡ false → key ≡ next.key

-- Where a step gives this, it leads there. Behind the step the limit is tested, and a key outside flow is dropped if
-- it is too far away. So the key is the step's or none: which of them isn't told, since nothing that is read depends
-- on it.
pub comes : (around : Around) (start : Bool → State) (comment : Option Marker) (next : FlowMoment) (to : Bool → Bool)
    → ((d : Bool) → (start d).core.ended ≡ false)
    → ((d : Bool) → fetch (start d) ≡ Ok (noted comment (state_at around next (to d))))
    → next.cursor.mark.index ≤ around.limit → Kept around next.context next.key next.cursor.mark
    → ComesAround around start comment next
unfolding fetch_within
comes around start comment next to going is low kept =
    record {
      key = key_left next.context next.key next.cursor.mark;
      leads = record { run = λ d. one d };
      same = left_in_flow next.context next.key next.cursor.mark;
      kept = left_or_none next.context next.key next.cursor.mark;
      stays = left_near next.context next.key next.cursor.mark;
    }
  where
    there : Bool → State
    there d = noted comment (state_at around (with_key_left next) d)

    one : (d : Bool) → Run around there (start d)
    one d =
        let st = noted comment (state_at around next (to d)) in
        let fits : check_limit around.limit st ≡ Ok st = rw (le-leb next.cursor.mark.index around.limit low) refl in
        record {
          deeper = to d;
          leads = onward (start d) st (there (to d)) (going d)
              (ap (λ r. r >>= check_limit around.limit) (is d) ∙ fits) (ap (λ r. on_core r (queue_of next.places))
              (drops_far_key around comment (to d) next kept)) stay;
        }

-- ## Keys and brackets

-- What is known where a token begins: it is right of the block collections, and at block level no key is required,
-- or it is no first token of a key, and is on a key's line.
pub data Placed (around : Around) (x : Context) (a : Bool) (m : Marker) : Type 0 where
  inside : is_block x ≡ false → around.indent ≤ m.col → Placed around x a m
  right : around.pending ≡ false → around.indent ≤ m.col → Placed around x a m
  behind_key : is_block x ≡ true → a ≡ false → Placed around x a m

pub placed_right : {around : Around} {m : Marker} (x : Context) (a : Bool) → around.pending ≡ false
    → around.indent ≤ m.col → Placed around x a m
placed_right x a calm h = right calm h

-- a moment with the key that a token at a place of the queue may be
abbrev pub with_key_saved : ℕ → FlowMoment → FlowMoment
with_key_saved n now = record now { key = saved now.allowed n now.cursor.mark now.key }

pub saves_key : (n : ℕ) (around : Around) (d : Bool) (now : FlowMoment)
    → Placed around now.context now.allowed now.cursor.mark
    → save_key n (core_at around d now) ≡ core_at around d (with_key_saved n now)
saves_key n around d now h = grind arith

-- a plain scalar inside flow is right of the block collections
pub plain_placed : (around : Around) (x : Context) (a : Bool) (m : Marker) → Placed around x a m
    → (not (is_block x) && nat_lt m.col around.column) ≡ false
plain_placed around x a m h = grind arith

-- The token that y begins with is about to be read at m, for a moment: which key is kept, and whether one may begin.
pub record Ready (around : Around) (start : Bool → State) (now : FlowMoment) (m : Marker) (y : List ℕ) : Type 0 where
  pub blank : Bool
  pub key : Option Candidate
  pub allowed : Bool
  pub to : Bool → Bool
  pub running : (d : Bool) → (start d).core.ended ≡ false
  pub fetches : (d : Bool) → fetch (start d)
      ≡ after_step (step (slice_index y 0) (slice_index y 1) (length now.places)
      (core_at around (to d) (right_at now y m blank key allowed))) (queue_of now.places)
  pub placed : Placed around now.context allowed m
  pub same : is_block now.context ≡ false → (key ≡ now.key) × (allowed ≡ now.allowed)
  pub kept : (key ≡ None) ⊎ (key ≡ now.key)
  pub holds : (k : Candidate) → around.held ≡ Some k → is_block now.context ≡ true
      → (key ≡ Some k) × (allowed ≡ false)

-- the moment right at that token
abbrev pub arrived : {around : Around} {start : Bool → State} {now : FlowMoment} {m : Marker} {y : List ℕ}
    → Ready around start now m y → FlowMoment
arrived {now = now} {m = m} {y = y} v = right_at now y m v.blank v.key v.allowed

pub opening_steps_open : (y : Context) (kind : Kind) (n : ℕ) (around : Around) (d : Bool) (now : FlowMoment)
    → Placed around now.context now.allowed now.cursor.mark → flow.opening_steps y kind n (core_at around d now)
    ≡ open_collection y kind (core_at around (deepened around now.context d) (with_key_saved n now))
unfolding flow.opening_steps
opening_steps_open y kind n around d now h = grind arith

-- what is required around a collection is so inside it
abbrev pub Calm : Around → Context → Type 0
Calm around x = is_block x ≡ true → around.pending ≡ around.required

-- inside a collection of context y
abbrev pub opened : Context → Cursor → FlowMoment → FlowMoment
opened y there now = record now {
  cursor = there;
  context = y;
  key = None;
  outer = level_of now.context now.key ∷ now.outer;
  allowed = true;
}

pub open_collection_gives : (y : Context) (kind : Kind) (ch : ℕ) (r : List ℕ) (m : Marker) (b : Bool) (around : Around)
    (d : Bool) (now : FlowMoment) (found : SkipTabs) (there : Cursor)
    → separation Yes (cursor_at r (along m 1) false) ≡ Ok (found, there) → length now.outer < most_open
    → is_block y ≡ false → Calm around now.context
    → open_collection y kind (core_at around d (at_cursor (cursor_at (ch ∷ r) m b) now))
    ≡ completed_step (from_to m there.mark kind ∷ []) (core_at around d (opened y there now))
unfolding open_collection
open_collection_gives y kind ch r m b around d now found there is low flows calm = grind arith

-- behind a collection, where the level around it is that of context x with the key j, inside ls
abbrev pub closed : Context → Option Candidate → List Level → Cursor → FlowMoment → FlowMoment
closed x j ls there now = record now {
  cursor = there;
  context = x;
  key = j;
  outer = ls;
  allowed = false;
  adjacent = cond (is_block x) now.adjacent there.mark.index;
}

pub close_collection_gives : (ends : Bool) (kind : Kind) (ch : ℕ) (r : List ℕ) (m : Marker) (b : Bool) (around : Around)
    (d : Bool) (now : FlowMoment) (x : Context) (j : Option Candidate) (ls : List Level) (found : SkipTabs)
    (there : Cursor) → separation Yes (cursor_at r (along m 1) false) ≡ Ok (found, there) → is_block now.context ≡ false
    → Calm around x → close_collection ends kind
    (core_at around d (record now { cursor = cursor_at (ch ∷ r) m b; outer = level_of x j ∷ ls }))
    ≡ completed_step (behind_pair ends m (from_to m there.mark kind)) (core_at around d (closed x j ls there now))
unfolding close_collection
close_collection_gives ends kind ch r m b around d now x j ls found there is flows calm = grind arith
