-- A scanner in which no collection is open, from the start of the stream to its end.
use Rattle.std.proofs.Common.{◌≡◌, ℕ, ◌≤◌, Bool, true, false, List, [], ◌∷◌, ◌++◌, Ok, refl, ap, ◌∙◌, arith}
use Rattle.std.specs.Prelude.{Option, Some, None}
use Rattle.std.proofs.lemmas.Bool.{le-leb}
use Rattle.saphyr_scalar.specs.declared.scalar.position.Marker.{Marker}
use Rattle.saphyr_scalar.specs.Views.Cursor.{Cursor, ◌>>=◌, start_cursor}
use Rattle.saphyr_scalar.proofs.Given.{cursor_at}
use Rattle.saphyr_scanner.specs.declared.engine.level.Context.TheVariants as context
use Rattle.saphyr_scanner.specs.Grammar.Tokens as tokens
use Rattle.saphyr_scanner.specs.Steps.Queue.{Place, bare_place, empty_piece}
use Rattle.saphyr_scanner.specs.Steps.Core.{Core, is_too_far, drop_far_key}
use Rattle.saphyr_scanner.specs.Steps.Level.{Candidate}
use Rattle.saphyr_scanner.specs.Steps.State.{State, start, on_core}
use Rattle.saphyr_scanner.specs.Steps.Unrolling.{unroll}
use Rattle.saphyr_scanner.specs.Steps.Document.{state_behind_end, end_at, end_mark}
use Rattle.saphyr_scanner.specs.Steps.Fetch.{fetch, fetch_here, check_limit, fetch_within}
use Rattle.saphyr_scanner.proofs.Leads.{LeadsTo, stay, onward}
use Rattle.saphyr_scanner.proofs.Queues.{queue_of}

-- ## States

abbrev pub core_at : Bool → Cursor → Option Candidate → Bool → ℕ → Core
core_at e s k a ad =
    record {
      cursor = s;
      level = record { context = context.Block; key = k };
      outer = [];
      required = false;
      key_allowed = a;
      adjacent = ad;
      indent = 0;
      deeper = false;
      outer_indents = [];
      comment = None;
      started = true;
      ended = e;
    }

abbrev pub state_at : Bool → Cursor → Option Candidate → Bool → ℕ → List Place → State
state_at e s k a ad ps = record { core = core_at e s k a ad; queue = queue_of ps }

-- the key may be forgotten
pub record DropsKey (e : Bool) (s : Cursor) (k : Option Candidate) (a : Bool) (ad : ℕ) : Type 0 where
  pub left : Option Candidate
  pub is : drop_far_key (core_at e s k a ad) ≡ Ok (core_at e s left a ad)
  pub none : k ≡ None → left ≡ None

pub drops_key : (e : Bool) (s : Cursor) (k : Option Candidate) (a : Bool) (ad : ℕ) → DropsKey e s k a ad
unfolding drop_far_key
drops_key e s k a ad = by_distance (is_too_far k s.mark) refl
  where
    by_distance : (far : Bool) → is_too_far k s.mark ≡ far → DropsKey e s k a ad
    by_distance true h = record { left = None; is = rw h refl; none = λ _. refl }
    by_distance false h = record { left = k; is = rw h refl; none = λ e. e }

-- no block collection ends
pub none_unrolls : (col : ℕ) (m : Marker) (e : Bool) (s : Cursor) (k : Option Candidate) (a : Bool) (ad : ℕ)
    (ps : List Place) → unroll (Some col) m (state_at e s k a ad ps) ≡ state_at e s k a ad ps
unfolding unroll
none_unrolls col m e s k a ad ps = grind arith

-- ## Runs

-- from a state the scanner comes to one with the key k, or with none
pub record ComesTo (limit : ℕ) (start : State) (to : Option Candidate → State) (k : Option Candidate) : Type 0 where
  pub key : Option Candidate
  pub leads : LeadsTo limit (to key) start
  pub none : k ≡ None → key ≡ None

-- where a step gives this, it leads there
pub comes : (limit : ℕ) (start : State) (e : Bool) (s : Cursor) (k : Option Candidate) (a : Bool) (ad : ℕ)
    (ps : List Place) → start.core.ended ≡ false → fetch start ≡ Ok (state_at e s k a ad ps) → s.mark.index ≤ limit
    → ComesTo limit start (λ key. state_at e s key a ad ps) k
unfolding fetch_within
comes limit start e s k a ad ps going is low =
    let d = drops_key e s k a ad in
    let st = state_at e s k a ad ps in
    let fits : check_limit limit st ≡ Ok st = rw (le-leb s.mark.index limit low) refl in
    record {
      key = d.left;
      leads = onward start st (state_at e s d.left a ad ps) going (ap (λ r. r >>= check_limit limit) is ∙ fits)
          (ap (λ r. on_core r (queue_of ps)) d.is) stay;
      none = d.none;
    }

-- the token of the stream's start
abbrev pub stream_start_place : Place
stream_start_place = bare_place (empty_piece (record { index = 0; line = 1; col = 0 }) tokens.StreamStart)

-- the first step puts that token
pub fetches_stream_start : (limit : ℕ) (text : List ℕ)
    → ComesTo limit (start text) (λ key. state_at false (start_cursor text) key true 0 (stream_start_place ∷ [])) None
unfolding fetch
fetches_stream_start limit text = comes limit (start text) false (start_cursor text) None true 0
    (stream_start_place ∷ []) refl refl (omega arith)

-- the token of the stream's end
abbrev pub stream_end_place : Marker → Place
stream_end_place m = bare_place (empty_piece (end_mark m) tokens.StreamEnd)

-- the last step, at the text's end, puts that one
pub fetches_stream_end : (m : Marker) (b : Bool) (k : Option Candidate) (a : Bool) (ad : ℕ) (ps : List Place)
    → fetch_here (state_at false (cursor_at [] m b) k a ad ps)
    ≡ Ok (state_at true (cursor_at [] m b) k false ad (ps ++ stream_end_place m ∷ []))
unfolding fetch_here state_behind_end end_at unroll
fetches_stream_end m b k a ad ps = refl
