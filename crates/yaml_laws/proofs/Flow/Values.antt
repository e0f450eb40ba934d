-- The colons of a text in flow style are read, after a key and without one, and passed as pieces.
use Rattle.std.proofs.Common.{◌≡◌, ℕ, ◌≤◌, Bool, true, false, List, [], ◌∷◌, ◌++◌, length, slice_index, refl, sym, ap, ◌∙◌, arith, append_assoc, IsTrue, ◌⊎◌, inl, inr, Ok}
use Rattle.yaml_laws.proofs.Common.{Option, Some, None, ◌==◌, Marker, Cursor, along, ◌>>=◌, cursor_at, IsSeparation, Context, Kind, Place, bare_place, empty_piece, Action, Open, at_mark, completed_step, perform, Core, Put, Candidate, Level, is_block, begins_pair, behind_colon, State, Node, allows_adjacent, le_next, colon, place_kinds, queue_of, place_kinds_append, with_opening_seam, sub-zero, tab, SkipTabs, Opening, Piece, with_cursor}
use Rattle.saphyr_scanner.specs.Grammar.Tokens as tokens
use Rattle.saphyr_scanner.specs.Steps.Value as value
use Rattle.saphyr_scanner.specs.Steps.Value.{value_alone, opening_actions, check_tab, refuse_lone_tab, value_of_key, behind_key}
use Rattle.yaml_laws.proofs.InFlow.States.{Around, arrived, at_cursor, core_at, state_at, chains, FlowMoment, moment_in, moment_with, kept_inside}
use Rattle.yaml_laws.proofs.Flow.States.{moved, past, IsParted, ends_colon, KeptKey, no_key, after_node, PassesPiece, FitsAround, after, StandsBefore}
use Rattle.yaml_laws.proofs.Flow.Places.{right_one}
use Rattle.yaml_laws.proofs.Flow.GapSteps.{past_content}
use Rattle.yaml_laws.proofs.Flow.Fillers.{separation_past}
use Rattle.yaml_laws.proofs.Flow.Tokens.{arrives, step_comes, within_index}
use Rattle.yaml_laws.proofs.Flow.Joins.{step_passes}
use Rattle.yaml_laws.proofs.InBlock.Crossings.{fresh_in_flow, holds_in_flow}
use Rattle.yaml_laws.proofs.Flow.Brackets.{mark_begins, mark_moved, one_on, IsTokenMark, token_mark}
use Rattle.saphyr_scanner.specs.declared.queue.Opening.TheVariants as opening
use Rattle.saphyr_scanner.specs.Steps.Fetch.{step, flow_value_steps}
use Rattle.yaml_laws.proofs.Flow.Separates.{separates}

-- ## A colon is an indicator

-- where a colon may come at once, or before what ends it
pub colon_reads_value : (around : Around) (d : Bool) (second i : ℕ) (now : FlowMoment) → is_block now.context ≡ false
    → (now.cursor.mark.index ≡ now.adjacent) ⊎ IsTrue (ends_colon second)
    → step 58 second i (core_at around d now) ≡ value.value_steps (core_at around d now)
unfolding step flow_value_steps
colon_reads_value around d second i now e (inl f) = grind arith
colon_reads_value around d second i now e (inr h) = grind arith

-- ## After the colon

pub record Tabbed (around : Around) (o : List ℕ) (m : Marker) (now : FlowMoment) : Type 0 where
  pub there : Cursor
  pub is : (d : Bool) → check_tab (core_at around d (at_cursor (cursor_at o m false) now))
      ≡ Ok (core_at around d (at_cursor there now))
  pub lands : past around.indent there.mark there.rest ≡ past around.indent m o

pub tabbed : (around : Around) (o : List ℕ) (m : Marker) (now : FlowMoment) → is_block now.context ≡ false
    → IsParted around.indent o → around.indent ≤ m.col → Tabbed around o m now
unfolding check_tab
tabbed around o m now flows parted right = by_tab (slice_index o 0 == 9) refl
  where
    by_tab : (b : Bool) → (slice_index o 0 == tab) ≡ b → Tabbed around o m now
    by_tab true e =
        let p = separates around.indent (cursor_at o m false) parted.separation parted.first parted.others parted.is
        parted.parts right parted.ends in
        record {
          there = p.there;
          is = λ d. rw e (ap (λ q. (q >>= λ (z : SkipTabs × Cursor). Ok
              (z.0, with_cursor z.1 (core_at around d (at_cursor (cursor_at o m false) now)))) >>= refuse_lone_tab) p.is
              ∙ (rw flows refl));
          lands = p.lands;
        }
    by_tab false e = record { there = cursor_at o m false; is = λ d. rw e refl; lands = refl }

-- what comes before a key
abbrev pub opened_key : Bool → Opening
opened_key true = opening.FlowMappingAndKey
opened_key false = opening.Key

abbrev pub key_kinds : Bool → List Kind
key_kinds true = tokens.FlowMappingStart ∷ tokens.Key ∷ []
key_kinds false = tokens.Key ∷ []

-- the moment behind a colon
abbrev pub colon_read : Cursor → FlowMoment → FlowMoment
colon_read there now = record now { cursor = there; context = behind_colon now.context; key = None; allowed = false }

pub opens_key : (around : Around) (d : Bool) (k : Candidate) (start : Marker) (there : Cursor) (now : FlowMoment)
    → is_block now.context ≡ false → (begins_pair now.context ≡ true → k.mark.line ≡ start.line)
    → value_of_key k (begins_pair now.context) start
    (core_at around d (record now { cursor = there; context = behind_colon now.context; key = Some k }))
    ≡ completed_step (Open k.place (opened_key (begins_pair now.context)) ∷ at_mark start tokens.Value ∷ [])
    (core_at around d (colon_read there now))
unfolding value_of_key
opens_key around d k start there now e line = grind arith

pub colon_flows : (y : Context) → is_block y ≡ false → is_block (behind_colon y) ≡ false
colon_flows y e = grind arith

pub fetches : (around : Around) (d : Bool) (o : List ℕ) (m : Marker) (b : Bool) (now : FlowMoment)
    → is_block now.context ≡ false → (p : Tabbed around o (along m 1) (moment_in (behind_colon now.context) now))
    → value.value_steps (core_at around d (at_cursor (cursor_at (colon ∷ o) m b) now))
    ≡ behind_key now.key (begins_pair now.context) m
    (core_at around d (at_cursor p.there (moment_in (behind_colon now.context) now)))
unfolding value.value_steps
fetches around d o m b now flows p = grind arith

pub behind_some : (k : Candidate) (begins : Bool) (m : Marker) (c : Core)
    → behind_key (Some k) begins m c ≡ value_of_key k begins m c
unfolding behind_key
behind_some k begins m c = refl

pub behind_none : (begins : Bool) (m : Marker) (c : Core) → behind_key None begins m c ≡ value_alone begins m c
unfolding behind_key
behind_none begins m c = refl

pub colon_is_mark : IsTokenMark 58
colon_is_mark = token_mark 58 refl

-- ## After a key

-- the places of a key with what comes before it, and of the colon
abbrev pub pair_places : Opening → Piece → List Place → Piece → List Place
pair_places op key others mark = record { opening = op; piece = key } ∷ (others ++ bare_place mark ∷ [])

pub performs : (ps others new : List Place) (op : Opening) (key mark : Piece) → new ≡ bare_place key ∷ others
    → perform (Open (length ps) op ∷ Put mark ∷ []) (queue_of (ps ++ new))
    ≡ queue_of (ps ++ pair_places op key others mark)
performs ps others new op key mark is = grind (arith, sub-zero, with_opening_seam, queue_of, append_assoc)

pub pair_kinds : (begins : Bool) (key : Piece) (others new : List Place) (m : Marker) (ts : List Kind)
    → new ≡ bare_place key ∷ others → place_kinds new ≡ ts
    → place_kinds (pair_places (opened_key begins) key others (empty_piece m tokens.Value))
    ≡ key_kinds begins ++ (ts ++ tokens.Value ∷ [])
pair_kinds begins key others new m ts is are = grind (arith, place_kinds, place_kinds_append)

-- the key that a token at a place of the text and of the queue may be
abbrev pub key_at : Marker → List Place → Candidate
key_at m ps = record { mark = m; place = length ps }

-- The colon after a key that begins at `first` and ends at e, and separation w. The scanner reaches the colon with the
-- key still kept: the step opens the key's place, where a mapping's start may come before it (`pair_places`), and puts
-- the colon's token. So the run over the key is told anew, with these tokens in front of the key's.
pub colon_passes : {start : Bool → State} {ls : List Level} {ps : List Place} {ts : List Kind} (around : Around)
    (y : Context) → is_block y ≡ false → (first e : Marker) (node : Node) (w o : List ℕ) → IsSeparation around.indent w
    → FitsAround around (moved e w) (colon ∷ []) o → IsParted around.indent o
    → IsTrue (allows_adjacent node w) ⊎ IsTrue (ends_colon (slice_index o 0))
    → (begins_pair y ≡ true → first.line ≡ (moved e w).line)
    → (kept : KeptKey) → kept.kept ≡ Some (key_at first ps)
    → PassesPiece around start (after_node around.indent y kept (allows_adjacent node) e (w ++ (colon ∷ o))) y ls ps e
    (w ++ (colon ∷ o)) ts → PassesPiece around start (no_key (moved (moved e w) (colon ∷ []))) (behind_colon y) ls ps
    (moved (moved e w) (colon ∷ [])) o
    (key_kinds (begins_pair y) ++ (ts ++ tokens.Value ∷ []))
colon_passes {ps = ps} {ts} around y flows first e node w o parts fits parted ends same_line kept first_kept p =
    let m = moved e w in
    let n = p.knows in
    let lands : past around.indent e (w ++ (58 ∷ o)) ≡ (m, 58 ∷ o) =
    separation_past around.indent e w (58 ∷ o) parts p.right
    ∙ past_content around.indent m 58 o colon_is_mark.content in
    let qs = ps ++ p.new in
    let v = arrives around (after p) m (58 ∷ o) (p.fits ∙ lands) refl (mark_begins m 58 o colon_is_mark fits.clear)
    flows fits.right in
    let k = key_at first ps in
    let same_key : v.key ≡ Some k = (v.same flows).0 ∙ n.keeps flows ∙ first_kept in
    let seen = arrived v in
    let held : FlowMoment = record seen { key = Some k } in
    let t = tabbed around o (along m 1) (moment_in (behind_colon y) held) (colon_flows y flows) parted
    (le_next around.indent m.col fits.right) in
    let stepped = λ (d : Bool). colon_reads_value around d (slice_index o 0) (length qs) seen flows
    (by_place ends (n.near flows w o refl parts))
    ∙ ap (λ (j : Option Candidate). value.value_steps (core_at around d (record seen { key = j }))) same_key
    ∙ fetches around d o m v.blank held flows t
    ∙ behind_some k (begins_pair y) m (core_at around d (at_cursor t.there (moment_in (behind_colon y) held)))
    ∙ opens_key around d k m t.there seen flows same_line in
    let below = fits.below in
    let op = opened_key (begins_pair y) in
    let new = pair_places op n.piece n.others (empty_piece m tokens.Value) in
    let came = step_comes around (state_at around (after p)) (after p) m (58 ∷ o) v None
    (record (colon_read t.there seen) { places = ps ++ new }) (Open (length ps) op ∷ at_mark m tokens.Value ∷ [])
    (λ d. d) stepped (performs ps n.others p.new op n.piece (empty_piece m tokens.Value) n.is)
    (within_index around.indent around.limit t.there (along m 1) o t.lands (omega (arith, below)))
    (kept_inside (colon_flows y flows)) in
    record {
      there = t.there;
      key = came.key;
      allowed = false;
      adjacent = p.adjacent;
      new = new;
      leads = chains p.leads came.leads;
      right = right_one around.indent m 58 refl fits.right;
      fits = t.lands ∙ ap (λ (q : Marker). past around.indent q o) (mark_moved m 58 colon_is_mark);
      fresh = fresh_in_flow (behind_colon y) o false t.there (colon_flows y flows);
      holds = holds_in_flow (colon_flows y flows);
      are = pair_kinds (begins_pair y) n.piece n.others p.new m ts n.is p.are;
      knows = (came.same (colon_flows y flows), refl, one_on m 58 p.adjacent (rw lands at n.low));
    }
  where
    by_place : IsTrue (allows_adjacent node w) ⊎ IsTrue (ends_colon (slice_index o 0))
        → (IsTrue (allows_adjacent node w) → p.adjacent ≡ (moved e w).index)
        → ((moved e w).index ≡ p.adjacent) ⊎ IsTrue (ends_colon (slice_index o 0))
    by_place (inl h) near = inl (sym (near h))
    by_place (inr h) near = inr h

-- ## Without a key

-- what comes before the colon of a value alone
abbrev pub alone_kinds : Bool → List Kind
alone_kinds true = tokens.FlowMappingStart ∷ []
alone_kinds false = []

abbrev alone_places : Bool → Marker → List Place
alone_places true m = bare_place (empty_piece m tokens.FlowMappingStart) ∷ bare_place (empty_piece m tokens.Value) ∷ []
alone_places false m = bare_place (empty_piece m tokens.Value) ∷ []

abbrev alone_actions : Bool → Marker → List Action
alone_actions true m = at_mark m tokens.FlowMappingStart ∷ at_mark m tokens.Value ∷ []
alone_actions false m = at_mark m tokens.Value ∷ []

alone_step : (around : Around) (d : Bool) (m : Marker) (there : Cursor) (now : FlowMoment)
    → is_block now.context ≡ false → value_alone (begins_pair now.context) m
    (core_at around d (record now { cursor = there; context = behind_colon now.context; key = None }))
    ≡ completed_step (alone_actions (begins_pair now.context) m) (core_at around d (colon_read there now))
unfolding value_alone opening_actions
alone_step around d m there now e = grind arith

alone_puts : (begins : Bool) (ps : List Place) (m : Marker)
    → perform (alone_actions begins m) (queue_of ps) ≡ queue_of (ps ++ alone_places begins m)
alone_puts begins ps m = grind (arith, queue_of, append_assoc)

alone_known : (begins : Bool) (m : Marker)
    → place_kinds (alone_places begins m) ≡ alone_kinds begins ++ tokens.Value ∷ []
alone_known begins m = grind arith

-- A colon where no key is kept: a key that is left out, or that a `?` began. As in `colon_passes`, but no place is
-- opened: the start of a pair, if one begins, is put before the colon's token.
pub value_passes : (around : Around) (y : Context) → is_block y ≡ false → (m : Marker) (o : List ℕ)
    → FitsAround around m (colon ∷ []) o → IsParted around.indent o → (now : FlowMoment) → now.key ≡ None
    → (m.index ≡ now.adjacent) ⊎ IsTrue (ends_colon (slice_index o 0)) → now.adjacent ≤ m.index
    → StandsBefore around now m (colon ∷ o)
    → PassesPiece around (state_at around (moment_in y now)) (no_key (moved m (colon ∷ []))) (behind_colon y) now.outer
    now.places (moved m (colon ∷ [])) o (alone_kinds (begins_pair y) ++ tokens.Value ∷ [])
value_passes around y flows m o fits parted now none ends before text =
    let v = arrives around (moment_in y now) m (58 ∷ o)
    (text ∙ past_content around.indent m 58 o colon_is_mark.content) refl
    (mark_begins m 58 o colon_is_mark fits.clear) flows fits.right in
    let seen = arrived v in
    let bare : FlowMoment = record seen { key = None } in
    let t = tabbed around o (along m 1) (moment_in (behind_colon y) bare) (colon_flows y flows) parted
    (le_next around.indent m.col fits.right) in
    let stepped = λ (d : Bool). colon_reads_value around d (slice_index o 0) (length now.places) seen flows ends
    ∙ ap (λ (j : Option Candidate). value.value_steps (core_at around d (record seen { key = j })))
    ((v.same flows).0 ∙ none) ∙ fetches around d o m v.blank bare flows t
    ∙ behind_none (begins_pair y) m (core_at around d (at_cursor t.there (moment_in (behind_colon y) bare)))
    ∙ alone_step around d m t.there seen flows in
    let below = fits.below in
    let new = alone_places (begins_pair y) m in
    let next = colon_read t.there seen in
    let came = step_comes around (state_at around (moment_in y now)) (moment_in y now) m (58 ∷ o) v None
    (moment_with new next) (alone_actions (begins_pair y) m) (λ d. d) stepped (alone_puts (begins_pair y) now.places m)
    (within_index around.indent around.limit t.there (along m 1) o t.lands (omega (arith, below)))
    (kept_inside (colon_flows y flows)) in
    step_passes next new (moved m (58 ∷ [])) o (alone_kinds (begins_pair y)
    ++ tokens.Value ∷ []) (no_key (moved m (58 ∷ []))) came (right_one around.indent m 58 refl fits.right)
    (t.lands ∙ ap (λ (q : Marker). past around.indent q o) (mark_moved m 58 colon_is_mark))
    (fresh_in_flow (behind_colon y) o false t.there (colon_flows y flows)) (holds_in_flow (colon_flows y flows))
    (alone_known (begins_pair y) m)
    (came.same (colon_flows y flows), refl, one_on m 58 now.adjacent before)
