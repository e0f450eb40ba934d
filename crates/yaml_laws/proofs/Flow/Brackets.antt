-- The brackets, braces and commas of a text in flow style are read.
use Rattle.std.proofs.Common.{◌≡◌, ◌⊎◌, ℕ, ◌<◌, ◌≤◌, Bool, true, false, List, [], ◌∷◌, ◌++◌, length, slice_index, Ok, refl, sym, ap, ◌∙◌, arith, subst, append_assoc, IsTrue, inl}
use Rattle.yaml_laws.proofs.Common.{◌==◌, Option, None, list_all, percent_sign, comma, is_blank, is_z, line_feed, SkipTabs, Yes, Marker, Cursor, along, separation, cursor_at, IsSeparation, Some, Context, Kind, Piece, Place, bare_place, empty_piece, Candidate, State, is_block, behind_entry, ends_pair, step, most_open, le_next, token_place, place_kinds, queue_of, saved, level_of, comma_begins, IsComma, no_feed}
use Rattle.saphyr_scanner.specs.Grammar.Tokens as tokens
use Rattle.saphyr_scanner.specs.Steps.Core.{Core, from_to, perform, completed_step, remove_key}
use Rattle.saphyr_scanner.specs.Steps.Flow as flow
use Rattle.saphyr_scanner.specs.Steps.Flow.{behind_pair, next_flow_entry}
use Rattle.yaml_laws.proofs.InFlow.States.{Around, arrived, at_cursor, core_at, opened, state_at, with_key_saved, Calm, opening_steps_open, open_collection_gives, deepened, kept_inside, FlowMoment, moment_with, moment_in, Ready}
use Rattle.yaml_laws.proofs.Flow.States.{Since, moved, past, IsClear, IsContentStart, IsParted, Known, fresh_key, PassesPiece, Fits, FitsAround, StandsBefore, key_behind}
use Rattle.yaml_laws.proofs.Flow.KeyPieces.{fits_below}
use Rattle.yaml_laws.proofs.Flow.Places.{moved_index, right_one, clear_here}
use Rattle.yaml_laws.proofs.Flow.GapSteps.{past_content, less_on}
use Rattle.yaml_laws.proofs.Flow.Tokens.{BeginsToken, arrives, step_comes, within_index, saved_since}
use Rattle.yaml_laws.proofs.Flow.Separates.{separates}
use Rattle.yaml_laws.proofs.Flow.Joins.{step_passes, separation_joins, knowing}
use Rattle.yaml_laws.proofs.InBlock.Crossings.{fresh_in_flow, holds_in_flow}
use Rattle.yaml_laws.proofs.Flow.ContentStarts.{StartsContent, is_start, start_content, start_nul, start_directive}
use Rattle.yaml_laws.proofs.Flow.Pieces.{fits_front, fits_so, end_is_content, parted_by}

-- a character that is a token
pub record IsTokenMark (c : ℕ) : Type 0 where
  pub content : IsContentStart c
  pub nul : is_z c ≡ false
  pub directive : (c == percent_sign) ≡ false
  pub feed : (c == line_feed) ≡ false

pub token_mark : (c : ℕ) → is_start c ≡ true → IsTokenMark c
token_mark c h = grind (arith, start_content, start_nul, start_directive, no_feed)

pub mark_begins : (m : Marker) (c : ℕ) (o : List ℕ) → IsTokenMark c → IsClear m (c ∷ []) o → BeginsToken m (c ∷ o)
mark_begins m c o h clear = search (clear_here)

pub mark_moved : (m : Marker) (c : ℕ) → IsTokenMark c → along m 1 ≡ moved m (c ∷ [])
mark_moved m c h = rw h.feed refl

pub one_on : (m : Marker) (c ad : ℕ) → ad ≤ m.index → ad < (moved m (c ∷ [])).index
one_on m c ad low = let i = moved_index m (c ∷ []) in omega (arith, i, low)

-- ## An opening bracket

-- after an opening bracket
abbrev pub opened_collection : Marker → Known
opened_collection m key allowed adjacent new =
    fresh_key m key allowed adjacent new × ((piece : Piece) × (new ≡ bare_place piece ∷ []))

-- An opening bracket is read, whatever comes before it. Told of it are the key of the level outside, the run over the
-- bracket, where that key began, and that a key which was held still is. The step is composed of its parts in
-- `stepped`, and what comes of any step is `step_comes`.
pub open_passes : (around : Around) (y : Context) → is_block y ≡ false → (kind : Kind) (ch : ℕ) → IsTokenMark ch
    → ((second i : ℕ) (c : Core) → step ch second i c ≡ flow.opening_steps y kind i c)
    → (m : Marker) (o : List ℕ) (now : FlowMoment) → Fits around now.context m (ch ∷ []) o
    → around.indent ≤ (moved m (ch ∷ [])).col → IsParted around.indent o → length now.outer < most_open
    → Calm around now.context → now.adjacent ≤ m.index → (start : Bool → State)
    → Ready around start now m (ch ∷ o) → (j : Option Candidate) × (is_block now.context ≡ false → j ≡ key_behind now
    m)
    × PassesPiece around start (opened_collection (moved m (ch ∷ []))) y (level_of now.context j
    ∷ now.outer)
    now.places (moved m (ch ∷ [])) o (kind ∷ [])
    × ((t : List ℕ) → (key : Option Candidate) → (key ≡ None) ⊎ (key ≡ j) → Since now.key m t key)
    × ((k : Candidate) → around.held ≡ Some k → is_block now.context ≡ true → j ≡ Some k)
open_passes around y in_flow kind ch mark begins m o now fits right parted low calm before start v =
    let seen = arrived v in
    let key = saved v.allowed (length now.places) m v.key in
    let p = separates around.indent (cursor_at o (along m 1) false) parted.separation parted.first parted.others
    parted.is parted.parts
    (subst (λ (n : Marker). around.indent ≤ n.col) (sym (mark_moved m ch mark)) right) parted.ends in
    let stepped = λ (d : Bool). begins (slice_index o 0) (length now.places)
    (core_at around d seen) ∙ opening_steps_open y kind (length now.places) around d seen v.placed
    ∙ open_collection_gives y kind ch o m v.blank around (deepened around now.context d)
    (with_key_saved (length now.places) seen) p.found p.there p.is low in_flow calm in
    let below = fits_below fits in
    let new = token_place m p.there.mark kind ∷ [] in
    let next = opened y p.there (with_key_saved (length now.places) seen) in
    let came = step_comes around start now m (ch ∷ o) v None (moment_with new next)
    (from_to m p.there.mark kind ∷ []) (deepened around now.context)
    stepped refl (within_index around.indent around.limit p.there (along m 1) o p.lands (omega (arith, below)))
    (kept_inside in_flow) in (
      key,
      (λ e. let s = v.same e in cc),
      step_passes next new (moved m (ch ∷ [])) o (kind ∷ []) (opened_collection
          (moved m (ch ∷ []))) came right (cc (mark_moved m ch mark))
          (fresh_in_flow y o true p.there in_flow) (holds_in_flow in_flow) refl (
            (came.same in_flow, refl, one_on m ch now.adjacent before),
            (record { span = record { start = m; end = p.there.mark }; kind = kind }, refl),
          ),
      λ t j h. saved_since v.allowed (length now.places) m now.key v.key t j v.kept h,
      λ k held block. let h = v.holds k held block in ap (λ (a : Bool). saved a (length now.places) m v.key) h.1 ∙ h.0,
    )

-- ## A closing bracket

-- the end of a pair that has no bracket of its own
abbrev pub pending : Bool → List Kind
pending true = tokens.FlowMappingEnd ∷ []
pending false = []

-- the places that a mark makes, after the end of such a pair
abbrev pub mark_places : Bool → Marker → Marker → Kind → List Place
mark_places true m e kind = bare_place (empty_piece m tokens.FlowMappingEnd) ∷ token_place m e kind ∷ []
mark_places false m e kind = token_place m e kind ∷ []

pub mark_puts : (ends : Bool) (ps : List Place) (m e : Marker) (kind : Kind)
    → perform (behind_pair ends m (from_to m e kind)) (queue_of ps) ≡ queue_of (ps ++ mark_places ends m e kind)
mark_puts ends ps m e kind = grind (arith, queue_of, append_assoc, token_place)

pub mark_kinds : (ends : Bool) (m e : Marker) (kind : Kind)
    → place_kinds (mark_places ends m e kind) ≡ pending ends ++ kind ∷ []
mark_kinds ends m e kind = grind arith

-- After a collection the key is that of the level around it. Where blanks alone come before a colon, it may be at
-- once.
pub record IsCollectionClosed (indent : ℕ) (x : Context) (j : Option Candidate) (m : Marker) (o : List ℕ)
    (key : Option Candidate)
    (adjacent : ℕ) : Type 0 where
  pub keeps : is_block x ≡ false → key ≡ j
  pub kept : (key ≡ None) ⊎ (key ≡ j)
  pub near : is_block x ≡ false → (w more : List ℕ) → o ≡ w ++ (58 ∷ more) → IsSeparation indent w
      → IsTrue (list_all is_blank w) → adjacent ≡ (moved m w).index
  pub low : adjacent ≤ (past indent m o).0.index

abbrev pub closed_collection : ℕ → Context → Option Candidate → Marker → List ℕ → Known
closed_collection indent x j m o key allowed adjacent new = IsCollectionClosed indent x j m o key adjacent

in_flow : (y : Context) → is_block y ≡ false → is_block (behind_entry y) ≡ false
in_flow y e = grind arith

next_entry_gives : (around : Around) (d : Bool) (o : List ℕ) (m : Marker) (b : Bool) (now : FlowMoment)
    → is_block now.context ≡ false → (found : SkipTabs) (there : Cursor)
    → separation Yes (cursor_at o (along m 1) false) ≡ Ok (found, there)
    → next_flow_entry (core_at around d (at_cursor (cursor_at (comma ∷ o) m b) now))
    ≡ completed_step (behind_pair (ends_pair now.context) m (from_to m there.mark tokens.FlowEntry))
    (core_at around d (record now { cursor = there; context = behind_entry now.context; allowed = true }))
unfolding next_flow_entry
next_entry_gives around d o m b now flows found there is = grind arith

removes : (around : Around) (d : Bool) (now : FlowMoment) → is_block now.context ≡ false
    → flow.flow_entry_steps (core_at around d now) ≡ next_flow_entry (core_at around d (record now { key = None }))
unfolding flow.flow_entry_steps remove_key
removes around d now e = grind arith

comma_is_mark : IsTokenMark 44
comma_is_mark = search

-- A comma ends a pair that has no bracket of its own, and after it a key may begin. The step forgets the key before it,
-- ends the pair (`behind_pair`) and puts its token, behind which separation may come.
pub comma_passes : (around : Around) (y : Context) → is_block y ≡ false → (m : Marker) (o : List ℕ)
    → FitsAround around m (comma ∷ []) o → IsParted around.indent o → (now : FlowMoment) → now.adjacent ≤ m.index
    → StandsBefore around now m (comma ∷ o)
    → PassesPiece around (state_at around (moment_in y now)) (fresh_key (moved m (comma ∷ []))) (behind_entry y)
    now.outer
    now.places (moved m (comma ∷ [])) o (pending (ends_pair y) ++ tokens.FlowEntry ∷ [])
comma_passes around y flows m o fits parted now before text =
    let v = arrives around (moment_in y now) m (44 ∷ o)
    (text ∙ past_content around.indent m 44 o comma_is_mark.content) refl
    (mark_begins m 44 o comma_is_mark fits.clear) flows fits.right in
    let p = separates around.indent (cursor_at o (along m 1) false) parted.separation parted.first parted.others
    parted.is parted.parts (le_next around.indent m.col fits.right) parted.ends in
    let stepped = λ (d : Bool). comma_begins (slice_index o 0) (length now.places)
    (core_at around d (arrived v)) ∙ removes around d (arrived v) flows
    ∙ next_entry_gives around d o m v.blank (record (arrived v) { key = None }) flows p.found p.there p.is in
    let below = fits.below in
    let new = mark_places (ends_pair y) m p.there.mark tokens.FlowEntry in
    let next : FlowMoment = record now {
      cursor = p.there;
      context = behind_entry y;
      key = None;
      allowed = true;
    } in
    let came = step_comes around (state_at around (moment_in y now)) (moment_in y now) m (44 ∷ o) v None
    (moment_with new next) (behind_pair (ends_pair y) m (from_to m p.there.mark tokens.FlowEntry)) (λ d. d) stepped
    (mark_puts (ends_pair y) now.places m p.there.mark tokens.FlowEntry)
    (within_index around.indent around.limit p.there (along m 1) o p.lands (omega (arith, below)))
    (kept_inside (in_flow y flows)) in
    step_passes next new (moved m (44 ∷ [])) o (pending (ends_pair y)
    ++ tokens.FlowEntry ∷ []) (fresh_key (moved m (44 ∷ []))) came (right_one around.indent m 44 refl fits.right)
    (cc (mark_moved m 44 comma_is_mark)) (fresh_in_flow (behind_entry y) o true p.there (in_flow y flows))
    (holds_in_flow (in_flow y flows))
    (mark_kinds (ends_pair y) m p.there.mark tokens.FlowEntry)
    (came.same (in_flow y flows), refl, one_on m 44 now.adjacent before)

-- with the separation after it
pub comma_behind : (around : Around) (y z : Context) → is_block y ≡ false → behind_entry y ≡ z
    → (m : Marker) (comma o : List ℕ) → IsComma around.indent comma → FitsAround around m comma o → StartsContent o
    → (now : FlowMoment) → now.adjacent ≤ (past around.indent m (comma ++ o)).0.index
    → StandsBefore around now m (comma ++ o)
    → PassesPiece around (state_at around (moment_in y now)) (fresh_key (moved m comma)) z now.outer now.places
    (moved m comma) o (pending (ends_pair y) ++ tokens.FlowEntry ∷ [])
comma_behind around y z flows back m comma o (separation, parts, e) fits b now before text =
    let whole = fits_so m comma ((44 ∷ []) ++ separation) o e fits in
    let f = fits_front m (44 ∷ []) separation o whole in
    let texts : comma ++ o ≡ 44 ∷ (separation ++ o) = ap (λ (t : List ℕ). t ++ o) e in
    let parted = parted_by around.indent separation o parts b in
    let here : past around.indent m (comma ++ o) ≡ (m, 44 ∷ (separation ++ o)) =
    cc (past_content around.indent m 44 (separation ++ o) (end_is_content 44 (inl refl))) in
    let low : now.adjacent ≤ m.index = rw here at before in
    let p = separation_joins (moved m (44 ∷ [])) separation o parts
    (comma_passes around y flows m (separation ++ o) f parted now low (text ∙ ap (past around.indent m) texts)) in
    let q = knowing p (fresh_key (moved m (44 ∷ separation)))
    (p.knows.0, p.knows.1, less_on p.adjacent (moved m (44 ∷ [])) separation p.knows.2) in
    let start = state_at around (moment_in y now) in
    let r = subst (λ (t : List ℕ). PassesPiece around start (fresh_key (moved m t)) (behind_entry y) now.outer
    now.places (moved m t) o (pending (ends_pair y) ++ tokens.FlowEntry ∷ [])) (sym e) q in
    rw back at r
