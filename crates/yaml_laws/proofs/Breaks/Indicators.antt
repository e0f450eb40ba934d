-- The indicators of collections leave both scanners alike.
use Rattle.yaml_laws.proofs.Common.{Bool, List, None, Option, Some, [], ap, arith, false, length, refl, subst, sym, true, ℕ, ◌+◌, ◌∙◌, ◌∷◌, ◌≡◌, nat_le, not, slice_index, ◌&&◌, ◌==◌, ◌||◌, normalized, is_alpha, is_blank_or_breakz, is_break, is_flow, Marker, Cursor, pass, ◌>>=◌, Context, Kind, Action, Core, StepResult, completed_step, go_deeper, in_block, is_further, remove_key, roll, up_to_here, with_context, Candidate, Level, begins_pair, behind_colon, behind_entry, behind_question, ends_pair, pass_on, separate, with_cursor, most_open, eqb-true, hyphen, left_brace, left_bracket, found_tabs, has_valid_yaml_ws, Both, gives, refused, choose, choose_same, choose_first}
use Rattle.saphyr_scanner.specs.Steps.Block as block
use Rattle.saphyr_scanner.specs.Steps.Fetch.{flow_value_steps}
use Rattle.saphyr_scanner.specs.Steps.Flow as flow
use Rattle.saphyr_scanner.specs.Steps.Gap as gaps
use Rattle.saphyr_scanner.specs.Steps.Value as value
use Rattle.yaml_laws.proofs.Breaks.Cores.{Indexes, near_core, near_key, near_levels, first, others, LevelsEven, Cores, Anywhere, Twin, Laws, Alike, Unbroken, here, of_cores, with_core, and_core, same_length, save_same, roll_same, remove_same, forgotten, and_separate, and_pass, pass_same, pass_near, pass_ahead, twin_low, twin_stands, twin_alike, twin_moves, going_to, here_adjacent}
use Rattle.yaml_laws.proofs.Breaks.Gaps.{gap_alike}
use Rattle.yaml_laws.proofs.Breaks.Normal.{first_is, second_is}
use Rattle.yaml_laws.proofs.Breaks.Places.{reindexed, even_index, ahead_ahead, ahead_stands, low_ahead, choose_by}
use Rattle.yaml_laws.proofs.Breaks.States.{SameAction, SameActions, SameSteps}

-- the start of a collection, or the end of a pair, before a token
starts_same : (begins : Bool) (m k : Marker) (kind : Kind) (a b : Action) → SameAction a b
    → SameActions (block.behind_start begins m kind a) (block.behind_start begins k kind b)
starts_same true m k kind a b e = (refl, (e, tt))
starts_same false m k kind a b e = (e, tt)

-- ## Flow collections

module _ {text : List ℕ} (laws : Laws text) where
  pub start_same : (k : Context) (kind : Kind) (n : ℕ)
      → Alike text Unbroken (SameSteps text) (flow.opening_steps k kind n)
  unfolding flow.opening_steps flow.open_collection
  start_same k kind n c x t unbroken = let opened = λ (d : Core). flow.open_collection k kind (go_deeper d) in
      with_core {P = Unbroken} opened opened (save_same n c x t unbroken) (λ d y u i. choose_same
      (nat_le most_open (length d.outer))
      (nat_le most_open (length (near_levels y.outer d.outer))) (cc (same_length y.outer d.outer)) (λ _. refused)
      (λ _. and_pass _ _ laws (flow.enter k (go_deeper d)) (record y { key = 0; outer = y.key ∷ y.outer })
      (record { ahead = u.ahead; key = tt; outer = (u.key, u.outer); line = u.line; adjacent = u.adjacent }) i
      (λ s e z v. gives (here e z v tt, (refl, tt)))))

  leave_same : (ls : List Level) (c : Core) (x : Indexes) → Twin text c x → LevelsEven c.cursor.mark x.at x.outer ls
      → Unbroken c.cursor
      → Cores text Unbroken (flow.leave_to ls c) (flow.leave_to (near_levels x.outer ls) (near_core x c))
  leave_same [] c x t h unbroken = here (flow.leave_to [] c) x
      (record { ahead = t.ahead; key = tt; outer = tt; line = t.line; adjacent = t.adjacent }) unbroken
  leave_same (l ∷ ls) c x t h unbroken =
      here (flow.leave_to (l ∷ ls) c) (record x { key = first x.outer; outer = others x.outer })
      (record { ahead = t.ahead; key = h.0; outer = h.1; line = t.line; adjacent = t.adjacent }) unbroken

  pub end_same : (ends : Bool) (kind : Kind) → Alike text Unbroken (SameSteps text) (flow.closing_steps ends kind)
  unfolding flow.closing_steps flow.close_collection
  end_same ends kind c x t unbroken =
      let close : Marker → Core → StepResult = λ m a. separate (pass_on 1 a) >>= λ d. completed_step
      (flow.behind_pair ends m (up_to_here m kind d.1)) (flow.allow_adjacent d.1) in
      choose (in_block c) (λ _. refused) (λ _. with_core (close c.cursor.mark) (close (reindexed x.at c.cursor.mark))
      (leave_same c.outer c x t t.outer unbroken) (λ d y u i. and_pass _ _ laws d y u i
      (λ s e z v. gives (
        choose_by (Cores text Anywhere) (in_block e) (in_block e) _ _ _ _ refl (λ _. here e z v tt)
            (λ _. here (record e { adjacent = e.cursor.mark.index }) (record z { adjacent = z.at })
            (here_adjacent e z v) tt),
        starts_same ends _ _ _ _ _ refl,
      ))))

  pub entry_same : Alike text Unbroken (SameSteps text) flow.flow_entry_steps
  unfolding flow.flow_entry_steps flow.next_flow_entry
  entry_same c x t unbroken = and_core {P = Unbroken} _ _ (remove_same c x t unbroken) (λ d y u i. and_pass _ _ laws
      (with_context (behind_entry d.level.context) (record d { key_allowed = true })) y u i
      (λ s e z v. gives (here e z v tt, starts_same (ends_pair d.level.context) _ _ _ _ _ refl)))

-- ## Values

alone_puts : (begins further : Bool) (start : Marker) (i : ℕ) (c : Core) (x : Indexes)
    → is_further start.col c ≡ further → SameActions (value.opening_actions begins start c)
    (value.opening_actions begins (reindexed i start) (near_core x c))
unfolding value.opening_actions
alone_puts true true start i c x e = rw e (refl, (refl, (refl, tt)))
alone_puts true false start i c x e = rw e (refl, (refl, tt))
alone_puts false true start i c x e = rw e (refl, (refl, tt))
alone_puts false false start i c x e = rw e (refl, tt)

module _ {text : List ℕ} (laws : Laws text) where
  check_same : Alike text Anywhere (Cores text Anywhere) value.check_tab
  unfolding value.check_tab
  check_same c x t _ = choose_first (λ y. y == 9) refl (twin_alike c x t) (λ _. and_separate _ _ laws c x t
      (λ k d y u. choose_first (λ z. in_block d && not (has_valid_yaml_ws k) && ((z == 45) || is_alpha z)) refl
      (twin_alike d y u) (λ _. refused) (λ _. gives (here d y u tt)))) (λ _. gives (here c x t tt))

  behind_same : (k : Option Candidate) (i : ℕ) (begins : Bool) (start : Marker) (j : ℕ) (c : Core) (x : Indexes)
      → Twin text c x → Both (SameSteps text) (value.behind_key k begins start c)
      (value.behind_key (near_key i k) begins (reindexed j start) (near_core x c))
  unfolding value.behind_key value.value_of_key value.value_alone
  behind_same (Some k) i begins start j c x t =
      grind (arith, choose, refused, gives, of_cores, roll_same, here, forgotten)
  behind_same None i begins start j c x t = grind (arith, alone_puts)

  pub value_same : Alike text Unbroken (SameSteps text) value.value_steps
  unfolding value.value_steps
  value_same c x t unbroken = and_core _ _ (with_core value.check_tab value.check_tab
      (pass_same (with_context (behind_colon c.level.context) c) x t unbroken) check_same)
      (λ d y u _. behind_same d.level.key y.key (begins_pair c.level.context) c.cursor.mark x.at d y u)

pub adjacent_same : {text : List ℕ} (c : Core) (x : Indexes) → Twin text c x
    → (x.at == x.adjacent) ≡ (c.cursor.mark.index == c.adjacent)
adjacent_same c x t = search (even_index)

pub flow_value_same : {text : List ℕ} → Laws text → (second other : ℕ) (c : Core) (x : Indexes) → Twin text c x
    → Unbroken c.cursor
    → ((other == left_bracket) || (other == left_brace)) ≡ ((second == left_bracket) || (second == left_brace))
    → Both (SameSteps text) (flow_value_steps second c) (flow_value_steps other (near_core x c))
unfolding flow_value_steps
flow_value_same laws second other c x t unbroken e = grind (arith, choose_same, adjacent_same, value_same)

-- ## Block collections

dash_next : (c : Core) (x : Indexes) → block.is_dash_next (near_core x c) ≡ block.is_dash_next c
dash_next c x = by c.cursor.rest (slice_index c.cursor.rest 0 == 45) refl
  where
    by : (t : List ℕ) (b : Bool) → (slice_index t 0 == hyphen) ≡ b
        → ((slice_index (normalized t) 0 == hyphen) && is_blank_or_breakz (slice_index (normalized t) 1)) ≡
        ((slice_index t 0 == hyphen) && is_blank_or_breakz (slice_index t 1))
    by t true e = ap (λ b. b && is_blank_or_breakz (slice_index (normalized t) 1)) (first_is (λ y. y == 45) refl t)
        ∙ ap (λ b. (slice_index t 0 == 45) && b)
        (second_is is_blank_or_breakz refl t (ap is_break (eqb-true (slice_index t 0) 45 e)))
    by t false e =
        let f : (slice_index (normalized t) 0 == 45) ≡ false = first_is (λ y. y == 45) refl t ∙ e in rw (e, f) refl

module _ {text : List ℕ} (laws : Laws text) where
  dash_same : Alike text Anywhere (Cores text Anywhere) block.pass_dash
  unfolding block.pass_dash
  dash_same c x t _ = and_separate _ _ laws c x t (λ k d y u. choose_same (found_tabs k && block.is_dash_next d)
      (found_tabs k && block.is_dash_next (near_core y d)) (cc (dash_next d y)) (λ _. refused)
      (λ _. gives (choose_by (Cores text Anywhere)
      (is_break (slice_index d.cursor.rest 0) || is_flow (slice_index d.cursor.rest 0))
      (is_break (slice_index (normalized d.cursor.rest) 0) || is_flow (slice_index (normalized d.cursor.rest) 0))
      _ _ _ _ (sym (first_is (λ z. is_break z || is_flow z) refl d.cursor.rest)) (λ _. here (go_deeper d) y u tt)
      (λ _. here d y u tt))))

  pub block_entry_same : Alike text Unbroken (SameSteps text) block.block_entry_steps
  unfolding block.block_entry_steps block.next_entry
  block_entry_same c x t unbroken =
      let column = c.cursor.mark.col in
      let pass = λ (d : Core). block.pass_dash (roll column d) in
      choose (not (in_block c)) (λ _. refused) (λ _. choose (not c.key_allowed) (λ _. refused)
      (λ _. and_core _ _ (and_core remove_key remove_key (with_core pass pass (pass_same c x t unbroken)
      (λ d y u p. with_core block.pass_dash block.pass_dash (roll_same column d y u p) dash_same)) remove_same)
      (λ d y u _. gives (
        here (record d { key_allowed = true }) y u tt,
        starts_same (is_further column c) _ _ _ _ _ refl,
      ))))

  question_same : Alike text Unbroken (Cores text Anywhere) block.pass_question
  unfolding block.behind_mark
  question_same c x t unbroken =
      let s = pass 1 c.cursor in
      let on = pass_ahead text x.at c.cursor.rest c.cursor.mark c.cursor.blank_so_far unbroken (twin_stands c x t) in
      let low = low_ahead text c.cursor x.at s (x.at + 1) on (twin_low c x laws t) in
      let h = gap_alike text false 0 s (x.at + 1) false low (ahead_stands text c.cursor x.at s (x.at + 1) on) in
      let g = gaps.spaces_at false s in
      let d = with_cursor g.cursor c in
      let there = twin_moves c x g.cursor h.0 t (ahead_ahead text c.cursor x.at s (x.at + 1) g.cursor h.0 on h.2) in
      let P : Cursor → Type 0 = λ u. Both (Cores text Anywhere) (block.behind_mark g.space d)
      (block.behind_mark (gaps.spaces_at false u).space (with_cursor (gaps.spaces_at false u).cursor
      (near_core x c))) in
      subst P (sym (pass_near x.at c.cursor.rest c.cursor.mark c.cursor.blank_so_far unbroken))
      (rw h.1 (choose (not g.space)
      (λ _. refused) (λ _. choose_first (λ y. y == 9) refl (twin_alike d (going_to h.0 x) there) (λ _. refused)
      (λ _. gives (here d (going_to h.0 x) there tt)))))

  pub key_same : Alike text Unbroken (SameSteps text) block.key_steps
  unfolding block.key_steps block.begin_key
  key_same c x t unbroken =
      let column = c.cursor.mark.col in
      let remove = λ (d : Core). remove_key (with_context (behind_question c.level.context) d) in
      choose (in_block c && not c.key_allowed) (λ _. refused) (λ _. and_core _ _ (and_core _ _
      (with_core remove remove (roll_same column c x t unbroken)
      (λ d y u i. remove_same (with_context (behind_question c.level.context) d) y u i))
      (λ d y u i. question_same (record d { key_allowed = in_block d }) y u i))
      (λ d y u _. gives (here d y u tt, starts_same (is_further column c) _ _ _ _ _ refl)))
