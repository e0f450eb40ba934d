-- The indicators of block and flow collections, and the colon.
use Rattle.std.proofs.Common.{◌≡◌, ℕ, Bool, true, false, List, [], ◌∷◌, ◌++◌, length, drop, slice_index, Option, Some, None, Ok, refl, ap, ◌∙◌, arith}
use Rattle.std.specs.Prelude.{◌&&◌, ◌||◌, ◌==◌, not, nat_lt, nat_le}
use Rattle.saphyr_input.proofs.Basics.Booleans.{by_test, and_true_right}
use Rattle.saphyr_input.specs.Classes.{is_break, is_flow, is_alpha, is_blank_or_breakz}
use Rattle.saphyr_input.specs.declared.input.SkipTabs.{SkipTabs}
use Rattle.saphyr_input.specs.Separation.{found_tabs, has_valid_yaml_ws}
use Rattle.saphyr_scalar.specs.declared.scalar.position.Marker.{Marker}
use Rattle.saphyr_scanner.specs.Limits.{most_open}
use Rattle.saphyr_scanner.specs.Grammar.Tokens as tokens
use Rattle.saphyr_scanner.specs.Grammar.Tokens.{Kind}
use Rattle.saphyr_scanner.specs.Steps.Level.{Level, Candidate, behind_entry, behind_question, begins_pair, behind_colon}
use Rattle.saphyr_scanner.specs.Steps.Core.{Core, StepResult, completed_step, at_mark, up_to_here, in_block, with_context, save_key, remove_key, forget_key, go_deeper, roll}
use Rattle.saphyr_scanner.specs.Steps.Core as core
use Rattle.saphyr_scanner.specs.Steps.Gap.{spaces_at}
use Rattle.saphyr_scanner.specs.Steps.Passing.{pass_on, with_cursor, separate}
use Rattle.saphyr_scanner.specs.Steps.Block.{is_dash_next, refuse_tab, deepen, pass_dash, next_entry, block_entry_steps, behind_mark, pass_question, begin_key, key_steps}
use Rattle.saphyr_scanner.specs.Steps.Flow.{enter, leave_to, leave, open_collection, opening_steps, allow_adjacent, behind_pair, close_collection, closing_steps, next_flow_entry, flow_entry_steps}
use Rattle.saphyr_scanner.specs.Steps.Value.{check_tab, opening_of, value_of_key, opening_actions, value_alone, behind_key, value_steps}
use Rattle.saphyr_scalar.specs.Known.{is_open}
use Rattle.saphyr_scalar.proofs.WhatCame.Rests.{is_nothing, some, some_of_four, second_of_four, four_shown, shows, shows_is, later_drop, first_known}
use Rattle.saphyr_scalar.proofs.WhatCame.Steps.{Came, Sure, Mixed, further, reports, open_refused, missing_refused, stays, loosely, choose, choose_first, choose_same, choose_given, choose_of, and_then, and_mixed, on}
use Rattle.saphyr_scanner.proofs.WhatCame.Cores.{longer_core, cores, steps, save_came, roll_came, remove_came, pass_came, separate_came}
use Rattle.saphyr_scanner.proofs.WhatCame.Gaps.{spaces_came}

module _ (more : List ℕ) where
  -- a step behind characters that are passed
  abbrev Stepped : Core → StepResult → StepResult → Type 0
  Stepped c r q = Sure steps more c.cursor.rest r q

  -- ## Block collections

  deepen_came : (c : Core) → Came cores more c.cursor.rest (Ok (deepen c)) (Ok (deepen (longer_core more c)))
  deepen_came c = let p = λ (x : ℕ). is_break x || is_flow x in
      choose_of (λ d. Ok d) (p (slice_index c.cursor.rest 0)) (p (slice_index (c.cursor.rest ++ more) 0))
      (λ known. ap p (first_known more c.cursor.rest (some c.cursor.rest known))) (λ _. stays) (λ _. stays)

  first_seen : (r : List ℕ) → is_open r ≡ false
      → ((slice_index (r ++ more) 0 == 45) && is_blank_or_breakz (slice_index (r ++ more) 1))
      ≡ ((slice_index r 0 == 45) && is_blank_or_breakz (slice_index r 1))
  first_seen r known = grind arith

  refuse_came : (x : SkipTabs × Core)
      → Came cores more x.1.cursor.rest (refuse_tab x) (refuse_tab (x.0, longer_core more x.1))
  refuse_came x = let d = x.1 in
      choose_same (found_tabs x.0 && is_dash_next d) (found_tabs x.0 && is_dash_next (longer_core more d))
      (λ known. ap (λ b. found_tabs x.0 && b) (first_seen d.cursor.rest known)) (λ _. open_refused)
      (λ _. deepen_came d)

  dash_came : (c : Core) → Mixed cores more c.cursor.rest (pass_dash c) (pass_dash (longer_core more c))
  unfolding pass_dash
  dash_came c = and_then _ (separate_came more c) (λ x _. loosely (refuse_came x))

  pub entry_came : (c : Core)
      → Mixed steps more (drop 1 c.cursor.rest) (block_entry_steps c) (block_entry_steps (longer_core more c))
  unfolding block_entry_steps next_entry
  entry_came c = choose (not (in_block c)) (λ _. missing_refused 1 c.cursor.rest (λ left. left))
      (λ _. choose (not c.key_allowed) (λ _. missing_refused 1 c.cursor.rest (λ left. left))
      (λ _. and_mixed _ (and_mixed _ (on pass_dash (on (λ d. Ok (roll c.cursor.mark.col d)) (pass_came more 1 c)
      (roll_came more 0 (pass_on 1 c) c.cursor.mark.col)) (dash_came _))
      (λ d _. remove_came more 0 d (four_shown d.cursor.rest)))
      (λ d _. stays)))

  mark_came : (space : Bool) (c : Core)
      → Sure cores more c.cursor.rest (behind_mark space c) (behind_mark space (longer_core more c))
  unfolding behind_mark
  mark_came space c = choose (not space) (λ _. missing_refused 0 c.cursor.rest (λ left. left))
      (λ _. choose_first (λ x. x == 9) (λ is. reports (shows_is 9 c.cursor.rest refl is)) (λ _. stays))

  question_came : (c : Core)
      → Sure cores more (drop 1 c.cursor.rest) (pass_question c) (pass_question (longer_core more c))
  question_came c = let s = (pass_on 1 c).cursor in on (λ g. behind_mark g.space (with_cursor g.cursor c))
      (on (λ d. Ok (spaces_at false d.cursor)) (pass_came more 1 c)
      (spaces_came more false s))
      (mark_came _ _)

  pub key_came : (c : Core) → Sure steps more (drop 1 c.cursor.rest) (key_steps c) (key_steps (longer_core more c))
  unfolding key_steps begin_key
  key_came c = choose (in_block c && not c.key_allowed) (λ _. missing_refused 1 c.cursor.rest (λ left. left))
      (λ _. and_then _ (and_then _
      (on (λ d. remove_key (with_context (behind_question c.level.context) d)) (roll_came more 1 c c.cursor.mark.col)
      (remove_came more 1 (with_context (behind_question c.level.context) (roll c.cursor.mark.col c))
      (second_of_four (roll c.cursor.mark.col c).cursor.rest)))
      (λ d _. question_came (record d { key_allowed = in_block d }))) (λ d _. stays))

  -- ## Flow collections

  open_came : (x : _) (kind : Kind) (c : Core) → is_nothing c.cursor.rest ≡ false
      → Stepped c (open_collection x kind c) (open_collection x kind (longer_core more c))
  unfolding open_collection
  open_came x kind c known = choose (nat_le most_open (length c.outer)) (λ _. reports known)
      (λ _. further (later_drop 1 c.cursor.rest) (and_then _
      (on separate (pass_came more 1 (enter x c)) (separate_came more _)) (λ d _. stays)))

  save_keeps : (n : ℕ) (c : Core) → (save_key n c).cursor.rest ≡ c.cursor.rest
  save_keeps n c = by_test c.key_allowed _ _ (λ (d : Core). d.cursor.rest ≡ c.cursor.rest) (λ _. refl) (λ _. refl)

  pub opening_came : (x : _) (kind : Kind) (n : ℕ) (c : Core) → is_nothing c.cursor.rest ≡ false
      → Stepped c (opening_steps x kind n c) (opening_steps x kind n (longer_core more c))
  unfolding opening_steps
  opening_came x kind n c known = on (λ d. open_collection x kind (go_deeper d)) (save_came more 0 c n)
      (open_came x kind _ (ap is_nothing (save_keeps n c) ∙ known))

  leave_came : (outer : List Level) (c : Core)
      → Sure cores more c.cursor.rest (Ok (leave_to outer c)) (Ok (leave_to outer (longer_core more c)))
  leave_came [] c = stays
  leave_came (l ∷ ls) c = stays

  adjacent_came : (c : Core)
      → Sure cores more c.cursor.rest (Ok (allow_adjacent c)) (Ok (allow_adjacent (longer_core more c)))
  adjacent_came c = choose_given (in_block c) (λ _. stays) (λ _. stays)

  pub closing_came : (ends : Bool) (kind : Kind) (c : Core) → is_nothing c.cursor.rest ≡ false
      → Stepped c (closing_steps ends kind c) (closing_steps ends kind (longer_core more c))
  unfolding closing_steps close_collection
  closing_came ends kind c known = choose (in_block c) (λ _. reports known) (λ _. and_then _
      (on (λ d. separate (pass_on 1 d)) (leave_came c.outer c) (further (later_drop 1 _)
      (on separate (pass_came more 1 (leave c)) (separate_came more _))))
      (λ d _. on (λ e. completed_step (behind_pair ends c.cursor.mark (up_to_here c.cursor.mark kind d.1)) e)
      (adjacent_came d.1) stays))

  pub flow_entry_came : (c : Core) → Stepped c (flow_entry_steps c) (flow_entry_steps (longer_core more c))
  unfolding flow_entry_steps next_flow_entry
  flow_entry_came c = and_then _ (remove_came more 0 c (some_of_four c.cursor.rest))
      (λ d _. further (later_drop 1 _) (and_then _ (on separate
      (pass_came more 1 (with_context (behind_entry d.level.context) (record d { key_allowed = true })))
      (separate_came more _)) (λ e _. stays)))

  -- ## The colon

  tab_came : (c : Core) → Sure cores more c.cursor.rest (check_tab c) (check_tab (longer_core more c))
  unfolding check_tab
  tab_came c = choose_first (λ x. x == 9) (λ _. and_then _ (separate_came more c) (λ x _.
      choose_first (λ y. in_block x.1 && not (has_valid_yaml_ws x.0) && ((y == 45) || is_alpha y))
      (λ is. reports (shows (λ y. (y == 45) || is_alpha y) true x.1.cursor.rest
      (and_true_right (in_block x.1 && not (has_valid_yaml_ws x.0)) _ is) (λ e. absurd (cc))))
      (λ _. stays))) (λ _. stays)

  behind_key_came : (k : Option Candidate) (begins : Bool) (start : Marker) (c : Core)
      → Stepped c (behind_key k begins start c) (behind_key k begins start (longer_core more c))
  unfolding behind_key value_of_key value_alone opening_actions
  behind_key_came (Some k) begins start c = choose (begins && nat_lt k.mark.line start.line)
      (λ _. missing_refused 0 c.cursor.rest (λ left. left))
      (λ _. on (λ d. completed_step
      (core.Open k.place (opening_of begins k.mark.col c) ∷ at_mark start tokens.Value ∷ [])
      (record (forget_key (go_deeper d)) { key_allowed = false })) (roll_came more 0 c k.mark.col) stays)
  behind_key_came None begins start c = choose (in_block c && not c.key_allowed)
      (λ _. missing_refused 0 c.cursor.rest (λ left. left))
      (λ _. on (λ d. completed_step (opening_actions begins start c)
      (record (go_deeper d) { key_allowed = in_block c }))
      (roll_came more 0 c start.col) stays)

  pub value_came : (c : Core)
      → Sure steps more (drop 1 c.cursor.rest) (value_steps c) (value_steps (longer_core more c))
  unfolding value_steps
  value_came c = and_then _ (on check_tab (pass_came more 1 (with_context (behind_colon c.level.context) c))
      (tab_came _))
      (λ d _. behind_key_came d.level.key (begins_pair c.level.context) c.cursor.mark d)
