-- What a scanner knows changes alike where more of the text comes.
use Rattle.std.proofs.Common.{◌≡◌, ℕ, Bool, true, false, List, [], ◌∷◌, ◌++◌, drop, slice_index, Result, Ok, Err, refl, arith}
use Rattle.std.specs.Prelude.{◌&&◌, ◌==◌, not}
use Rattle.saphyr_scalar.specs.declared.scalar.fault.Refusal.{Refusal}
use Rattle.saphyr_scalar.specs.Views.Cursor.{◌>>=◌}
use Rattle.saphyr_scanner.specs.Steps.Core.{Core, Step, StepResult, perform, in_block, save_key, remove_key, is_too_far, drop_far_key, is_further, roll}
use Rattle.saphyr_scanner.specs.Steps.Queue.{Queue}
use Rattle.saphyr_scanner.specs.Steps.Passing.{with_cursor, pass_on, separate}
use Rattle.saphyr_scanner.specs.Steps.State.{State, on_core, on_core_with, after_step}
use Rattle.saphyr_scalar.specs.Known.{is_open, longer}
use Rattle.saphyr_scalar.proofs.WhatCame.Steps.{Left, CameAs, Came, Sure, open_refused, missing_refused, stays, choose, choose_given, and_then, on, mapped}
use Rattle.saphyr_scalar.proofs.WhatCame.Rests.{is_nothing, lacks}
use Rattle.saphyr_scalar.proofs.WhatCame.Runs.{taken, separation_came}
use Rattle.saphyr_scanner.specs.Longer.{extended_by}

abbrev pub longer_core : List ℕ → Core → Core
longer_core more c = with_cursor (longer more c.cursor) c

-- what is left behind n characters
abbrev pub cores_at : ℕ → Left Core
cores_at n = record { rest = λ c. drop n c.cursor.rest; with_more = longer_core }

abbrev pub cores : Left Core
cores = cores_at 0

abbrev pub cores_beside : {X : Type 0} → Left (X × Core)
cores_beside = record { rest = λ x. x.1.cursor.rest; with_more = λ more x. (x.0, longer_core more x.1) }

abbrev pub steps : Left Step
steps = record { rest = λ x. x.core.cursor.rest; with_more = λ more x. record x { core = longer_core more x.core } }

abbrev pub states_at : ℕ → Left State
states_at n = record { rest = λ s. drop n s.core.cursor.rest; with_more = extended_by }

abbrev pub states : Left State
states = states_at 0

abbrev pub states_beside : {X : Type 0} → Left (X × State)
states_beside = record { rest = λ x. x.1.core.cursor.rest; with_more = λ more x. (x.0, extended_by more x.1) }

module _ (more : List ℕ) where
  -- ## Changes that leave the text

  module _ (n : ℕ) (c : Core) {asks says : Bool} where
    pub save_came : (place : ℕ) → CameAs asks says (cores_at n) more (drop n c.cursor.rest)
        (Ok (save_key place c)) (Ok (save_key place (longer_core more c)))
    save_came place = choose_given c.key_allowed (λ _. stays) (λ _. stays)

    pub roll_came : (column : ℕ) → CameAs asks says (cores_at n) more (drop n c.cursor.rest)
        (Ok (roll column c)) (Ok (roll column (longer_core more c)))
    roll_came column = choose_given (is_further column c) (λ _. stays) (λ _. stays)

    pub remove_came : (is_nothing (drop 3 c.cursor.rest) ≡ false → lacks says (drop n c.cursor.rest) ≡ false)
        → CameAs asks says (cores_at n) more (drop n c.cursor.rest)
        (remove_key c) (remove_key (longer_core more c))
    unfolding remove_key
    remove_came known =
        choose (in_block c && c.required) (λ _. missing_refused 3 c.cursor.rest known) (λ _. stays)

  pub far_came : (c : Core)
      → Came cores more c.cursor.rest (drop_far_key c) (drop_far_key (longer_core more c))
  unfolding drop_far_key
  far_came c = choose (not (in_block c && is_too_far c.level.key c.cursor.mark)) (λ _. stays)
      (λ _. choose c.required (λ _. open_refused) (λ _. stays))

  -- ## Characters that are passed

  pub pass_came : {says : Bool} (n : ℕ) (c : Core)
      → CameAs false says cores more (drop n c.cursor.rest) (Ok (pass_on n c)) (Ok (pass_on n (longer_core more c)))
  pass_came n c = on (λ s. Ok (with_cursor s c)) (taken more n c.cursor) stays

  pub separate_came : (c : Core)
      → Sure cores_beside more c.cursor.rest (separate c) (separate (longer_core more c))
  separate_came c = and_then _ (separation_came more _ c.cursor) (λ x _. stays)

  -- ## States

  core_is : (r : Result Core Refusal) (q : Queue) → on_core r q ≡ (r >>= λ c. Ok (record { core = c; queue = q }))
  core_is (Ok c) q = refl
  core_is (Err e) q = refl

  step_is : (r : StepResult) (q : Queue)
      → after_step r q ≡ (r >>= λ x. Ok (record { core = x.core; queue = perform x.actions q }))
  step_is (Ok x) q = refl
  step_is (Err e) q = refl

  refusal_given : {X : Type 0} (r : Result (X × Core) Refusal) (s : State)
      → on_core_with r s ≡ (r >>= λ x. Ok (x.0, record { core = x.1; queue = s.queue }))
  refusal_given (Ok x) s = refl
  refusal_given (Err e) s = refl

  module _ {asks says : Bool} {text : List ℕ} where
    pub core_came : (n : ℕ) (r p : Result Core Refusal) (q : Queue) → CameAs asks says (cores_at n) more text r p
        → CameAs asks says (states_at n) more text (on_core r q) (on_core p q)
    core_came n r p q h = rw (core_is r q, core_is p q) (mapped _ r p (λ _. refl) (λ _. refl) h)

    pub after_came : (r p : StepResult) (q : Queue) → CameAs asks says steps more text r p
        → CameAs asks says states more text (after_step r q) (after_step p q)
    after_came r p q h = rw (step_is r q, step_is p q) (mapped _ r p (λ _. refl) (λ _. refl) h)

    pub core_given : {X : Type 0} (r p : Result (X × Core) Refusal) (s : State)
        → CameAs asks says cores_beside more text r p
        → CameAs asks says states_beside more text (on_core_with r s) (on_core_with p (extended_by more s))
    core_given r p s h =
        rw (refusal_given r s, refusal_given p (extended_by more s)) (mapped _ r p (λ _. refl) (λ _. refl) h)

  -- ## A character that a marker or a value begins with, and the next one

  pub seen_behind : (n : ℕ) (p : ℕ → Bool) (r : List ℕ) → is_open (n ∷ []) ≡ true → is_open r ≡ false
      → ((slice_index r 0 == n) && p (slice_index (r ++ more) 1)) ≡ ((slice_index r 0 == n) && p (slice_index r 1))
  seen_behind n p r begins known = grind arith
