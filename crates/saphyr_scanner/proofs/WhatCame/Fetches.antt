-- The next token.
use Rattle.std.proofs.Common.{◌≡◌, ℕ, Bool, true, false, List, [], ◌∷◌, ◌++◌, drop, slice_index, Some, refl, ap, arith, cond}
use Rattle.std.proofs.lemmas.Bool.Decides.{nat_tests}
use Rattle.std.specs.Prelude.{◌&&◌, ◌||◌, ◌==◌, not, nat_lt, nat_le}
use Rattle.saphyr_input.proofs.Basics.Booleans.{and_true_left, and_true_right}
use Rattle.saphyr_input.specs.Classes.{is_bom, is_z, is_blank_or_breakz}
use Rattle.saphyr_input.specs.Places.{is_document_start, is_document_end}
use Rattle.saphyr_scanner.specs.Grammar.Tokens as tokens
use Rattle.saphyr_scanner.specs.Steps.Core.{Core, StepResult, in_block, least_column}
use Rattle.saphyr_scanner.specs.Steps.Queue as queues
use Rattle.saphyr_scanner.specs.Steps.State.{State}
use Rattle.saphyr_scanner.specs.Steps.Fetch.{is_value_adjacent, flow_value_steps, step, state_behind_content, fetch_here, arrive, fetch, fetch_within, state_behind_token}
use Rattle.saphyr_scalar.specs.Known.{is_open}
use Rattle.saphyr_scalar.proofs.WhatCame.Rests.{is_nothing, some, shown, shows_second, nul_shown, colon_shown, entry_shown, four_shown, known_longer, later_here, later_drop, first_known, second_known, start_known, end_known}
use Rattle.saphyr_scalar.proofs.WhatCame.Steps.{Came, CameAs, Sure, known_by, reports, open_refused, stays, same_step, choose, choose_first, choose_at, choose_same, and_known}
use Rattle.saphyr_scanner.specs.Longer.{extended_by}
use Rattle.saphyr_scanner.proofs.WhatCame.Cores.{longer_core, steps, states, far_came, core_came, after_came, seen_behind}
use Rattle.saphyr_scanner.proofs.WhatCame.Gaps.{pass_gap_came}
use Rattle.saphyr_scanner.proofs.WhatCame.Indicators.{entry_came, key_came, opening_came, closing_came, flow_entry_came, value_came}
use Rattle.saphyr_scalar.specs.declared.values.Quote.TheVariants.{Single, Double}
use Rattle.saphyr_scanner.proofs.WhatCame.Scalars.{name_came, tag_steps_came, quoted_steps_came, plain_steps_came, block_steps_came}
use Rattle.saphyr_scanner.proofs.WhatCame.Documents.{unroll_came, stream_end_came, marker_came, document_end_came, byte_order_came, directive_state_came}

module _ (more : List ℕ) where
  flow_value_came : (c : Core) → Sure steps more (drop 1 c.cursor.rest)
      (flow_value_steps (slice_index c.cursor.rest 1) c)
      (flow_value_steps (slice_index (c.cursor.rest ++ more) 1) (longer_core more c))
  unfolding flow_value_steps
  flow_value_came c = let p = λ (x : ℕ). (x == 91) || (x == 123) in same_step
      (λ known. ap (λ x. flow_value_steps x (longer_core more c)) (second_known more c.cursor.rest known))
      (choose (not (c.cursor.mark.index == c.adjacent) && p (slice_index c.cursor.rest 1))
      (λ is. reports (shows_second p true c.cursor.rest (and_true_right (not (c.cursor.mark.index == c.adjacent)) _ is)
      (λ e. absurd (cc)))) (λ _. value_came more c))

  -- A step whose test looks at the character behind the first: where it passes at the end of what came, the step
  -- leaves nothing.
  choose_behind : (a b : Bool) {text : List ℕ} {x y z w : StepResult} → (is_nothing (drop 1 text) ≡ false → b ≡ a)
      → (a ≡ false → b ≡ false) → (a ≡ true → is_open text ≡ false) → (a ≡ true → Sure steps more (drop 1 text) x z)
      → (a ≡ false → Came steps more text y w) → Came steps more text (cond a x y) (cond b z w)
  choose_behind true b {text} {z = z} {w = w} is not known then else = known_by (later_drop 1 text) (λ _. known refl)
      (same_step (λ left. ap (λ t. cond t z w) (is left)) (then refl))
  choose_behind false b is not known then else = rw (not refl) (else refl)

  question_known : (r : List ℕ) → ((slice_index r 0 == 63) && is_blank_or_breakz (slice_index r 1)) ≡ false
      → ((slice_index r 0 == 63) && is_blank_or_breakz (slice_index (r ++ more) 1)) ≡ false
  question_known [] h = refl
  question_known (c ∷ []) h = grind arith
  question_known (c ∷ d ∷ r) h = h

  unexpected : (r : List ℕ)
      → ((slice_index r 0 == 37) || (slice_index r 0 == 64) || (slice_index r 0 == 96)) ≡ true → is_open r ≡ false
  unexpected [] is = absurd (cc)
  unexpected (c ∷ cs) is = known_longer (c ∷ []) cs (grind (arith, nat_tests))

  -- a step by its first character, which tells that the text is not open
  by_first : {asks says : Bool} {p q : StepResult} (n : ℕ) (r : List ℕ) → is_open (n ∷ []) ≡ false → (0 == n) ≡ false
      → (slice_index r 0 == n) ≡ true → CameAs asks says steps more r p q → Came steps more r p q
  by_first n r known some is h = known_by (later_here r) (λ _. shown n r known some is) h

  module _ (n : ℕ) (c : Core) where
    abbrev r : List ℕ
    r = c.cursor.rest

    abbrev x : ℕ
    x = slice_index r 0

    abbrev y : ℕ
    y = slice_index r 1

    abbrev z : ℕ
    z = slice_index (r ++ more) 1

    -- A step of a text and the same step of a longer one. The rows are those of `step`, in its order: where the first
    -- character tells the kind, both texts choose alike, and the lemma of that kind says the rest. Where the second
    -- character is asked too, the choice is alike unless the text is open behind the first.
    step_came : Came steps more r (step x y n c) (step (slice_index (r ++ more) 0) z n (longer_core more c))
    unfolding step
    step_came = same_step (λ known. ap (λ d. step d z n (longer_core more c)) (first_known more r (some r known)))
        (choose (x == 91) (λ is. let known = shown 91 r refl refl is in
        by_first 91 r refl refl is (opening_came more _ _ n c (some r known)))
        (λ _. choose (x == 123) (λ is. let known = shown 123 r refl refl is in
        by_first 123 r refl refl is (opening_came more _ _ n c (some r known)))
        (λ _. choose (x == 93) (λ is. let known = shown 93 r refl refl is in
        by_first 93 r refl refl is (closing_came more _ _ c (some r known)))
        (λ _. choose (x == 125) (λ is. let known = shown 125 r refl refl is in
        by_first 125 r refl refl is (closing_came more _ _ c (some r known)))
        (λ _. choose (x == 44) (λ is. by_first 44 r refl refl is (flow_entry_came more c))
        (λ _. choose_same ((x == 45) && is_blank_or_breakz y) ((x == 45) && is_blank_or_breakz z)
        (seen_behind more 45 is_blank_or_breakz r refl)
        (λ is. known_by (later_drop 1 r) (entry_shown r is) (entry_came more c))
        (λ _. choose_behind ((x == 63) && is_blank_or_breakz y) ((x == 63) && is_blank_or_breakz z)
        (λ left. ap (λ d. (x == 63) && is_blank_or_breakz d) (second_known more r left)) (question_known r)
        (λ is. shown 63 r refl refl (and_true_left (x == 63) _ is)) (λ _. key_came more c)
        (λ _. choose_same ((x == 58) && is_blank_or_breakz y) ((x == 58) && is_blank_or_breakz z)
        (seen_behind more 58 is_blank_or_breakz r refl)
        (λ is. known_by (later_drop 1 r) (colon_shown r (and_true_left (x == 58) _ is)) (value_came more c))
        (λ _. choose_same ((x == 58) && is_value_adjacent y c) ((x == 58) && is_value_adjacent z c)
        (seen_behind more 58 (λ d. is_value_adjacent d c) r refl)
        (λ is. known_by (later_drop 1 r) (colon_shown r (and_true_left (x == 58) _ is)) (flow_value_came c))
        (λ _. choose (x == 34) (λ is. by_first 34 r refl refl is (quoted_steps_came more Double n c))
        (λ _. choose (x == 39) (λ is. by_first 39 r refl refl is (quoted_steps_came more Single n c))
        (λ _. choose (x == 42) (λ is. by_first 42 r refl refl is (name_came more _ n c))
        (λ _. choose (x == 38) (λ is. by_first 38 r refl refl is (name_came more _ n c))
        (λ _. choose (x == 33) (λ is. by_first 33 r refl refl is (tag_steps_came more n c))
        (λ _. choose ((x == 124) && in_block c)
        (λ is. by_first 124 r refl refl (and_true_left (x == 124) _ is) (block_steps_came more _ n c))
        (λ _. choose ((x == 62) && in_block c)
        (λ is. by_first 62 r refl refl (and_true_left (x == 62) _ is) (block_steps_came more _ n c))
        (λ _. choose ((x == 37) || (x == 64) || (x == 96)) (λ is. reports (unexpected r is))
        (λ _. plain_steps_came more n c))))))))))))))))))

  content_came : (s : State) → Came states more s.core.cursor.rest
      (state_behind_content (slice_index s.core.cursor.rest 0) (slice_index s.core.cursor.rest 1) s)
      (state_behind_content (slice_index (s.core.cursor.rest ++ more) 0) (slice_index (s.core.cursor.rest ++ more) 1)
      (extended_by more s))
  unfolding state_behind_content
  content_came s = after_came more _ _ s.queue (step_came (queues.next s.queue) s.core)

  here_came : (s : State) → Came states more s.core.cursor.rest (fetch_here s) (fetch_here (extended_by more s))
  unfolding fetch_here
  here_came s = let r = s.core.cursor.rest in let at_start = s.core.cursor.mark.col == 0 in
      choose_first is_z (λ nul. known_by (later_here r) (nul_shown r nul) (stream_end_came more s))
      (λ _. choose_first is_bom
      (λ mark. known_by (later_here r) (λ _. shown 65279 r refl refl mark) (byte_order_came more s mark))
      (λ _. choose_first (λ c. at_start && (c == 37)) (λ is. known_by (later_here r)
      (λ _. shown 37 r refl refl (and_true_right at_start _ is)) (directive_state_came more s))
      (λ _. choose_at (λ t. at_start && is_document_start t)
      (λ known. ap (λ b. at_start && b) (start_known more r known))
      (λ _. known_by (later_drop 3 r) (four_shown r) (marker_came more tokens.DocumentStart s))
      (λ _. choose_at (λ t. at_start && is_document_end t) (λ known. ap (λ b. at_start && b) (end_known more r known))
      (λ _. known_by (later_drop 3 r) (four_shown r) (document_end_came more s))
      (λ _. choose (nat_lt s.core.cursor.mark.col (least_column s.core)) (λ _. open_refused) (λ _. content_came s))))))

  arrive_came : (s : State) → Came states more s.core.cursor.rest (arrive s) (arrive (extended_by more s))
  unfolding arrive
  arrive_came s = and_known _ (core_came more 0 _ _ s.queue (and_known _ (pass_gap_came more s.core)
      (λ c _. far_came more c))) (λ t _. unroll_came more 0 (Some t.core.cursor.mark.col) t.core.cursor.mark t)

  pub fetch_came : (s : State) → Came states more s.core.cursor.rest (fetch s) (fetch (extended_by more s))
  unfolding fetch
  fetch_came s =
      choose s.core.started (λ _. and_known _ (arrive_came s) (λ t _. here_came t)) (λ _. stays)

  within_came : (limit : ℕ) (s : State)
      → Came states more s.core.cursor.rest (fetch_within limit s) (fetch_within limit (extended_by more s))
  unfolding fetch_within
  within_came limit s = and_known _ (fetch_came s)
      (λ t _. choose (nat_le t.core.cursor.mark.index limit) (λ _. stays) (λ _. open_refused))

  pub token_came : (limit : ℕ) (s : State)
      → Came states more s.core.cursor.rest (state_behind_token limit s) (state_behind_token limit (extended_by more s))
  token_came limit s = and_known _ (within_came limit s) (λ t _. core_came more 0 _ _ t.queue (far_came more t.core))
