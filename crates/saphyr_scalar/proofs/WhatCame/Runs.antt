-- Characters that are taken off, runs, breaks, and white space with a comment.
use Rattle.saphyr_scalar.proofs.Common.{◌≡◌, ℕ, ◌+◌, Bool, true, false, List, ◌++◌, drop, slice_index, Result, Ok, refl, ap, arith, cond, ◌&&◌, ◌==◌, nat_lt, prefix_len, drop-drop, nat_tests, is_break, is_bom, is_yaml_non_break, is_skipped, blank_len, comment_len, is_bare_comment, separation_len, SkipTabs, by_test, and_true_left, and_true_right, Refusal}
use Rattle.saphyr_scalar.specs.Spelling.LineBreaks.{break_len}
use Rattle.saphyr_scalar.specs.Views.Cursor.{Cursor, pass, pass_blanks, pass_break, pass_line, behind_separation, separation}
use Rattle.saphyr_scalar.specs.Steps.Quoted.{with_run}
use Rattle.saphyr_scalar.specs.Known.{longer}
use Rattle.saphyr_scalar.proofs.WhatCame.Rests.{is_nothing, enough_before, shows, shows_is, later_here, later_drop, first_known, drop_known, take_known, run_known, break_known}
use Rattle.saphyr_scalar.proofs.WhatCame.Steps.{CameAs, Sure, reader, beside, behind, further, reports, stays, leaves, choose, choose_first}

module _ (more : List ℕ) where
  pub taken : {t : Bool} (n : ℕ) (s : Cursor)
      → CameAs false t reader more (drop n s.rest) (Ok (pass n s)) (Ok (pass n (longer more s)))
  taken n s = leaves (later_here (drop n s.rest)) (λ known. rw (drop_known more n s.rest known))

  pub passed : {t : Bool} (n : ℕ) (s : Cursor)
      → CameAs false t reader more s.rest (Ok (pass n s)) (Ok (pass n (longer more s)))
  passed n s = further (later_drop n s.rest) (taken n s)

  pub run_passed : {t : Bool} (p : ℕ → Bool) (s : Cursor)
      → CameAs false t reader more s.rest (Ok (pass_blanks (prefix_len p s.rest) s))
      (Ok (pass_blanks (prefix_len p (s.rest ++ more)) (longer more s)))
  run_passed p s = let n = prefix_len p s.rest in
      leaves (later_drop n s.rest) (λ known. rw (run_known more p s.rest known, drop_known more n s.rest known))

  pub run_came : {t : Bool} (p : ℕ → Bool) (text : List ℕ) (s : Cursor)
      → CameAs false t beside more s.rest (Ok (with_run p text s)) (Ok (with_run p text (longer more s)))
  run_came p text s = grind (arith, leaves, later_drop, run_known, drop_known, take_known)

  -- ## Breaks

  break_is : (s : Cursor) → let given : Cursor → Result Cursor Refusal = λ t. Ok t in
      given (pass_break s) ≡ cond (is_break (slice_index s.rest 0)) (given (pass_line (break_len s.rest) s)) (given s)
  break_is s = grind arith

  pub break_came : {t : Bool} (s : Cursor)
      → CameAs false t reader more s.rest (Ok (pass_break s)) (Ok (pass_break (longer more s)))
  break_came s = let n = break_len s.rest in
      rw (break_is s, break_is (longer more s)) (choose_first is_break (λ _. leaves (later_drop n s.rest)
      (λ known. rw (break_known more s.rest known, drop_known more n s.rest known))) (λ _. stays))

  -- ## White space and a comment

  comment_known : (r : List ℕ) → is_nothing (drop (comment_len r) r) ≡ false → comment_len (r ++ more) ≡ comment_len r
  comment_known r known = by_test (slice_index r 0 == 35) (prefix_len is_yaml_non_break r) 0
      (λ n. is_nothing (drop n r) ≡ false → comment_len (r ++ more) ≡ n)
      (λ is k. rw (first_known more r (enough_before false (later_drop (prefix_len is_yaml_non_break r) r) k), is)
      (run_known more is_yaml_non_break r k)) (λ no k. rw (first_known more r k, no)) known

  module _ (tabs : SkipTabs) (r : List ℕ) where
    abbrev b : ℕ
    b = blank_len tabs r

    white_known : is_nothing (drop (separation_len tabs r) r) ≡ false → is_nothing (drop b r) ≡ false
    white_known = by_test (b == 0) _ _ (λ n. is_nothing (drop n r) ≡ false → is_nothing (drop b r) ≡ false)
        (λ none k. let no : b ≡ 0 = grind (arith, nat_tests) in rw no k)
        (λ _ k. enough_before false (later_drop (comment_len (drop b r)) (drop b r))
        (rw (drop-drop (comment_len (drop b r)) b r) k))

    separation_known : is_nothing (drop (separation_len tabs r) r) ≡ false
        → separation_len tabs (r ++ more) ≡ separation_len tabs r
    separation_known known =
        let white = white_known known in
        rw (run_known more (is_skipped tabs) r white, drop_known more b r white) (by_test (b == 0) _ _
        (λ n. is_nothing (drop n r) ≡ false → cond (b == 0) 0 (b + comment_len (drop b r ++ more)) ≡ n)
        (λ none k. rw none) (λ some k. rw some (ap (λ n. b + n) (comment_known (drop b r)
        (rw (drop-drop (comment_len (drop b r)) b r) k)))) known)

  white_seen : (tabs : SkipTabs) (r : List ℕ) (t : Cursor) → is_nothing (drop (blank_len tabs r) r) ≡ false
      → behind_separation tabs (r ++ more) t ≡ behind_separation tabs r t
  unfolding behind_separation
  white_seen tabs r t white = grind (arith, run_known, take_known, first_known, enough_before, later_drop)

  behind_came : (tabs : SkipTabs) (r : List ℕ) (t : Cursor)
      → (is_bare_comment tabs r ≡ true → is_nothing t.rest ≡ false)
      → Sure beside more t.rest (behind_separation tabs r t) (behind_separation tabs r (longer more t))
  unfolding behind_separation
  behind_came tabs r t bare = choose_first (λ c. nat_lt 0 t.mark.col && is_bom c)
      (λ is. reports (shows is_bom true t.rest (and_true_right (nat_lt 0 t.mark.col) _ is) (λ e. absurd (cc))))
      (λ _. choose (is_bare_comment tabs r) (λ is. reports (bare is)) (λ _. stays))

  bare_known : (tabs : SkipTabs) (r : List ℕ) → is_bare_comment tabs r ≡ true
      → is_nothing (drop (separation_len tabs r) r) ≡ false
  bare_known tabs r bare = rw (and_true_left (blank_len tabs r == 0) _ bare)
      (shows_is 35 r refl (and_true_right (blank_len tabs r == 0) _ bare))

  pub separation_came : (tabs : SkipTabs) (s : Cursor)
      → Sure beside more s.rest (separation tabs s) (separation tabs (longer more s))
  unfolding separation
  separation_came tabs s =
      let n = separation_len tabs s.rest in
      behind (later_drop n s.rest) (λ known. rw (separation_known tabs s.rest known, drop_known more n s.rest known)
      (white_seen tabs s.rest _ (white_known tabs s.rest known)))
      (behind_came tabs s.rest (pass_blanks n s) (bare_known tabs s.rest))
