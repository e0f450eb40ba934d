-- Plain scalars.
use Rattle.std.proofs.Common.{◌≡◌, ℕ, ◌<◌, Bool, true, false, List, [], ◌∷◌, ◌++◌, length, slice_index, Result, Ok, refl, ◌∙◌, arith, encode_utf8}
use Rattle.saphyr_scalar.proofs.Common.{◌&&◌, ◌||◌, ◌==◌, not, nat_lt, Option, if◌then◌else◌, is_break, is_blank, is_z, is_bom, is_flow, tab, line_feed, is_document_indicator, is_blank_or_break, and_true_left, Marker, Refusal, Cursor, along, next_line, pass_break}
use Rattle.saphyr_scalar.specs.Steps.Quoted.{mid_line, with_run}
use Rattle.saphyr_scalar.specs.Steps.Plain.{seen_gap, is_in_word, word_starts, PlainGap, content_behind_tab, reached_gap, line_front, ends_line, lines, next_lines, gap_from, gap, next_word_starts, comment_of, PlainScalarRead, with_text, scalar_end, word, plain}
use Rattle.saphyr_scalar.proofs.Plain.Gaps.{gap_end}
use Rattle.saphyr_scalar.proofs.Plain.Pieces.{goes_says, word_on, plain_behind_gap, word_over, not_in_word, word_behind}
use Rattle.saphyr_scalar.proofs.Lengths.{by_ends}
use Rattle.saphyr_scalar.specs.Known.{is_open, longer}
use Rattle.saphyr_scalar.proofs.WhatCame.Rests.{some, InText, later_than, known_before, dash_shown, blank_shown, later_here, later_on, first_known, indicator_known, dash_known, plain_known}
use Rattle.saphyr_scalar.proofs.WhatCame.Steps.{Left, Came, further, reader, beside, behind, open_refused, reports, stays, given, same_step, ended, choose, choose_at, choose_first, and_known, on}
use Rattle.saphyr_scalar.proofs.WhatCame.Runs.{run_came, break_came}

abbrev gaps : Left PlainGap
gaps = record { rest = λ g. g.behind.rest; with_more = λ more g. record g { behind = longer more g.behind } }

abbrev plains : Left (List ℕ × Marker × Option Marker × Cursor)
plains = record { rest = λ x. x.3.rest; with_more = λ more x. (x.0, x.1, x.2, longer more x.3) }

module _ (more : List ℕ) where
  in_word_known : (f : Bool) (r : List ℕ) → is_open r ≡ false → is_in_word f (r ++ more) ≡ is_in_word f r
  unfolding is_in_word
  in_word_known f r known = rw (plain_known more f r known, first_known more r (some r known))

  starts_came : (f : Bool) (s : Cursor) → Came beside more s.rest (word_starts f s) (word_starts f (longer more s))
  unfolding word_starts
  starts_came f s =
      choose_at (λ t. (slice_index t 0 == 35) || ((s.mark.col == 0) && is_document_indicator t))
      (λ known. rw (indicator_known more s.rest known, first_known more s.rest (some s.rest known))) (λ _. stays)
      (λ _. choose_at (λ t. f && (slice_index t 0 == 45) && is_flow (slice_index t 1))
      (dash_known more f s.rest) (λ is. reports (dash_shown f s.rest is))
      (λ _. same_step (λ known. rw (in_word_known f s.rest known)) stays))

  goes_came : (f : Bool) (i : ℕ) (s : Cursor)
      → Came beside more s.rest (next_word_starts f i s) (next_word_starts f i (longer more s))
  unfolding next_word_starts
  goes_came f i s = choose (s.blank_so_far && not f && nat_lt s.mark.col i) (λ _. stays)
      (λ _. starts_came f s)

  -- ## Gaps

  -- at the end of what came nothing is refused
  stands_end : (a m : Marker) (u : Bool) (q : Result Cursor Refusal)
      → Came reader more [] (content_behind_tab a u (line_front m [])) q
  unfolding content_behind_tab
  stands_end a m true q = ended (given (later_here []))
  stands_end a m false q = ended (given (later_here []))

  reached_end : (a m : Marker) (u : Bool) (feeds : List ℕ) (q : Result PlainGap Refusal)
      → Came gaps more [] (reached_gap a u feeds (line_front m [])) q
  reached_end a m u feeds q = ended (and_known (λ t. Ok (seen_gap u feeds t)) (stands_end a m u (Ok (line_front m [])))
      (λ t _. stays))

  -- a tab in the indentation is in a text that is not open
  module _ (text : List ℕ) where
    stands_came : (a m : Marker) (u : Bool) (r : List ℕ) → InText text u r → Came reader more text
        (content_behind_tab a u (line_front m r)) (content_behind_tab a u (line_front m (r ++ more)))
    unfolding content_behind_tab
    stands_came a m u [] h = further h.0 (stands_end a m u _)
    stands_came a m u (c ∷ cs) h =
        choose (u && is_bom c) (λ is. reports (h.1 (and_true_left u _ is)))
        (λ _. choose (u && not ((c == 35) || is_z c)) (λ is. reports (h.1 (and_true_left u _ is))) (λ _. given h.0))

    reached_came : (a m : Marker) (u : Bool) (feeds r : List ℕ) → InText text u r → Came gaps more text
        (reached_gap a u feeds (line_front m r)) (reached_gap a u feeds (line_front m (r ++ more)))
    reached_came a m u feeds r h = and_known _ (stands_came a m u r h) (λ t _. stays)

    tab_in : (i : ℕ) (m : Marker) (u : Bool) (c : ℕ) (cs : List ℕ) → InText text u (c ∷ cs)
        → InText text (is_blank c && (u || ((c == tab) && nat_lt m.col i))) cs
    tab_in i m u c cs h = (
      later_than (later_on c (later_here cs)) h.0,
      λ is. known_before h.0 (blank_shown c cs (and_true_left (is_blank c) _ is)),
    )

    lines_came : (i : ℕ) (a : Marker) (u : Bool) (feeds : List ℕ) (m : Marker) (r : List ℕ) → InText text u r
        → Came gaps more text (lines i a u feeds m r) (lines i a u feeds m (r ++ more))
    unfolding lines
    lines_came i a u feeds m [] h = further h.0 (reached_end a m u feeds _)
    lines_came i a u feeds m (c ∷ []) h = choose (is_blank_or_break c)
        (λ _. further (tab_in i m u c [] h).0 (reached_end a _ _ _ _)) (λ _. reached_came a m u feeds (c ∷ []) h)
    lines_came i a u feeds m (c ∷ d ∷ cs) h = choose (is_blank_or_break c)
        (λ _. lines_came i a (is_blank c && (u || ((c == tab) && nat_lt m.col i)))
        (if ends_line c (d ∷ cs) then feeds ++ line_feed ∷ [] else feeds)
        (if ends_line c (d ∷ cs) then next_line m 1 else along m 1) (d ∷ cs) (tab_in i m u c (d ∷ cs) h))
        (λ _. reached_came a m u feeds (c ∷ d ∷ cs) h)

  next_came : (i : ℕ) (a : Marker) (s : Cursor)
      → Came gaps more s.rest (next_lines i a s) (next_lines i a (longer more s))
  next_came i a s = and_known _ (lines_came s.rest i a false [] s.mark s.rest (later_here s.rest, λ e. absurd (cc)))
      (λ g _. stays)

  gap_came : (i : ℕ) (a : Marker) (s : Cursor) → Came gaps more s.rest (gap i a s) (gap i a (longer more s))
  unfolding gap gap_from
  gap_came i a s = on (λ x. gap_from i a x.0 x.1) (run_came more is_blank [] s) (from (with_run is_blank [] s))
    where
      from : (x : List ℕ × Cursor)
          → Came gaps more x.1.rest (gap_from i a x.0 x.1) (gap_from i a x.0 (longer more x.1))
      from x = choose_first is_break (λ _. on (next_lines i a) (break_came more x.1) (next_came i a (pass_break x.1)))
          (λ _. stays)

  -- ## Words

  end_came : (f : Bool) (m : Marker) (g : PlainGap)
      → Came plains more g.behind.rest (scalar_end f m g) (scalar_end f m (gaps.with_more more g))
  unfolding comment_of
  end_came f m g = same_step (λ known. rw (first_known more g.behind.rest (some g.behind.rest known))) stays

  front_came : (u r : List ℕ) (x y : PlainScalarRead) → Came plains more r x y
      → Came plains more r (with_text u x) (with_text u y)
  front_came u r x y h = and_known _ h (λ z _. stays)

  module _ (f : Bool) (i : ℕ) (a : Marker) where
    abbrev Word : Marker → List ℕ → Type 0
    Word m r = Came plains more r (word f i a m r) (word f i a m (r ++ more))

    behind_came : (m : Marker) (g : PlainGap)
        → (is_in_word f g.behind.rest ≡ true → Word g.behind.mark g.behind.rest)
        → Came plains more g.behind.rest (plain_behind_gap f i a m g) (plain_behind_gap f i a m (gaps.with_more more g))
    behind_came m g others = and_known _ (goes_came f i g.behind) (λ b e.
        let says = goes_says f i b.0 g.behind b.1 e in
        choose b.0 (λ goes. front_came g.text _ _ _ (rw says.same (others (says.goes goes))))
        (λ _. rw says.same (end_came f m g)))

    abbrev Others : List ℕ → Type 0
    Others r = (s t : Cursor) → length s.rest < length r → Word s.mark s.rest

    on_came : (m : Marker) (r : List ℕ) → is_in_word f r ≡ true → Others r → Word m r
    on_came m [] goes others = absurd (cc (not_in_word f))
    on_came m (c ∷ cs) goes others =
        let s = mid_line (along m 1) cs in
        rw (word_on f i a m c cs goes) (same_step
        (λ known. word_on f i a m c (cs ++ more) (in_word_known f (c ∷ cs) known ∙ goes))
        (front_came (encode_utf8 c) _ _ _ (behind (later_on c (later_here cs)) (λ _. refl) (others s s (omega arith)))))

    over_came : (m : Marker) (r : List ℕ) → is_in_word f r ≡ false → Others r → Word m r
    over_came m r stops others = rw (word_over f i a m r stops)
        (same_step (λ known. word_over f i a m (r ++ more) (in_word_known f r known ∙ stops))
        (and_known _ (gap_came i a (mid_line m r)) (λ g e. behind_came m g (λ goes.
        others g.behind g.behind (word_behind f r g.behind.rest (gap_end i a (mid_line m r) g e) stops goes)))))

    word_came : (s t : Cursor) → Word s.mark s.rest
    word_came = by_ends (λ s t. Word s.mark s.rest)
        (λ s t others. by s (λ x y less. others x y less) (is_in_word f s.rest) refl)
      where
        by : (s : Cursor) → Others s.rest → (b : Bool) → is_in_word f s.rest ≡ b → Word s.mark s.rest
        by s others true goes = on_came s.mark s.rest goes others
        by s others false stops = over_came s.mark s.rest stops others

  pub plain_came : (f : Bool) (i : ℕ) (s : Cursor) → Came plains more s.rest (plain f i s) (plain f i (longer more s))
  unfolding plain
  plain_came f i s = and_known _ (starts_came f s) (λ b e. choose b.0 (λ _. word_came f i s.mark b.1 b.1)
      (λ _. open_refused))
