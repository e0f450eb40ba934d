-- Block scalars.
use Rattle.std.proofs.Common.{◌≡◌, ℕ, ◌+◌, Bool, true, false, List, [], ◌∷◌, ◌++◌, drop, slice_index, Option, Some, None, Ok, refl, ap, arith}
use Rattle.saphyr_scalar.proofs.Common.{◌&&◌, ◌==◌, not, nat_lt, nat_le, unwrap_or, if◌then◌else◌, is_breakz, is_blank, is_digit, is_z, is_yaml_non_break, BlockStyle, Chomping, Strip, Clip, Keep, Marker, Cursor, ◌>>=◌, refuse, along, next_line, pass, pass_break}
use Rattle.saphyr_scalar.specs.declared.scalar.fault.FaultText.TheVariants as fault
use Rattle.saphyr_scalar.specs.Steps.Block.{EmptyLinesRead, LinesRead, chomping, indicator, header_break, header_end, last_chomping, header_behind, header, is_indentation, inside_break, with_empty_line, pass_empty_lines, line_starts, break_before, lines_behind_text, between, line, is_unfinished, tail_alone, given_indentation, chomped_lines, content, behind_leading_lines, no_lines, behind_header, block_scalar}
use Rattle.saphyr_scalar.specs.Known.{is_open, longer}
use Rattle.saphyr_scalar.proofs.WhatCame.Rests.{is_nothing, some, enough_before, shows, shows_is, later_here, later_drop, first_known, indicator_known, drop_known}
use Rattle.saphyr_scalar.proofs.WhatCame.Steps.{Came, Sure, Mixed, loosely, on_known, reader, beside, beside_two, reports, stays, given, past, leaves, ended, choose, choose_first, choose_of, choose_given, at_break, and_then, on}
use Rattle.saphyr_scalar.proofs.WhatCame.Runs.{taken, passed, break_came, separation_came}

module _ (more : List ℕ) where
  -- ## Headers

  chomping_came : (s : Cursor) → Sure beside more s.rest (Ok (chomping s)) (Ok (chomping (longer more s)))
  unfolding chomping
  chomping_came s =
      by 43 (λ _. on (λ t. Ok (Some Keep, t)) (passed more 1 s) stays) (λ _. by 45
      (λ _. on (λ t. Ok (Some Strip, t)) (passed more 1 s) stays) (λ _. stays))
    where
      by : (n : ℕ) {x y z w : Option Chomping × Cursor}
          → ((slice_index s.rest 0 == n) ≡ true → Sure beside more s.rest (Ok x) (Ok z))
          → ((slice_index s.rest 0 == n) ≡ false → Sure beside more s.rest (Ok y) (Ok w))
          → Sure beside more s.rest (Ok (if slice_index s.rest 0 == n then x else y))
          (Ok (if slice_index (s.rest ++ more) 0 == n then z else w))
      by n first second = choose_of (λ x. Ok x) (slice_index s.rest 0 == n) (slice_index (s.rest ++ more) 0 == n)
          (λ known. ap (λ c. c == n) (first_known more s.rest known)) first second

  indicator_came : (start : Marker) (s : Cursor)
      → Sure beside more s.rest (indicator start s) (indicator start (longer more s))
  unfolding indicator
  indicator_came start s = choose_first (λ c. not (is_digit c)) (λ _. stays)
      (λ _. choose_first (λ c. c == 48) (λ is. reports (shows_is 48 s.rest refl is))
      (λ _. leaves (later_drop 1 s.rest) (λ known.
      rw (first_known more s.rest (enough_before false (later_drop 1 s.rest) known), drop_known more 1 s.rest known))))

  header_end_came : (start : Marker) (s : Cursor)
      → Sure reader more s.rest (header_end start s) (header_end start (longer more s))
  unfolding header_end header_break
  header_end_came start s = and_then _ (separation_came more _ s) (λ x _. choose_first (λ c. not (is_breakz c))
      (λ is. reports (shows (λ c. not (is_breakz c)) true x.1.rest is (λ e. absurd (cc))))
      (λ _. on (λ t. if slice_index t.rest 0 == 9 then refuse fault.BlockScalarTabFirst start else Ok t)
      (break_came more x.1) (choose_first (λ c. c == 9) (λ is. reports (shows_is 9 (pass_break x.1).rest refl is))
      (λ _. stays))))

  last_came : (o : Option Chomping) (s : Cursor)
      → Sure beside more s.rest (Ok (last_chomping o s)) (Ok (last_chomping o (longer more s)))
  unfolding last_chomping
  last_came (Some first) s = stays
  last_came None s = on (λ x. Ok (unwrap_or x.0 Clip, x.1)) (chomping_came s) stays

  header_came : (s : Cursor) → Sure beside more (drop 1 s.rest) (header s) (header (longer more s))
  unfolding header header_behind
  header_came s = on (λ (c : Option Chomping × Cursor). indicator s.mark c.1
      >>= λ x. header_behind s.mark x.0 (last_chomping c.0 x.1))
      (on (λ t. Ok (chomping t)) (taken more 1 s) (chomping_came (pass 1 s)))
      (and_then _ (indicator_came s.mark _) (λ x _. on (header_behind s.mark x.0) (last_came _ x.1)
      (and_then _ (header_end_came s.mark _) (λ t _. stays))))

  -- ## Lines

  empty_came : (limit : Option ℕ) (lines : EmptyLinesRead) (b : Bool) (m : Marker) (r : List ℕ)
      → Sure beside more r (Ok (pass_empty_lines limit lines b m r)) (Ok (pass_empty_lines limit lines b m (r ++ more)))
  unfolding pass_empty_lines
  empty_came limit lines b m [] = ended (given (later_here []))
  empty_came limit lines b m (c ∷ cs) = choose_given (is_indentation limit m.col c)
      (λ _. past c (empty_came limit lines b (along m 1) cs))
      (λ _. at_break (λ x. Ok x) false c cs (empty_came limit lines b (inside_break m) cs)
      (empty_came limit (with_empty_line lines m.col) true (next_line m 1) cs) stays)

  starts_known : (i col : ℕ) (r : List ℕ) → is_open r ≡ false → line_starts i col (r ++ more) ≡ line_starts i col r
  unfolding line_starts
  starts_known i col r known = rw (indicator_known more r known, first_known more r (some r known))

  text_came : (front r : List ℕ) (x y : LinesRead) → Came beside_two more r (Ok x) (Ok y)
      → Came beside_two more r (Ok (lines_behind_text front x)) (Ok (lines_behind_text front y))
  text_came front r x y h = on_known (λ z. Ok (lines_behind_text front z)) h stays

  module _ (style : BlockStyle) (i : ℕ) where
    mutual
      unfolding between line

      between_came : (above : Option Bool) (lines : ℕ) (b : Bool) (m : Marker) (r : List ℕ) → Came beside_two more r
          (Ok (between style i above lines b m r)) (Ok (between style i above lines b m (r ++ more)))
      between_came above lines b m [] = ended (given (later_here []))
      between_came above lines b m (c ∷ cs) = choose_given (is_indentation (Some i) m.col c)
          (λ _. past c (between_came above lines b (along m 1) cs))
          (λ _. at_break (λ x. Ok x) false c cs (between_came above lines b (inside_break m) cs)
          (between_came above (lines + 1) true (next_line m 1) cs)
          (choose_of (λ x. Ok x) (line_starts i m.col (c ∷ cs)) (line_starts i m.col (c ∷ (cs ++ more)))
          (starts_known i m.col (c ∷ cs))
          (λ _. text_came (break_before style above lines (is_blank c) ++ c ∷ []) _ _ _
          (past c (line_came (is_blank c) b (along m 1) cs)))
          (λ _. stays)))

      line_came : (wide b : Bool) (m : Marker) (r : List ℕ) → Came beside_two more r
          (Ok (line style i wide b m r)) (Ok (line style i wide b m (r ++ more)))
      line_came wide b m [] = ended (given (later_here []))
      line_came wide b m (c ∷ cs) = choose_given (is_yaml_non_break c)
          (λ _. text_came (c ∷ []) _ _ _ (past c (line_came wide b (along m 1) cs)))
          (λ _. at_break (λ x. Ok x) false c cs (line_came wide b (inside_break m) cs)
          (between_came (Some wide) 0 true (next_line m 1) cs) stays)

  -- ## Scalars

  alone_known : (c : Chomping) (lines : ℕ) (s : Cursor) → tail_alone c lines (longer more s) ≡ tail_alone c lines s
  unfolding tail_alone
  alone_known u0 lines s = grind arith

  module _ (style : BlockStyle) (indent : ℕ) where
    content_came : (c : Chomping) (i lines : ℕ) (s : Cursor) → is_nothing s.rest ≡ false
        → Mixed beside_two more s.rest (content style c indent i lines s)
        (content style c indent i lines (longer more s))
    unfolding content chomped_lines is_unfinished
    content_came c i lines s some_left =
        choose (nat_lt s.mark.col i && nat_le indent s.mark.col) (λ _. reports some_left)
        (λ _. loosely (on_known (chomped_lines c i s.mark)
        (between_came style i None lines s.blank_so_far s.mark s.rest)
        (leaves (later_here _) (λ known. rw (first_known more _ (some _ known))))))

    behind_came : (start : Marker) (c : Chomping) (limit : Option ℕ) (x : EmptyLinesRead × Cursor)
        → Mixed beside_two more x.1.rest (behind_leading_lines style indent start c limit x)
        (behind_leading_lines style indent start c limit (x.0, longer more x.1))
    unfolding behind_leading_lines
    behind_came start c limit x =
        choose_first is_z (λ _. leaves (later_here _) (λ _. rw (alone_known c x.0.count x.1)))
        (λ no. content_came c _ x.0.count x.1 (shows is_z false x.1.rest no (λ e. absurd (cc))))

    pub block_came : (s : Cursor)
        → Mixed beside_two more (drop 1 s.rest) (block_scalar style indent s)
        (block_scalar style indent (longer more s))
    unfolding block_scalar behind_header
    block_came s = and_then _ (header_came s) (λ x _. let limit = given_indentation indent x.0.indicator in
        on (behind_leading_lines style indent s.mark x.0.chomping limit)
        (empty_came limit no_lines x.1.blank_so_far x.1.mark x.1.rest) (behind_came s.mark x.0.chomping limit _))
