-- White space, comments, breaks and byte order marks are passed alike.
use Rattle.scalar_laws.proofs.Common.{◌≡◌, ℕ, Bool, true, false, List, drop, slice_index, refl, sym, ap, ◌∙◌, arith, ◌&&◌, ◌==◌, nat_lt, is_break, is_bom, is_blank_or_breakz, is_blank, is_yaml_non_break, space, next_3_are, is_document_indicator, is_skipped, blank_len, comment_len, is_bare_comment, separation_len, found_blanks, line_cursor, Marker, both_by, AreAlike, AreSame, no_return}
use Rattle.saphyr_input.specs.declared.input.SkipTabs.{SkipTabs}
use Rattle.saphyr_input.specs.declared.input.SkipTabs.TheVariants as skip
use Rattle.saphyr_scalar.specs.Views.Cursor.{Cursor, pass_break, pass_comment, pass_byte_order_mark, separation, behind_separation}
use Rattle.scalar_laws.proofs.Breaks.Sides.{Normal, nothing, character, feed, return, pair, no_feed, first_in, past_first, behind_first, Run, run_same, Places, places_moved, moved_down, alike, normal_of, places_of, PartsAlike, no_part, part_of, both_parts, passed_blanks}
use Rattle.scalar_laws.proofs.Breaks.Results.{Both, gives, refused, choose_same}

-- ## Document markers

abbrev ends_marker : List ℕ → Bool
ends_marker r = is_blank_or_breakz (slice_index r 0)

abbrev mark_first : ℕ → (List ℕ → Bool) → List ℕ → Bool
mark_first c others r = (slice_index r 0 == c) && others (drop 1 r)

marker_is : (c : ℕ) (r : List ℕ) → (next_3_are r c c c && is_blank_or_breakz (slice_index r 3)) ≡ mark_first c
    (mark_first c (mark_first c ends_marker)) r
marker_is c r = grind arith

first_more : (c : ℕ) → (13 == c) ≡ false → (10 == c) ≡ false → (others : List ℕ → Bool)
    → ((r q : List ℕ) → Normal r q → others r ≡ others q)
    → (r q : List ℕ) → Normal r q → mark_first c others r ≡ mark_first c others q
first_more c a b others alike r q n = behind_first (λ x. x == c) a b others alike n

pub marker_alike : (c : ℕ) → (13 == c) ≡ false → (10 == c) ≡ false → {r q : List ℕ} → Normal r q
    → (next_3_are r c c c && is_blank_or_breakz (slice_index r 3)) ≡ (next_3_are q c c c && is_blank_or_breakz
    (slice_index q 3))
marker_alike c a b {r = r} {q = q} n =
    let third = first_more c a b ends_marker (λ r q n. first_in is_blank_or_breakz refl n) in
    let second = first_more c a b (mark_first c ends_marker) third in
    marker_is c r ∙ first_more c a b (mark_first c (mark_first c ends_marker)) second r q n ∙ sym (marker_is c q)

pub indicator_alike : {r q : List ℕ} → Normal r q → is_document_indicator r ≡ is_document_indicator q
indicator_alike n = rw (marker_alike 45 refl refl n, marker_alike 46 refl refl n) refl

-- ## Breaks, comments and byte order marks

break_at : {text r q : List ℕ} (a b : Bool) (m n : Marker) → a ≡ b → Normal r q → Places text r q m n
    → AreAlike text (pass_break (line_cursor a m r)) (pass_break (line_cursor b n q))
break_at a b m n e nothing p = alike a b e nothing p
break_at a b m n e (character c h x) p = rw (no_return c h, no_feed c h) (alike a b e (character c h x) p)
break_at a b m n e (feed x) p = alike true true refl x (moved_down 1 1 p)
break_at a b m n e (return h x) p = rw h (alike true true refl x (moved_down 1 1 p))
break_at a b m n e (pair x) p = alike true true refl x (moved_down 2 1 p)

pub break_alike : {text : List ℕ} {s t : Cursor} → AreAlike text s t → AreAlike text (pass_break s) (pass_break t)
break_alike {s = s} {t = t} e = break_at s.blank_so_far t.blank_so_far s.mark t.mark e.blank (normal_of e) (places_of e)

pub comment_alike : {text : List ℕ} {s t : Cursor} → AreAlike text s t → AreAlike text (pass_comment s) (pass_comment t)
comment_alike {s = s} {t = t} e = search (passed_blanks, part_of, run_same, normal_of)

pub mark_alike : {text : List ℕ} {s t : Cursor} → is_break (slice_index s.rest 0) ≡ false → AreAlike text s t
    → AreAlike text (pass_byte_order_mark s) (pass_byte_order_mark t)
mark_alike {s = s} {t = t} h e = alike s.blank_so_far t.blank_so_far e.blank (past_first h (normal_of e))
    (places_moved 1 1 _ _ (places_of e) refl refl e.line e.col)

-- ## White space and a comment

blanks_run : (tabs : SkipTabs) {r q : List ℕ} → Normal r q → Run (is_skipped tabs) r q
blanks_run skip.Yes n = run_same is_blank refl refl n
blanks_run skip.No n = run_same (λ c. c == space) refl refl n
blanks_run (skip.Result a b) n = run_same (λ c. c == space) refl refl n

comment_part : {r q : List ℕ} → Normal r q → PartsAlike (comment_len r) (comment_len q) r q
comment_part {r = r} {q = q} n =
    both_by (slice_index r 0 == 35) (slice_index q 0 == 35) _ _ _ _ (λ a b. PartsAlike a b r q)
    (first_in (λ c. c == 35) refl n) (λ _ _. part_of (run_same is_yaml_non_break refl refl n)) (λ _ _. no_part n)

separation_part : (tabs : SkipTabs) {r q : List ℕ} → Normal r q
    → PartsAlike (separation_len tabs r) (separation_len tabs q) r q
separation_part tabs {r = r} {q = q} n =
    let x = blanks_run tabs n in
    both_by (blank_len tabs r == 0) (blank_len tabs q == 0) _ _ _ _ (λ a b. PartsAlike a b r q) (ap (λ k. k == 0) x.len)
    (λ _ _. no_part n)
    (λ _ _. both_parts (blank_len tabs r) (blank_len tabs q) _ _ r q (part_of x) (comment_part x.left))

behind_alike : (tabs : SkipTabs) {text r q : List ℕ} {s t : Cursor} → Normal r q → AreAlike text s t
    → Both (AreSame text) (behind_separation tabs r s) (behind_separation tabs q t)
unfolding behind_separation
behind_alike tabs {r = r} {q = q} {s = s} {t = t} n e = let first = first_in is_bom refl (normal_of e) in
    choose_same (nat_lt 0 s.mark.col && is_bom (slice_index s.rest 0)) (nat_lt 0 t.mark.col && is_bom
    (slice_index t.rest 0)) (rw (e.col, first) refl) (λ _. refused) (λ _. choose_same (is_bare_comment tabs r)
    (is_bare_comment tabs q) (rw ((blanks_run tabs n).len, first_in (λ c. c == 35) refl n) refl) (λ _. refused) (λ _.
    gives ((let x = blanks_run tabs n in cc), e)))

pub separation_alike : (tabs : SkipTabs) {text : List ℕ} {s t : Cursor} → AreAlike text s t
    → Both (AreSame text) (separation tabs s) (separation tabs t)
unfolding separation
separation_alike tabs {s = s} {t = t} e = search (behind_alike, normal_of, passed_blanks, separation_part)
