-- Directives are read alike.
use Rattle.std.proofs.Common.{ℕ, suc, ◌+◌, ◌-◌, ◌*◌, false, List, [], length, refl, encode_utf8, codes}
use Rattle.scalar_laws.proofs.Common.{◌||◌, ◌==◌, nat_lt, bytes_eq, prefix_len, is_blank, is_breakz, is_blank_or_breakz, is_digit, is_alpha, is_tag_char, is_yaml_non_space, Marker, Cursor, along, pass_all_blanks, AreAlike, AreSame, AreDirectivesAlike}
use Rattle.saphyr_input.specs.declared.input.SkipTabs.TheVariants as skip
use Rattle.saphyr_scalar.specs.Steps.Directive.{directive_name_of, name, number_end, number_from, number, behind_major, version_directive, handle_behind_word, handle, prefix, behind_prefix, tag_directive, value, line_end, directive}
use Rattle.scalar_laws.proofs.Breaks.Sides.{Normal, nothing, character, feed, return, pair, run_same, Places, moved_along, marks_alike, alike, normal_of, places_of, NoBreak, no_break_in, part_of, passed_blanks, one_passed}
use Rattle.scalar_laws.proofs.Breaks.Results.{Both, gives, refused, choose, choose_first, choose_in, and_then, with_same, and_same}
use Rattle.scalar_laws.proofs.Breaks.Separations.{break_alike, comment_alike, separation_alike}
use Rattle.scalar_laws.proofs.Breaks.Names.{run_alike, character_alike, front_alike, decoded_alike}

blanks_alike : {text : List ℕ} {s t : Cursor} → AreAlike text s t
    → AreAlike text (pass_all_blanks s) (pass_all_blanks t)
blanks_alike {s = s} {t = t} e = passed_blanks (prefix_len is_blank s.rest) (prefix_len is_blank t.rest)
    (part_of (run_same is_blank refl refl (normal_of e))) e

name_alike : {text : List ℕ} {s t : Cursor} → AreAlike text s t → Both (AreSame text) (name s) (name t)
unfolding name directive_name_of
name_alike {s = s} {t = t} e =
    with_same (directive_name_of s.mark) (directive_name_of t.mark) (run_alike is_yaml_non_space refl refl [] e)
    (λ word u v is. choose (length word == 0) (λ _. refused)
    (λ _. choose_first is_blank_or_breakz refl is (λ _. gives (refl, is)) (λ _. refused)))

module _ {text : List ℕ} (a b : Marker) where
  -- ## Versions

  number_end_alike : (k v : ℕ) (s t : Cursor) → AreAlike text s t
      → Both (AreSame text) (number_end a k v s) (number_end b k v t)
  unfolding number_end
  number_end_alike k v s t e = choose (k == 0) (λ _. refused) (λ _. gives (refl, e))

  number_by : (k v : ℕ) (m n : Marker) {r q : List ℕ} → Normal r q → Places text r q m n
      → Both (AreSame text) (number_from a k v m r) (number_from b k v n q)
  unfolding number_from
  number_by k v m n nothing p = number_end_alike k v _ _ (alike false false refl nothing p)
  number_by k v m n (character c h x) p = choose (is_digit c) (λ _. choose (nat_lt k 9)
      (λ _. number_by (suc k) (v * 10 + (c - 48)) (along m 1) (along n 1) x (moved_along 1 1 refl p)) (λ _. refused))
      (λ _. number_end_alike k v _ _ (alike false false refl (character c h x) p))
  number_by k v m n (feed x) p = number_end_alike k v _ _ (alike false false refl (feed x) p)
  number_by k v m n (return h x) p = number_end_alike k v _ _ (alike false false refl (return h x) p)
  number_by k v m n (pair x) p = number_end_alike k v _ _ (alike false false refl (pair x) p)

  number_alike : (s t : Cursor) → AreAlike text s t → Both (AreSame text) (number a s) (number b t)
  number_alike s t e = number_by 0 0 s.mark t.mark (normal_of e) (places_of e)

  version_alike : (s t : Cursor) → AreAlike text s t
      → Both (AreSame text) (version_directive a s) (version_directive b t)
  unfolding version_directive behind_major
  version_alike s t e = and_same _ _ (number_alike _ _ (blanks_alike e)) (λ major u v is.
      choose_in (λ c. c == 46) refl refl is
      (λ _ on. and_same _ _ (number_alike _ _ on) (λ minor x y at. gives (refl, at))) refused)

  -- ## Handles and prefixes

  handle_alike : (s t : Cursor) → AreAlike text s t → Both (AreSame text) (handle a s) (handle b t)
  unfolding handle handle_behind_word
  handle_alike s t e = choose_in (λ c. c == 33) refl refl e (λ _ on.
      with_same (handle_behind_word a) (handle_behind_word b) (run_alike is_alpha refl refl [] on) (λ word u v is.
      choose_in (λ c. c == 33) refl refl is (λ _ at. gives (refl, at))
      (choose (length word == 0) (λ _. gives (refl, is)) (λ _. refused)))) refused

  prefix_alike : (s t : Cursor) → AreAlike text s t → Both (AreSame text) (prefix a s) (prefix b t)
  unfolding prefix
  prefix_alike s t e = let p = λ (c : ℕ). (c == 33) || is_tag_char c in choose_first p refl e
      (λ h. and_same _ _ (character_alike a b s t (no_break_in p refl refl s.rest h) e)
      (λ c u v is. front_alike (encode_utf8 c) (decoded_alike text _ a b u v is))) (λ _. refused)

  tag_alike : (s t : Cursor) → AreAlike text s t → Both (AreSame text) (tag_directive a s) (tag_directive b t)
  unfolding tag_directive behind_prefix
  tag_alike s t e = and_same _ _ (handle_alike _ _ (blanks_alike e)) (λ word u v is.
      and_same _ _ (prefix_alike _ _ (blanks_alike is)) (λ x y z at.
      choose_first is_blank_or_breakz refl at (λ _. gives (refl, at)) (λ _. refused)))

  -- ## Directives

  value_alike : (x : List ℕ) (s t : Cursor) → AreAlike text s t
      → Both (AreSame text) (value a (x, s)) (value b (x, t))
  unfolding value
  value_alike x s t e = choose (bytes_eq x (codes "YAML")) (λ _. version_alike s t e)
      (λ _. choose (bytes_eq x (codes "TAG")) (λ _. tag_alike s t e) (λ _. gives (refl, comment_alike e)))

  line_alike : (s t : Cursor) → AreAlike text s t → Both (AreAlike text) (line_end a s) (line_end b t)
  unfolding line_end
  line_alike s t e = and_same _ _ (separation_alike skip.Yes e) (λ _ u v is.
      choose_first is_breakz refl is (λ _. gives (break_alike is)) (λ _. refused))

pub directive_alike : {text : List ℕ} {s t : Cursor} → NoBreak s.rest → AreAlike text s t
    → Both (AreDirectivesAlike text) (directive s) (directive t)
unfolding directive
directive_alike {s = s} {t = t} h e = and_same _ _ (name_alike (one_passed h e)) (λ word u v is.
    and_same _ _ (value_alike s.mark t.mark word u v is) (λ says x y at.
    and_then (line_alike s.mark t.mark x y at) (λ w z on. gives (refl, marks_alike at, on))))
