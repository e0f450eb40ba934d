-- Directives.
use Rattle.std.proofs.Common.{ℕ, suc, ◌+◌, ◌-◌, ◌*◌, false, List, [], ◌∷◌, ◌++◌, length, drop, Ok, refl, encode_utf8, codes}
use Rattle.saphyr_scalar.proofs.Common.{◌||◌, ◌==◌, nat_lt, bytes_eq, is_blank, is_breakz, is_blank_or_breakz, is_digit, is_alpha, is_tag_char, is_yaml_non_space, is_yaml_non_break, Marker, Cursor, along, pass}
use Rattle.saphyr_scalar.specs.Steps.Quoted.{mid_line, with_run}
use Rattle.saphyr_scalar.specs.Steps.Tag.{handle_of}
use Rattle.saphyr_scalar.specs.Steps.Directive.{directive_name_of, name, number_end, number_from, number, behind_major, version_directive, handle_behind_word, handle, prefix, behind_prefix, tag_directive, value, line_end, directive}
use Rattle.saphyr_scalar.specs.Spelling.Directive.{reserved}
use Rattle.saphyr_scalar.specs.Known.{longer}
use Rattle.saphyr_scalar.proofs.WhatCame.Rests.{shows}
use Rattle.saphyr_scalar.proofs.WhatCame.Steps.{Sure, reader, beside, beside_two, missing_refused, reports, stays, past, ended, choose, choose_first, and_then, on}
use Rattle.saphyr_scalar.proofs.WhatCame.Runs.{taken, passed, run_passed, run_came, break_came, separation_came}
use Rattle.saphyr_scalar.proofs.WhatCame.Names.{uri_came, front_came, decoded_came}

module _ (more : List ℕ) where
  name_came : (s : Cursor) → Sure beside more s.rest (name s) (name (longer more s))
  unfolding name directive_name_of
  name_came s = on (directive_name_of s.mark) (run_came more is_yaml_non_space [] s)
      (choose (length (with_run is_yaml_non_space [] s).0 == 0)
      (λ _. missing_refused 0 (with_run is_yaml_non_space [] s).1.rest (λ left. left))
      (λ _. choose_first is_blank_or_breakz (λ _. stays)
      (λ no. reports (shows is_blank_or_breakz false (with_run is_yaml_non_space [] s).1.rest no (λ e. absurd (cc))))))

  -- what a directive says is read from a place on
  module _ (start : Marker) where
    number_end_came : (n v : ℕ) (s : Cursor)
        → Sure beside more s.rest (number_end start n v s) (number_end start n v (longer more s))
    unfolding number_end
    number_end_came n v s = choose (n == 0) (λ _. missing_refused 0 s.rest (λ left. left)) (λ _. stays)

    number_came : (n v : ℕ) (m : Marker) (r : List ℕ)
        → Sure beside more r (number_from start n v m r) (number_from start n v m (r ++ more))
    unfolding number_from
    number_came n v m [] = ended (number_end_came n v (mid_line m []))
    number_came n v m (c ∷ cs) = choose (is_digit c) (λ _. choose (nat_lt n 9)
        (λ _. past c (number_came (suc n) (v * 10 + (c - 48)) (along m 1) cs))
        (λ _. reports refl)) (λ _. number_end_came n v (mid_line m (c ∷ cs)))

    version_came : (s : Cursor)
        → Sure beside more s.rest (version_directive start s) (version_directive start (longer more s))
    unfolding version_directive behind_major
    version_came s = and_then _ (on (number start) (run_passed more is_blank s) (number_came 0 0 _ _))
        (λ x _. choose_first (λ c. c == 46)
        (λ _. and_then _ (on (number start) (passed more 1 x.1) (number_came 0 0 _ _)) (λ y _. stays))
        (λ _. missing_refused 0 x.1.rest (λ left. left)))

    handle_came : (s : Cursor) → Sure beside more s.rest (handle start s) (handle start (longer more s))
    unfolding handle handle_behind_word
    handle_came s = choose_first (λ c. c == 33)
        (λ _. on (λ t. handle_behind_word start (with_run is_alpha [] t)) (passed more 1 s)
        (on (handle_behind_word start) (run_came more is_alpha [] (pass 1 s)) (by (with_run is_alpha [] (pass 1 s)))))
        (λ _. missing_refused 0 s.rest (λ left. left))
      where
        by : (w : List ℕ × Cursor)
            → Sure beside more w.1.rest (handle_behind_word start w) (handle_behind_word start (w.0, longer more w.1))
        by w = choose_first (λ c. c == 33) (λ _. on (λ t. Ok (handle_of w.0, t)) (passed more 1 w.1) stays)
            (λ _. choose (length w.0 == 0) (λ _. stays) (λ _. missing_refused 0 w.1.rest (λ left. left)))

    prefix_came : (s : Cursor) → Sure beside more s.rest (prefix start s) (prefix start (longer more s))
    unfolding prefix
    prefix_came s = choose_first (λ c. (c == 33) || is_tag_char c) (λ _. and_then _ (uri_came more start s)
        (λ x _. front_came more start (encode_utf8 x.0) _ _ _ (decoded_came more start _ x.1)))
        (λ _. missing_refused 0 s.rest (λ left. left))

    tag_directive_came : (s : Cursor)
        → Sure beside more s.rest (tag_directive start s) (tag_directive start (longer more s))
    unfolding tag_directive behind_prefix
    tag_directive_came s = and_then _ (on (handle start) (run_passed more is_blank s) (handle_came _))
        (λ h _. and_then _ (on (prefix start) (run_passed more is_blank h.1) (prefix_came _))
        (λ x _. choose_first is_blank_or_breakz (λ _. stays)
        (λ no. reports (shows is_blank_or_breakz false x.1.rest no (λ e. absurd (cc))))))

    value_came : (x : List ℕ × Cursor) → Sure beside more x.1.rest (value start x) (value start (x.0, longer more x.1))
    unfolding value
    value_came x = choose (bytes_eq x.0 (codes "YAML")) (λ _. version_came x.1)
        (λ _. choose (bytes_eq x.0 (codes "TAG")) (λ _. tag_directive_came x.1)
        (λ _. on (λ t. Ok (reserved x.0, t)) (run_passed more is_yaml_non_break x.1) stays))

    line_end_came : (s : Cursor) → Sure reader more s.rest (line_end start s) (line_end start (longer more s))
    unfolding line_end
    line_end_came s = and_then _ (separation_came more _ s) (λ x _. choose_first is_breakz (λ _. break_came more x.1)
        (λ no. reports (shows is_breakz false x.1.rest no (λ e. absurd (cc)))))

  pub directive_came : (s : Cursor) → Sure beside_two more (drop 1 s.rest) (directive s) (directive (longer more s))
  unfolding directive
  directive_came s = and_then _ (on name (taken more 1 s) (name_came (pass 1 s)))
      (λ x _. and_then _ (value_came s.mark x)
      (λ d _. and_then _ (line_end_came s.mark d.1) (λ t _. stays)))
