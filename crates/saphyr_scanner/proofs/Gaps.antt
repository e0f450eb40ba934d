-- What is between two tokens: its comments and spaces, and where it ends. The loops of `gap.rt` take more than a
-- character at once, and their invariant is that the gap from where they are is the gap from where they began. So each
-- lemma says that what a turn takes off doesn't change `end_of_gap`, between tokens and after `?`.
use Rattle.std.proofs.Common.{◌≡◌, ℕ, ◌+◌, ◌≤◌, Bool, true, false, List, [], ◌∷◌, drop, get_or, slice_index, refl, sym, ap, ◌∙◌, arith, nat_eq, zero, suc, Ok}
use Rattle.std.specs.Prelude.{◌==◌, ◌||◌, nat_lt}
use Rattle.std.specs.List.{prefix_len}
use Rattle.std.proofs.lemmas.Bool.{eqb-true}
use Rattle.std.proofs.lemmas.Bool.Decides.{nat_tests}
use Rattle.saphyr_input.specs.Indicators.{number_sign}
use Rattle.saphyr_input.specs.Classes.{is_blank, is_break, is_bom, is_yaml_non_break}
use Rattle.saphyr_input.specs.Separation.{blank_len, found_blanks}
use Rattle.saphyr_input.specs.declared.input.SkipTabs.TheVariants.{Yes}
use Rattle.saphyr_scalar.specs.declared.scalar.position.Marker.{Marker}
use Rattle.saphyr_scalar.specs.Views.Cursor.{Cursor, along, pass_all_blanks, pass_blanks, pass_break, pass_comment, pass_spaces, behind_separation}
use Rattle.saphyr_scanner.specs.Steps.Gap.{Gap, gap_here, is_passed_blank, stop, end_of_gap, end_of_gap_in_comment, behind_comment, gap_at, whole_gap, is_tab_indentation}
use Rattle.saphyr_scalar.proofs.Moving.{along_none, along_more}
use Rattle.saphyr_input.proofs.Basics.Booleans.{either, or_false_left, or_false_right, or_true_swap, and_false}

along-along : (m : Marker) (a b : ℕ) → along (along m a) b ≡ along m (a + b)
along-along m a b = grind arith

pub break_is_no_gap_blank : (tabs : Bool) (c : ℕ) → is_yaml_non_break c ≡ false → is_passed_blank tabs c ≡ false
break_is_no_gap_blank true c e = grind (arith, nat_tests)
break_is_no_gap_blank false c e = grind (arith, nat_tests)

pub gap_blank_is_blank : (tabs : Bool) (c : ℕ) → is_passed_blank tabs c ≡ true → is_blank c ≡ true
gap_blank_is_blank true c e = e
gap_blank_is_blank false c e = rw e refl

no_tab : (c : ℕ) → is_yaml_non_break c ≡ false → nat_eq c 9 ≡ false
no_tab c e = grind (arith, nat_tests)

pub break_is_no_sign : (c : ℕ) → is_yaml_non_break c ≡ false → nat_eq c 35 ≡ false
break_is_no_sign c e = grind (arith, nat_tests)

one_further : (tabs : Bool) (l : ℕ) (m : Marker) (blank met tabbed : Bool) (n c : ℕ) (cs : List ℕ)
    → end_of_gap tabs l (along (along m 1) n) blank met tabbed (drop n cs)
    ≡ end_of_gap tabs l (along m (1 + n)) blank met tabbed (drop (1 + n) (c ∷ cs))
one_further tabs l m blank met tabbed n c cs =
    let one : 1 + n ≡ suc n = omega arith in rw (along-along m 1 n, one) refl

-- after the `#`, the rest of the comment is passed
behind_sign : (tabs : Bool) (l : ℕ) (t : List ℕ) (m : Marker) (blank met tabbed : Bool)
    → end_of_gap_in_comment tabs l m blank met tabbed t
    ≡ end_of_gap tabs l (along m (prefix_len is_yaml_non_break t)) blank met tabbed
    (drop (prefix_len is_yaml_non_break t) t)
behind_sign tabs l [] m blank met tabbed = rw (along_none m) refl
behind_sign tabs l (c ∷ cs) m blank met tabbed =
    by_test (is_yaml_non_break c) refl (behind_sign tabs l cs (along m 1) blank met tabbed)
  where
    by_test : (b : Bool) → is_yaml_non_break c ≡ b
        → end_of_gap_in_comment tabs l (along m 1) blank met tabbed cs
        ≡ end_of_gap tabs l (along (along m 1) (prefix_len is_yaml_non_break cs)) blank met tabbed
        (drop (prefix_len is_yaml_non_break cs) cs)
        → end_of_gap_in_comment tabs l m blank met tabbed (c ∷ cs)
        ≡ end_of_gap tabs l (along m (prefix_len is_yaml_non_break (c ∷ cs))) blank met tabbed
        (drop (prefix_len is_yaml_non_break (c ∷ cs)) (c ∷ cs))
    by_test true e ih = rw e (ih ∙ one_further tabs l m blank met tabbed (prefix_len is_yaml_non_break cs) c cs)
    by_test false e ih =
        let p = break_is_no_gap_blank tabs c e in
        let s = break_is_no_sign c e in
        let t = no_tab c e in
        let none : end_of_gap_in_comment tabs l m blank met tabbed (c ∷ cs)
        ≡ end_of_gap tabs l m blank met tabbed (c ∷ cs) = rw (e, p, s, t) refl in
        let last : end_of_gap tabs l (along m 0) blank met tabbed (c ∷ cs)
        ≡ end_of_gap tabs l (along m (prefix_len is_yaml_non_break (c ∷ cs))) blank met tabbed
        (drop (prefix_len is_yaml_non_break (c ∷ cs)) (c ∷ cs)) = rw e refl in
        none ∙ ap (λ (k : Marker). end_of_gap tabs l k blank met tabbed (c ∷ cs)) (sym (along_none m)) ∙ last

on_comment : (tabs : Bool) (l : ℕ) (met tabbed : Bool) (s : Cursor) → get_or s.rest 0 0 ≡ number_sign
    → gap_at tabs l met tabbed (pass_comment s) ≡ gap_at tabs l met tabbed s
on_comment tabs l met tabbed s h = over tabs s.rest h
  where
    over : (tabs : Bool) (t : List ℕ) → get_or t 0 0 ≡ number_sign
        → end_of_gap tabs l (along s.mark (prefix_len is_yaml_non_break t)) s.blank_so_far met tabbed
        (drop (prefix_len is_yaml_non_break t) t) ≡ end_of_gap tabs l s.mark s.blank_so_far met tabbed t
    over tabs [] e = absurd (cc)
    over true (c ∷ cs) e = rw e (sym (one_further true l s.mark s.blank_so_far met tabbed _ 35 cs)
        ∙ sym (behind_sign true l cs (along s.mark 1) s.blank_so_far met tabbed))
    over false (c ∷ cs) e = rw e (sym (one_further false l s.mark s.blank_so_far met tabbed _ 35 cs)
        ∙ sym (behind_sign false l cs (along s.mark 1) s.blank_so_far met tabbed))

-- the comment that is read is passed
pub comment_passed : (tabs : Bool) (l : ℕ) (met tabbed : Bool) (before read after : Cursor) (all : Gap) (c : ℕ)
    → c ≡ get_or before.rest 0 0 → read ≡ before → after ≡ pass_comment read → c ≡ number_sign
    → gap_at tabs l met tabbed before ≡ all → gap_at tabs l met tabbed after ≡ all
comment_passed tabs l met tabbed before read after all c first same passed sign known =
    rw (passed, same) (on_comment tabs l met tabbed before (sym first ∙ sign) ∙ known)

-- ## Spaces that are passed in one piece

over_spaces : (l : ℕ) (blank broke tabbed : Bool) (m : Marker) (n : ℕ) (t : List ℕ) → n ≤ prefix_len (λ c. c == 32) t
    → end_of_gap true l (along m n) blank broke tabbed (drop n t) ≡ end_of_gap true l m blank broke tabbed t
over_spaces l blank broke tabbed m zero t few = ap (λ k. end_of_gap true l k blank broke tabbed t) (along_none m)
over_spaces l blank broke tabbed m (suc n) [] few = absurd (omega (arith, few))
over_spaces l blank broke tabbed m (suc n) (c ∷ cs) few =
    by_test (c == 32) refl (over_spaces l blank broke tabbed (along m 1) n cs) few
  where
    by_test : (b : Bool) → (c == 32) ≡ b
        → (n ≤ prefix_len (λ d. d == 32) cs
        → end_of_gap true l (along (along m 1) n) blank broke tabbed (drop n cs)
        ≡ end_of_gap true l (along m 1) blank broke tabbed cs)
        → suc n ≤ prefix_len (λ d. d == 32) (c ∷ cs)
        → end_of_gap true l (along m (suc n)) blank broke tabbed (drop n cs)
        ≡ end_of_gap true l m blank broke tabbed (c ∷ cs)
    by_test true e rest less =
        let space : 32 ≡ c = grind (arith, nat_tests) in
        let counted : prefix_len (λ d. d == 32) (c ∷ cs) ≡ 1 + prefix_len (λ d. d == 32) cs = rw e refl in
        ap (λ k. end_of_gap true l k blank broke tabbed (drop n cs)) (sym (along_more m 1 n (suc n) (omega arith)))
        ∙ rest (omega (arith, less, counted)) ∙ ap (λ d. end_of_gap true l m blank broke tabbed (d ∷ cs)) space
    by_test false e rest less =
        let counted : prefix_len (λ d. d == 32) (c ∷ cs) ≡ 0 = rw e refl in
        absurd (omega (arith, less, counted))

-- the spaces that are taken off are passed
pub spaces_passed : (l most : ℕ) (broke tabbed : Bool) (before read after : Cursor) (all : Gap)
    → read ≡ before → after ≡ pass_spaces most read → gap_at true l broke tabbed before ≡ all
    → gap_at true l broke tabbed after ≡ all
spaces_passed l most broke tabbed before read after all same passed known = grind (arith, over_spaces)

-- ## Breaks, and tabs with the blanks after them, that are passed

-- A tab is in the indentation only if all before it on its line are.
settled : (l : ℕ) (m : Marker) (blank tabbed : Bool) (c : ℕ) → (tabbed ≡ false → blank ≡ true → l ≤ m.col)
    → (is_tab_indentation l m blank c || tabbed) ≡ tabbed
settled l m blank true c known = or_true_swap true (is_tab_indentation l m blank c) refl
settled l m false false c known = rw (and_false (c == 9)) refl
settled l m true false c known = let far : l ≤ m.col = known refl refl in grind (arith, nat_tests)

-- so blanks behind a tab are passed
over_blanks : (l : ℕ) (blank broke tabbed : Bool) (m : Marker) (t : List ℕ)
    → (tabbed ≡ false → blank ≡ true → l ≤ m.col)
    → end_of_gap true l (along m (prefix_len is_blank t)) blank broke tabbed (drop (prefix_len is_blank t) t)
    ≡ end_of_gap true l m blank broke tabbed t
over_blanks l blank broke tabbed m [] known = rw (along_none m) refl
over_blanks l blank broke tabbed m (c ∷ cs) known =
    by_test (is_blank c) refl
    (over_blanks l blank broke tabbed (along m 1) cs
    (λ e f. let far : l ≤ m.col = known e f in omega (arith, far)))
  where
    by_test : (b : Bool) → is_blank c ≡ b
        → end_of_gap true l (along (along m 1) (prefix_len is_blank cs)) blank broke tabbed
        (drop (prefix_len is_blank cs) cs) ≡ end_of_gap true l (along m 1) blank broke tabbed cs
        → end_of_gap true l (along m (prefix_len is_blank (c ∷ cs))) blank broke tabbed
        (drop (prefix_len is_blank (c ∷ cs)) (c ∷ cs)) ≡ end_of_gap true l m blank broke tabbed (c ∷ cs)
    by_test true e rest =
        rw (e, settled l m blank tabbed c known)
        (sym (one_further true l m blank broke tabbed (prefix_len is_blank cs) c cs) ∙ rest)
    by_test false e rest =
        let none : prefix_len is_blank (c ∷ cs) ≡ 0 = rw e refl in
        ap (λ n. end_of_gap true l (along m n) blank broke tabbed (drop n (c ∷ cs))) none
        ∙ ap (λ (k : Marker). end_of_gap true l k blank broke tabbed (c ∷ cs)) (along_none m)

behind_tab : (l : ℕ) (blank broke tabbed now : Bool) (m : Marker) (t : List ℕ) → slice_index t 0 ≡ 9
    → now ≡ (is_tab_indentation l m blank 9 || tabbed)
    → end_of_gap true l (along m (prefix_len is_blank t)) blank broke now (drop (prefix_len is_blank t) t)
    ≡ end_of_gap true l m blank broke tabbed t
behind_tab l blank broke tabbed now m [] e given = absurd (cc)
behind_tab l blank broke tabbed now m (c ∷ cs) e given =
    rw (e, given) (sym (one_further true l m blank broke _ (prefix_len is_blank cs) 9 cs)
    ∙ over_blanks l blank broke _ (along m 1) cs (further (nat_lt m.col l) refl))
  where
    further : (b : Bool) → nat_lt m.col l ≡ b → (is_tab_indentation l m blank 9 || tabbed) ≡ false → blank ≡ true
        → l ≤ m.col + 1
    further b e none still = grind (arith, nat_tests)

-- the tab that is taken off, with the blanks after it, is passed
pub tab_passed : (l : ℕ) (broke tabbed now : Bool) (before read after : Cursor) (all : Gap) (c : ℕ)
    → c ≡ slice_index before.rest 0 → read ≡ before
    → now ≡ (is_tab_indentation l read.mark read.blank_so_far c || tabbed) → after ≡ pass_all_blanks read → c ≡ 9
    → gap_at true l broke tabbed before ≡ all → gap_at true l broke now after ≡ all
tab_passed l broke tabbed now before read after all c first same given passed tab known = grind (arith, behind_tab)

-- no break is a blank
pub passes_no_feed : (tabs : Bool) → is_passed_blank tabs 10 ≡ false
passes_no_feed true = refl
passes_no_feed false = refl

pub passes_no_return : (tabs : Bool) → is_passed_blank tabs 13 ≡ false
passes_no_return true = refl
passes_no_return false = refl

over_break : (tabs : Bool) (l : ℕ) (blank met tabbed : Bool) (m : Marker) (t : List ℕ)
    → is_break (slice_index t 0) ≡ true
    → gap_at tabs l true false (pass_break (record { rest = t; mark = m; blank_so_far = blank }))
    ≡ end_of_gap tabs l m blank met tabbed t
over_break tabs l blank met tabbed m [] e = absurd (cc)
over_break tabs l blank met tabbed m (c ∷ cs) e =
    either (c == 10) (c == 13) _ e (λ f. feed c (eqb-true c 10 f)) (λ r. return c (eqb-true c 13 r))
  where
    feed : (d : ℕ) → d ≡ 10
        → gap_at tabs l true false (pass_break (record { rest = d ∷ cs; mark = m; blank_so_far = blank }))
        ≡ end_of_gap tabs l m blank met tabbed (d ∷ cs)
    feed d f = rw (f, passes_no_feed tabs) refl

    alone : (xs : List ℕ) (b : Bool) → (slice_index xs 0 == 10) ≡ b
        → gap_at tabs l true false (pass_break (record { rest = 13 ∷ xs; mark = m; blank_so_far = blank }))
        ≡ end_of_gap tabs l m blank met tabbed (13 ∷ xs)
    alone xs false n = rw (n, passes_no_return tabs) refl
    alone [] true n = absurd (cc)
    alone (x ∷ xs) true n = let two : m.index + 2 ≡ m.index + 1 + 1 = omega arith in
        rw (eqb-true x 10 n, passes_no_return tabs, passes_no_feed tabs, two) refl

    return : (d : ℕ) → d ≡ 13
        → gap_at tabs l true false (pass_break (record { rest = d ∷ cs; mark = m; blank_so_far = blank }))
        ≡ end_of_gap tabs l m blank met tabbed (d ∷ cs)
    return d r = rw r (alone cs (slice_index cs 0 == 10) refl)

-- the break that is taken off is passed
pub break_passed : (tabs : Bool) (l : ℕ) (met tabbed : Bool) (before read after : Cursor) (all : Gap) (c : ℕ)
    → c ≡ slice_index before.rest 0 → read ≡ before → after ≡ pass_break read → is_break c ≡ true
    → gap_at tabs l met tabbed before ≡ all → gap_at tabs l true false after ≡ all
break_passed tabs l met tabbed before read after all c first same passed breaks known =
    rw (passed, same)
    (over_break tabs l before.blank_so_far met tabbed before.mark before.rest (ap is_break (sym first) ∙ breaks)
    ∙ known)

-- a comment is passed with the break behind it
pub comment_line_passed : (l : ℕ) (broke tabbed fed : Bool) (before read after : Cursor) (all : Gap) (c : ℕ)
    → c ≡ get_or before.rest 0 0 → read ≡ before → after ≡ behind_comment fed read
    → (fed ≡ true → is_break (slice_index (pass_comment read).rest 0) ≡ true) → fed ≡ true → c ≡ number_sign
    → gap_at true l broke tabbed before ≡ all → gap_at true l true false after ≡ all
comment_line_passed l broke tabbed true before read after all c first same passed ends feeds sign known =
    break_passed true l broke tabbed (pass_comment read) (pass_comment read) after all _ refl refl passed (ends refl)
    (comment_passed true l broke tabbed before read (pass_comment read) all c first same refl sign known)
comment_line_passed l broke tabbed false before read after all c first same passed ends feeds sign known =
    absurd (cc)

-- after `?`, where no tab is passed
over_line_space : (m : Marker) (blank met : Bool) (t : List ℕ) → slice_index t 0 ≡ 32
    → end_of_gap false 0 (along m 1) blank true false (drop 1 t) ≡ end_of_gap false 0 m blank met false t
over_line_space m blank met [] e = absurd (cc)
over_line_space m blank met (c ∷ cs) e = rw e refl

pub line_space_passed : (met : Bool) (before read after : Cursor) (all : Gap) (c : ℕ)
    → c ≡ slice_index before.rest 0 → read ≡ before → after ≡ pass_blanks 1 read → c ≡ 32
    → gap_at false 0 met false before ≡ all → gap_at false 0 true false after ≡ all
line_space_passed met before read after all c first same passed blank known =
    rw (passed, same) (over_line_space before.mark before.blank_so_far met before.rest (sym first ∙ blank) ∙ known)

-- ## Where it ends

gap_of_nothing : (least : ℕ) (m : Marker) (blank : Bool) (text : List ℕ) → is_blank (slice_index text 0) ≡ false
    → is_break (slice_index text 0) ≡ false → (slice_index text 0 == number_sign) ≡ false
    → end_of_gap true least m blank false false text ≡ gap_here m blank false false text
gap_of_nothing least m blank [] a b e = refl
gap_of_nothing least m blank (c ∷ cs) a b e =
    let return : (c == 13) ≡ false = or_false_right (c == 10) (c == 13) b in
    let feed : (c == 10) ≡ false = or_false_left (c == 10) (c == 13) b in
    rw (a, return, feed, e) refl

-- a gap that stops where no tab is in the indentation
pub stop_here : (m : Marker) (blank now : Bool) (t : List ℕ)
    → stop (gap_here m blank now false t)
    ≡ Ok (record { cursor = record { rest = t; mark = m; blank_so_far = blank }; broke = now })
unfolding stop
stop_here m blank now t = refl

-- where a token is right here, nothing is passed
pub nothing_passed : (least : ℕ) (s t : Cursor) (c : ℕ) → c ≡ slice_index s.rest 0 → t ≡ s → is_blank c ≡ false
    → is_break c ≡ false → (c == number_sign) ≡ false → whole_gap least s ≡ Ok (record { cursor = t; broke = false })
nothing_passed least s t c e same a b d =
    ap stop (gap_of_nothing least s.mark s.blank_so_far s.rest (rw (sym e) a) (rw (sym e) b) (rw (sym e) d))
    ∙ stop_here s.mark s.blank_so_far false s.rest
    ∙ ap (λ (u : Cursor). Ok (record { cursor = u; broke = false })) (sym same)

-- after blanks is neither a comment nor a byte order mark
pub separated : (text : List ℕ) (t : Cursor) → (slice_index text 0 == number_sign) ≡ false
    → is_bom (slice_index t.rest 0) ≡ false → behind_separation Yes text t ≡ Ok (found_blanks Yes text, t)
unfolding behind_separation
separated text t sign mark = rw (mark, sign, and_false (nat_lt 0 t.mark.col), and_false (blank_len Yes text == 0)) refl
