-- Lines that have no token are passed, and the next token is the same, whatever comes.
use Rattle.std.proofs.Common.{◌≡◌, ℕ, zero, suc, ◌-◌, ◌^◌, ◌<◌, ◌≤◌, nat_le, Bool, true, false, List, [], ◌∷◌, ◌++◌, drop, slice_index, None, refl, sym, ap, subst, ◌∙◌, arith}
use Rattle.std.specs.Prelude.{◌||◌, ◌==◌, min, if◌then◌else◌}
use Rattle.std.specs.List.{prefix_len}
use Rattle.std.proofs.lemmas.Bool.{cond-false, cond-true, eqb-true}
use Rattle.std.proofs.lemmas.Bool.Decides.{nat_tests}
use Rattle.std.proofs.lemmas.List.Folds.{prefix_len-append}
use Rattle.saphyr_input.specs.Classes.{is_blank, is_break, is_yaml_non_break}
use Rattle.saphyr_scalar.specs.Known.{longer}
use Rattle.saphyr_scalar.specs.Views.Cursor.{Cursor, ◌>>=◌, pass_all_blanks, pass_blanks, pass_break, pass_comment, pass_spaces}
use Rattle.saphyr_scalar.proofs.WhatCame.Rests.{is_nothing, drop_known, run_known}
use Rattle.saphyr_scanner.specs.Longer.{extended_by}
use Rattle.saphyr_scanner.specs.Steps.Core.{Core, in_block, least_column}
use Rattle.saphyr_scanner.specs.Steps.Fetch.{arrive, check_limit, fetch, fetch_within, has_no_candidate, needs_token, size, without_far_key}
use Rattle.saphyr_scanner.specs.Steps.Gap.{Gap, gap_at, is_tab_indentation, stop}
use Rattle.saphyr_scanner.specs.Steps.Passing.{behind_gap, check_comment, pass_gap}
use Rattle.saphyr_scanner.specs.Steps.Remaining.{remaining, remaining_after, run}
use Rattle.saphyr_scanner.specs.Steps.State.{State, with_core, with_rest}
use Rattle.saphyr_scanner.specs.Views.Ahead.{fetched}
use Rattle.saphyr_scanner.specs.Views.Lines.{PassesOn, behind_line_comment, behind_tab, behind_line_text, is_whole_break, placed}
use Rattle.saphyr_scanner.specs.Views.Scanning.{Scanning, is_growing, tokens_in, tokens_over}
use Rattle.saphyr_scanner.proofs.Effects.Readers.{Readers}
use Rattle.saphyr_scanner.proofs.Ahead.Feeds.{behind_break, kept}
use Rattle.saphyr_scanner.proofs.Handing.Filling.{going, no_key_settles, read, smaller_read}
use Rattle.saphyr_scanner.proofs.Gaps.{break_passed, comment_passed, spaces_passed, tab_passed}
use Rattle.saphyr_scanner.proofs.Handing.Grown.{no_key, text_grows}
use Rattle.saphyr_scanner.proofs.Handing.Unroll.{behind, enough, hand_nothing, remaining_after_so, remaining_is, rest}

-- ## Over a longer text

prefix_grows : (p : ℕ → Bool) (r more : List ℕ) → prefix_len p r ≤ prefix_len p (r ++ more)
prefix_grows p r more = grind (arith, prefix_len-append)

least_same : (most n m : ℕ) (t : List ℕ) → n ≤ m → (is_nothing (drop n t) ≡ false → m ≡ n)
    → is_nothing (drop (min most n) t) ≡ false → min most m ≡ min most n
least_same most n m t few same known = by (nat_le n most) refl
  where
    by : (b : Bool) → nat_le n most ≡ b → min most m ≡ min most n
    by true e =
        let short : n ≤ most = grind (arith, nat_tests) in
        let all : min most n ≡ n = omega (arith, short) in
        ap (min most) (same (rw all at known))
    by false e = let long : most < n = grind (arith, nat_tests) in omega (arith, long, few)

spaced_longer : (more : List ℕ) (s : Cursor) → is_nothing (pass_spaces (2 ^ 64 - 1) s).rest ≡ false
    → pass_spaces (2 ^ 64 - 1) (longer more s) ≡ longer more (pass_spaces (2 ^ 64 - 1) s)
spaced_longer more s known =
    let p = λ (c : ℕ). c == 32 in
    let n = prefix_len p s.rest in
    let same = least_same (2 ^ 64 - 1) n (prefix_len p (s.rest ++ more)) s.rest (prefix_grows p s.rest more)
    (run_known more p s.rest) known in
    rw (same, drop_known more (min (2 ^ 64 - 1) n) s.rest known) refl

-- what a test passes
run_longer : (more : List ℕ) (p : ℕ → Bool) (s : Cursor) → is_nothing (drop (prefix_len p s.rest) s.rest) ≡ false
    → pass_blanks (prefix_len p (s.rest ++ more)) (longer more s) ≡ longer more (pass_blanks (prefix_len p s.rest) s)
run_longer more p s known =
    rw (run_known more p s.rest known, drop_known more (prefix_len p s.rest) s.rest known) refl

-- something is left before something that is left
left_before : (n : ℕ) (r : List ℕ) → is_nothing (drop n r) ≡ false → is_nothing r ≡ false
left_before zero [] known = absurd (cc)
left_before (suc n) [] known = absurd (cc)
left_before n (c ∷ r) known = refl

first_longer : (r more : List ℕ) → is_nothing r ≡ false → slice_index (r ++ more) 0 ≡ slice_index r 0
first_longer [] more known = absurd (cc)
first_longer (c ∷ r) more known = refl

-- what a test passes, where a sign is there
abbrev told : ℕ → (ℕ → Bool) → Cursor → Cursor
told sign p s = if slice_index s.rest 0 == sign then pass_blanks (prefix_len p s.rest) s else s

told_longer : (more : List ℕ) (sign : ℕ) (p : ℕ → Bool) (s : Cursor) → is_nothing (told sign p s).rest ≡ false
    → (is_nothing s.rest ≡ false) × (told sign p (longer more s) ≡ longer more (told sign p s))
told_longer more sign p s known = by (slice_index s.rest 0 == sign) refl known
  where
    by : (b : Bool) → (slice_index s.rest 0 == sign) ≡ b
        → is_nothing (if b then pass_blanks (prefix_len p s.rest) s else s).rest ≡ false
        → (is_nothing s.rest ≡ false)
        × ((if slice_index (s.rest ++ more) 0 == sign then pass_blanks (prefix_len p (s.rest ++ more)) (longer more s)
        else longer more s) ≡ longer more (if b then pass_blanks (prefix_len p s.rest) s else s))
    by true is left =
        let some = left_before (prefix_len p s.rest) s.rest left in
        (some, rw (first_longer s.rest more some, is) (run_longer more p s left))
    by false is left = (left, rw (first_longer s.rest more left, is) refl)

text_longer : (more : List ℕ) (s : Cursor) → is_nothing (behind_line_text s).rest ≡ false
    → behind_line_text (longer more s) ≡ longer more (behind_line_text s)
text_longer more s known =
    let u = pass_spaces (2 ^ 64 - 1) s in
    let v = behind_tab u in
    let signed = told_longer more 35 is_yaml_non_break v known in
    let tabbed = told_longer more 9 is_blank u signed.0 in
    ap (λ (w : Cursor). behind_line_comment (behind_tab w)) (spaced_longer more s tabbed.0)
    ∙ ap behind_line_comment tabbed.1 ∙ signed.1

-- a whole break is no end, stays whole, and is passed alike
module _ (more : List ℕ) (s : Cursor) where
  broken_longer : is_whole_break s.rest ≡ true → pass_break (longer more s) ≡ longer more (pass_break s)
  broken_longer whole = over s.rest whole
    where
      over : (t : List ℕ) → is_whole_break t ≡ true
          → pass_break (record s { rest = t ++ more }) ≡ longer more (pass_break (record s { rest = t }))
      over [] e = absurd (cc)
      over (c ∷ []) e = grind (arith, nat_tests)
      over (c ∷ d ∷ cs) e = grind (arith, nat_tests)

  whole_longer : is_whole_break s.rest ≡ true → is_whole_break (s.rest ++ more) ≡ true
  whole_longer whole = over s.rest whole
    where
      over : (t : List ℕ) → is_whole_break t ≡ true → is_whole_break (t ++ more) ≡ true
      over [] e = absurd (cc)
      over (c ∷ []) e = grind (arith, nat_tests)
      over (c ∷ d ∷ cs) e = grind (arith, nat_tests)

whole_is_some : (r : List ℕ) → is_whole_break r ≡ true → is_nothing r ≡ false
whole_is_some [] whole = absurd (cc)
whole_is_some (c ∷ r) whole = refl

whole_is_break : (r : List ℕ) → is_whole_break r ≡ true → is_break (slice_index r 0) ≡ true
whole_is_break r whole = grind (arith, nat_tests)

-- ## The gap goes on behind a line

module _ (l : ℕ) (u : Cursor) (g : Gap) where
  tab_or_not : (b : Bool) → (slice_index u.rest 0 == 9) ≡ b → gap_at true l false false u ≡ g
      → (tabbed : Bool) × (gap_at true l false tabbed (if b then pass_all_blanks u else u) ≡ g)
  tab_or_not true is same = (
    is_tab_indentation l u.mark u.blank_so_far (slice_index u.rest 0) || false,
    tab_passed l false false _ u u (pass_all_blanks u) g (slice_index u.rest 0) refl refl refl refl
        (eqb-true (slice_index u.rest 0) 9 is) same,
  )
  tab_or_not false is same = (false, same)

  comment_or_not : (tabbed b : Bool) → (slice_index u.rest 0 == 35) ≡ b → gap_at true l false tabbed u ≡ g
      → gap_at true l false tabbed (if b then pass_comment u else u) ≡ g
  comment_or_not tabbed true is same =
      comment_passed true l false tabbed u u (pass_comment u) g (slice_index u.rest 0) refl refl refl
      (eqb-true (slice_index u.rest 0) 35 is) same
  comment_or_not tabbed false is same = same

line_passed : (l : ℕ) (s : Cursor) → is_break (slice_index (behind_line_text s).rest 0) ≡ true
    → gap_at true l true false (pass_break (behind_line_text s)) ≡ gap_at true l false false s
line_passed l s breaks =
    let g = gap_at true l false false s in
    let u = pass_spaces (2 ^ 64 - 1) s in
    let v = behind_tab u in
    let w = behind_line_text s in
    let tabbed = tab_or_not l u g (slice_index u.rest 0 == 9) refl
    (spaces_passed l _ false false s s u g refl refl refl) in
    break_passed true l false tabbed.0 w w (pass_break w) g (slice_index w.rest 0) refl refl refl breaks
    (comment_or_not l v g tabbed.0 (slice_index v.rest 0 == 35) refl tabbed.1)

abbrev behind_line : Core → Core
behind_line c = record c {
  cursor = pass_break (behind_line_text c.cursor);
  key_allowed = in_block c || c.key_allowed;
}

gap_lined : (c : Core) → is_break (slice_index (behind_line_text c.cursor).rest 0) ≡ true
    → pass_gap (behind_line c) ≡ pass_gap c
unfolding pass_gap
gap_lined c breaks =
    let l = least_column c in let u = pass_break (behind_line_text c.cursor) in
    sym (ap (λ (g : Gap). stop g >>= λ p. check_comment (behind_gap c p))
    (sym (line_passed l c.cursor breaks) ∙ kept l u.mark u.blank_so_far false false u.rest)
    ∙ behind_break c (gap_at true l false false u))

lined_ahead : (s : State) → is_break (slice_index (behind_line_text s.core.cursor).rest 0) ≡ true
    → fetched (with_core (behind_line s.core) s) ≡ fetched s
unfolding arrive
lined_ahead s breaks = rw (gap_lined s.core breaks) refl

-- ## What is passed

line_on : (s : State) → is_whole_break (behind_line_text s.core.cursor).rest ≡ true
    → PassesOn s (with_core (behind_line s.core) s)
line_on s whole = record {
  moved = refl;
  same = λ more.
      let w = behind_line_text s.core.cursor in
      let text = text_longer more s.core.cursor (whole_is_some w.rest whole) in
      ap (λ (u : Cursor). fetched (with_core (record s.core {
        cursor = u;
        key_allowed = in_block s.core || s.core.key_allowed;
      }) s)) (sym (broken_longer more w whole) ∙ ap pass_break (sym text))
      ∙ lined_ahead (extended_by more s) (whole_is_break (behind_line_text (longer more s.core.cursor)).rest
      (ap (λ (v : Cursor). is_whole_break v.rest) text ∙ whole_longer more w whole));
}

-- the scanner is passed over what the line has before its end, and then over that
pub line_to : (s t : State) (u : Cursor) (allowed : Bool) → t ≡ placed (behind_line_text s.core.cursor) s
    → u ≡ pass_break t.core.cursor → is_whole_break t.core.cursor.rest ≡ true
    → allowed ≡ (in_block t.core || t.core.key_allowed)
    → PassesOn s (with_core (record t.core { cursor = u; key_allowed = allowed }) t)
line_to s t u allowed there is whole known =
    rw (is, known) (subst (λ (v : State). PassesOn s (with_core (record v.core {
      cursor = pass_break v.core.cursor;
      key_allowed = in_block v.core || v.core.key_allowed;
    }) v)) (sym there) (line_on s (sym (ap (λ (v : State). is_whole_break v.core.cursor.rest) there) ∙ whole)))

-- ## The tokens stay

same_fetch : (s t : State) → s.core.started ≡ true → t.core.started ≡ true → fetched t ≡ fetched s → fetch t ≡ fetch s
unfolding fetch
same_fetch s t starts start same =
    cond-true t.core.started _ _ start ∙ same ∙ sym (cond-true s.core.started _ _ starts)

same_read : (limit : ℕ) (s t : State) → fetch t ≡ fetch s → read limit t ≡ read limit s
unfolding fetch_within
same_read limit s t same = ap (λ r. (r >>= check_limit limit) >>= without_far_key) same

module _ (laws : Readers) (limit : ℕ) where
  first : (s : State) → needs_token s ≡ true → rest limit s ≡ remaining_after (read limit s) (run (size s.core) limit)
  first s needs = hand_nothing s s.queue.places (behind (size s.core) limit) needs
      ∙ cond-false s.core.ended _ _ (going s.core.ended _ needs)

  same_rest : (s t : State) → needs_token s ≡ true → needs_token t ≡ true → read limit t ≡ read limit s
      → rest limit t ≡ rest limit s
  same_rest s t needs need same =
      first t need ∙ ap (λ r. remaining_after r (run (size t.core) limit)) same
      ∙ remaining_after_so (read limit s) _ _ (λ u q. enough laws limit (size t.core) (size s.core) u
      (smaller_read laws limit t u need (same ∙ q)) (smaller_read laws limit s u needs q))
      ∙ sym (first s needs)

  same_remaining : (s t : State) → has_no_candidate s.core ≡ true → s.core.started ≡ true → needs_token s ≡ true
      → PassesOn s t → (more : List ℕ) → remaining limit (extended_by more t) ≡ remaining limit (extended_by more s)
  same_remaining s t free starts needs on more =
      let a = extended_by more s in
      let b = extended_by more t in
      let moved = on.moved in
      let begun : t.core.started ≡ true = ap (λ (v : State). v.core.started) moved ∙ starts in
      let key : s.core.level.key ≡ None = no_key s.core.level.key (grind (arith, free)) in
      let keyless : t.core.level.key ≡ None = ap (λ (v : State). v.core.level.key) moved ∙ key in
      let need : needs_token t ≡ true = ap needs_token moved ∙ needs in
      remaining_is limit b b (no_key_settles b keyless)
      ∙ same_rest a b needs need (same_read limit a b (same_fetch a b starts begun (on.same more)))
      ∙ sym (remaining_is limit a a (no_key_settles a key))

-- Where lines are passed, the tokens that are still to come stay.
pub lines_passed : Readers → (old new : Scanning) (t : State) → is_growing old.growth ≡ true
    → has_no_candidate old.state.core ≡ true → old.state.core.started ≡ true → needs_token old.state ≡ true
    → new ≡ record old { state = t; stop = new.stop } → PassesOn old.state t → (more : List ℕ)
    → tokens_in more new ≡ tokens_in more old
unfolding tokens_in tokens_over
lines_passed laws old new t grows free starts needs is on more =
    ap (tokens_in more) is
    ∙ ap (λ rest. remaining old.limit (with_rest rest t)) (text_grows old.growth more t.core.cursor.rest grows)
    ∙ same_remaining laws old.limit old.state t free starts needs on more
    ∙ ap (λ rest. remaining old.limit (with_rest rest old.state))
    (sym (text_grows old.growth more old.state.core.cursor.rest grows))
