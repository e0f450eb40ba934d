-- What is between two tokens.
use Rattle.std.proofs.Common.{◌≡◌, ℕ, Bool, true, false, List, [], ◌∷◌, ◌++◌, Option, Some, None, Result, Ok, refl}
use Rattle.std.specs.Prelude.{◌&&◌, ◌||◌, ◌==◌, not}
use Rattle.saphyr_input.specs.Classes.{is_bom, is_z, is_yaml_non_break}
use Rattle.saphyr_input.proofs.Basics.Booleans.{and_true_left, either}
use Rattle.saphyr_scalar.specs.declared.scalar.position.Marker.{Marker}
use Rattle.saphyr_scalar.specs.declared.scalar.fault.Refusal.{Refusal}
use Rattle.saphyr_scalar.specs.Views.Cursor.{Cursor, along, next_line}
use Rattle.saphyr_scanner.specs.Steps.Core.{Core, least_column}
use Rattle.saphyr_scanner.specs.Steps.Gap.{Gap, GapEnd, SpacesEnd, stop, gap_here, is_passed_blank, is_tab_indentation, end_of_gap, end_of_gap_in_comment, spaces_at, spaces_of}
use Rattle.saphyr_scanner.specs.Steps.Passing.{goes_on_behind, check_comment_of, check_comment, behind_gap, pass_gap}
use Rattle.saphyr_scalar.specs.Known.{is_open, longer}
use Rattle.saphyr_scalar.proofs.WhatCame.Rests.{some, InText, later_than, known_before, shown, later_here, later_on, first_known, indicator_known, plain_known}
use Rattle.saphyr_scalar.proofs.WhatCame.Steps.{Left, CameAs, Came, Sure, further, open_refused, stays, given, ended, choose, choose_of, choose_same, at_break_in, reports, and_known}
use Rattle.saphyr_scanner.proofs.WhatCame.Cores.{longer_core, cores}

abbrev gap_ends : Left GapEnd
gap_ends = record { rest = λ g. g.cursor.rest; with_more = λ more g. record g { cursor = longer more g.cursor } }

abbrev pub spaces_ends : Left SpacesEnd
spaces_ends = record { rest = λ g. g.cursor.rest; with_more = λ more g. record g { cursor = longer more g.cursor } }

-- on the next line
fresh : (r : List ℕ) → InText r false r
fresh r = (later_here r, λ e. absurd (cc))

-- Over a text that is not open where a tab was in the indentation, which is seen by k.
module _ {X : Type 0} {asks says : Bool} {at : Left X} (more : List ℕ) (k : Gap → Result X Refusal)
    (nothing : (m : Marker) (blank met tabbed : Bool) (q : Result X Refusal)
    → CameAs asks says at more [] (k (gap_here m blank met tabbed [])) q)
    (here : (text : List ℕ) (m : Marker) (blank met tabbed : Bool) (r : List ℕ) → InText text tabbed r
    → CameAs asks says at more text (k (gap_here m blank met tabbed r)) (k (gap_here m blank met tabbed (r ++ more))))
    (tabs : Bool) (least : ℕ)
  where
    tab_in : (text : List ℕ) (m : Marker) (blank tabbed : Bool) (c : ℕ) (cs : List ℕ) → InText text tabbed (c ∷ cs)
        → InText text (is_tab_indentation least m blank c || tabbed) cs
    tab_in text m blank tabbed c cs h = (
      later_than (later_on c (later_here cs)) h.0,
      λ is. either (is_tab_indentation least m blank c) tabbed (is_open text ≡ false) is
          (λ tab. known_before h.0 (shown 9 (c ∷ cs) refl refl (and_true_left (c == 9) _ (and_true_left _ _ tab)))) h.1,
    )

    on_line : (text : List ℕ) (tabbed : Bool) (c : ℕ) (cs : List ℕ) → InText text tabbed (c ∷ cs)
        → InText text tabbed cs
    on_line text tabbed c cs h = (later_than (later_on c (later_here cs)) h.0, h.1)

    mutual
      gap_came : (text : List ℕ) (m : Marker) (blank met tabbed : Bool) (r : List ℕ) → InText text tabbed r
          → CameAs asks says at more text (k (end_of_gap tabs least m blank met tabbed r))
          (k (end_of_gap tabs least m blank met tabbed (r ++ more)))
      gap_came text m blank met tabbed [] h =
          further h.0 (ended (nothing m blank met tabbed (k (gap_here m blank met tabbed []))))
      gap_came text m blank met tabbed (c ∷ cs) h = at_break_in k (is_passed_blank tabs c) c cs h.0
          (gap_came text (along m 1) blank (not tabs || met) (is_tab_indentation least m blank c || tabbed) cs
          (tab_in text m blank tabbed c cs h))
          (gap_came cs (next_line m 1) true true false cs (fresh cs)) (choose_of k (c == 35) (c == 35) (λ _. refl)
          (λ _. comment_came text (along m 1) blank met tabbed cs (on_line text tabbed c cs h))
          (λ _. here text m blank met tabbed (c ∷ cs) h))

      comment_came : (text : List ℕ) (m : Marker) (blank met tabbed : Bool) (r : List ℕ) → InText text tabbed r
          → CameAs asks says at more text (k (end_of_gap_in_comment tabs least m blank met tabbed r))
          (k (end_of_gap_in_comment tabs least m blank met tabbed (r ++ more)))
      comment_came text m blank met tabbed [] h =
          further h.0 (ended (nothing m blank met tabbed (k (gap_here m blank met tabbed []))))
      comment_came text m blank met tabbed (c ∷ cs) h = choose_of k (is_yaml_non_break c) (is_yaml_non_break c)
          (λ _. refl) (λ _. comment_came text (along m 1) blank met tabbed cs (on_line text tabbed c cs h))
          (λ _. at_break_in k false c cs h.0
          (gap_came text (along m 1) blank (not tabs || met) tabbed cs (on_line text tabbed c cs h))
          (gap_came cs (next_line m 1) true true false cs (fresh cs)) (here text m blank met tabbed (c ∷ cs) h))

module _ (more : List ℕ) where
  stop_end : (m : Marker) (blank met tabbed : Bool) (q : Result GapEnd Refusal)
      → Came gap_ends more [] (stop (gap_here m blank met tabbed [])) q
  unfolding stop
  stop_end m blank met true q = ended (given (later_here []))
  stop_end m blank met false q = ended (given (later_here []))

  -- a tab in the indentation is in a text that is not open
  stop_came : (text : List ℕ) (m : Marker) (blank met tabbed : Bool) (r : List ℕ) → InText text tabbed r
      → Came gap_ends more text (stop (gap_here m blank met tabbed r)) (stop (gap_here m blank met tabbed (r ++ more)))
  unfolding stop
  stop_came text m blank met tabbed [] h = further h.0 (stop_end m blank met tabbed _)
  stop_came text m blank met tabbed (c ∷ cs) h =
      choose (tabbed && is_bom c) (λ is. reports (h.1 (and_true_left tabbed _ is)))
      (λ _. choose (tabbed && not (is_z c)) (λ is. reports (h.1 (and_true_left tabbed _ is))) (λ _. given h.0))

  pub spaces_came : (found : Bool) (s : Cursor)
      → Sure spaces_ends more s.rest (Ok (spaces_at found s)) (Ok (spaces_at found (longer more s)))
  spaces_came found s = gap_came {at = spaces_ends} more (λ g. Ok (spaces_of g))
      (λ m blank met tabbed q. ended (given (later_here []))) (λ text m blank met tabbed r h. given h.0) false 0
      s.rest s.mark s.blank_so_far found false s.rest (fresh s.rest)

  -- ## A comment before a token

  goes_known : (m : Marker) (c : Core) → is_open c.cursor.rest ≡ false
      → goes_on_behind m (longer_core more c) ≡ goes_on_behind m c
  unfolding goes_on_behind
  goes_known m c known = let r = c.cursor.rest in
      rw (indicator_known more r known, plain_known more false r known, first_known more r (some r known))

  check_came : (o : Option Marker) (c : Core)
      → Came cores more c.cursor.rest (check_comment_of o c) (check_comment_of o (longer_core more c))
  check_came None c = stays
  check_came (Some m) c = let d = record c { comment = None } in
      choose_same (goes_on_behind m d) (goes_on_behind m (longer_core more d)) (goes_known m d)
      (λ _. open_refused) (λ _. stays)

  pub pass_gap_came : (c : Core) → Came cores more c.cursor.rest (pass_gap c) (pass_gap (longer_core more c))
  unfolding pass_gap check_comment
  pass_gap_came c = let s = c.cursor in
      and_known _ (gap_came more stop stop_end stop_came true (least_column c) s.rest s.mark
      s.blank_so_far false false s.rest (fresh s.rest))
      (λ g _. check_came c.comment (behind_gap c g))
