-- What is between two tokens at block level: where it ends, whether a break is in it, and a tab in its last
-- indentation.
use Rattle.std.proofs.Common.{◌≡◌, ℕ, Bool, true, false, List, ◌∷◌, slice_index, refl, ◌∙◌, arith, Ok}
use Rattle.yaml_laws.proofs.Common.{◌||◌, ◌==◌, nat_tests, is_blank, is_break, is_yaml_non_break, Marker, Cursor, GapEnd, gap_here, end_of_gap, end_of_gap_in_comment, stop, is_tab_indentation, whole_gap, or_false_left, or-false, or-true, number_sign, cursor_at, stop_here}
use Rattle.yaml_laws.proofs.Flow.States.{IsContentStart, past, past_comment}
use Rattle.yaml_laws.proofs.InBlock.States.{IsStop, tabbed, tabbed_comment, IsUntabbed, crosses, crosses_comment}
use Rattle.yaml_laws.proofs.Flow.Gaps.{is_return_at, stop_ends}
use Rattle.yaml_laws.proofs.Flow.GapWalks.{OverGap, over_gap, no_stop}

-- ## Where `gap` stops

pub record GapStops (m : Marker) (blank broke : Bool) (t : List ℕ) : Type 0 where
  pub still_blank : Bool
  pub is : (least : ℕ) (tab : Bool) → stop (end_of_gap true least m blank broke tab t)
      ≡ stop (gap_here (past 0 m t).0 still_blank (broke || crosses t) (tabbed least m blank tab t) (past 0 m t).1)
  pub stop : IsStop (past 0 m t).1

record StopsComment (m : Marker) (blank broke : Bool) (t : List ℕ) : Type 0 where
  still_blank : Bool
  is : (least : ℕ) (tab : Bool) → stop (end_of_gap_in_comment true least m blank broke tab t)
      ≡ stop (gap_here (past_comment 0 m t).0 still_blank (broke || crosses_comment t)
      (tabbed_comment least m blank tab t) (past_comment 0 m t).1)
  stop : IsStop (past_comment 0 m t).1

-- By the induction on a text between tokens (`OverGap`): the reader and `past` make the same choices, with the same
-- tests. Each case rewrites by the tests that lead to it. The flags are what differs: a break was passed if one is in
-- the text or one was before it, and a tab counts from the last break on.
over_stops : OverGap 0 (λ m t. (blank broke : Bool) → GapStops m blank broke t)
    (λ m t. (blank broke : Bool) → StopsComment m blank broke t)
over_stops =
    record {
      ends = λ m blank broke. record {
        still_blank = blank;
        is = λ least tab. stop_ends m blank broke tab ∙ rw (or-false broke) refl;
        stop = tt;
      };
      tab = λ m c cs t. absurd (no_stop m c cs t);
      white = λ m c cs t e on blank broke. let g = on blank broke in
          record {
            still_blank = g.still_blank;
            is = λ least tab. rw (t, e) (g.is least (is_tab_indentation least m blank c || tab));
            stop = rw (t, e) g.stop;
          };
      break = λ m c cs t e f on blank broke. let g = on true true in
          record {
            still_blank = g.still_blank;
            is = λ least tab. rw (t, e, f, or-true broke) (g.is least false);
            stop = rw (t, e, f) g.stop;
          };
      sign = λ m c cs t e f h on blank broke. let g = on blank broke in
          record {
            still_blank = g.still_blank;
            is = λ least tab. rw (t, e, f, h) (g.is least tab);
            stop = rw (t, e, f, h) g.stop;
          };
      token = λ m c cs t e f h blank broke. record {
        still_blank = blank;
        is = λ least tab. rw (t, e, f, h, or-false broke) refl;
        stop = rw (t, e, f, h) (or_false_left (is_blank c) (is_return_at c cs) e, f, h);
      };
      comment_ends = λ m blank broke. record {
        still_blank = blank;
        is = λ least tab. stop_ends m blank broke tab ∙ rw (or-false broke) refl;
        stop = tt;
      };
      word = λ m c cs e on blank broke. let g = on blank broke in
          record { still_blank = g.still_blank; is = λ least tab. rw e (g.is least tab); stop = rw e g.stop };
      return = λ m c cs e f on blank broke. let g = on blank broke in
          record { still_blank = g.still_blank; is = λ least tab. rw (e, f) (g.is least tab); stop = rw (e, f) g.stop };
      line = λ m c cs e f h on blank broke. let g = on true true in
          record {
            still_blank = g.still_blank;
            is = λ least tab. rw (e, f, h, or-true broke) (g.is least false);
            stop = rw (e, f, h) g.stop;
          };
      other = λ m c cs e f h blank broke. record {
        still_blank = blank;
        is = λ least tab. rw (e, f, h, or-false broke) refl;
        stop = rw (e, f, h) (no_blank c e h, h, no_sign c e);
      };
    }
  where
    no_blank : (c : ℕ) → is_yaml_non_break c ≡ false → is_break c ≡ false → is_blank c ≡ false
    no_blank c e f = grind (arith, nat_tests)

    no_sign : (c : ℕ) → is_yaml_non_break c ≡ false → (c == number_sign) ≡ false
    no_sign c e = grind (arith, nat_tests)

pub gap_stops : (m : Marker) (t : List ℕ) (blank broke : Bool) → GapStops m blank broke t
gap_stops = over_gap over_stops

pub past_stops : (m : Marker) (t : List ℕ) → IsStop (past 0 m t).1
past_stops m t = (gap_stops m t false false).stop

pub stop_no_blank : (y : List ℕ) → IsStop y → is_blank (slice_index y 0) ≡ false
stop_no_blank y h = grind arith

-- no column is left of the first: blanks and tabs are passed
pub past_no_blank : (m : Marker) (t : List ℕ) → is_blank (slice_index (past 0 m t).1 0) ≡ false
past_no_blank m t = stop_no_blank (past 0 m t).1 (past_stops m t)

-- what is between two tokens is passed where no tab indents
pub record PassesTo (least : ℕ) (s : Cursor) (m : Marker) (y : List ℕ) : Type 0 where
  pub blank : Bool
  pub is : whole_gap least s
      ≡ Ok (let p : GapEnd = record {
        cursor = record { rest = y; mark = m; blank_so_far = blank };
        broke = crosses s.rest;
      } in p)

pub passes_to : (least : ℕ) (s : Cursor) (m : Marker) (y : List ℕ) → past 0 s.mark s.rest ≡ (m, y) → IsUntabbed least s
    → PassesTo least s m y
passes_to least s m y here clean =
    let g = gap_stops s.mark s.rest s.blank_so_far false in
    record { blank = g.still_blank; is = cc (g.is least false, stop_here m g.still_blank (crosses s.rest) y) }

-- ## Before a token

pub stop_tabbed : (least : ℕ) (m : Marker) (blank : Bool) (y : List ℕ) → IsStop y → tabbed least m blank false y ≡ false
stop_tabbed least m blank y h = grind arith

pub stop_past : (m : Marker) (y : List ℕ) → IsStop y → past 0 m y ≡ (m, y)
stop_past m y h = grind arith

pub content_stop : (c : ℕ) (cs : List ℕ) → IsContentStart c → IsStop (c ∷ cs)
content_stop c cs h = (h.blank, h.break, h.comment)

-- nothing is passed right at a token
pub gap_still : (least : ℕ) (m : Marker) (blank : Bool) (y : List ℕ) → IsStop y → whole_gap least (cursor_at y m blank)
    ≡ Ok (let p : GapEnd = record { cursor = cursor_at y m blank; broke = false } in p)
gap_still least m blank y h = grind (arith, stop_here)
