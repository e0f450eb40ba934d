-- What is between two tokens: blanks, breaks and comments (YAML 1.2.2, 6.7).
use Rattle.std.specs.Prelude.{ℕ, Bool, true, false, ◌||◌, ◌&&◌, ◌==◌, not, nat_lt, List, [], ◌∷◌, slice_index, Result, Ok, if◌then◌else◌}
use Rattle.saphyr_input.specs.Classes.{is_break, is_bom, is_z, is_yaml_non_break, carriage_return, line_feed, tab}
pub use Rattle.saphyr_input.specs.Fronts.{is_passed_blank}
use Rattle.saphyr_input.specs.Indicators.{number_sign}
use Rattle.saphyr_scalar.specs.declared.scalar.position.Marker.{Marker}
use Rattle.saphyr_scalar.specs.declared.scalar.fault.Refusal.{Refusal}
use Rattle.saphyr_scalar.specs.declared.scalar.fault.FaultText.TheVariants as fault
use Rattle.saphyr_scalar.specs.Views.Cursor.{Cursor, along, next_line, pass_break, pass_comment, refuse}

-- a tab left of the column that content has to reach
abbrev pub is_tab_indentation : ℕ → Marker → Bool → ℕ → Bool
is_tab_indentation least m blank c = (c == tab) && blank && nat_lt m.col least

-- Where a gap ends: the place, whether what parts tokens was met, and whether a tab is in the indentation of the line.
pub record Gap : Type 0 where
  pub cursor : Cursor
  pub met : Bool
  pub tabbed : Bool

abbrev pub gap_here : Marker → Bool → Bool → Bool → List ℕ → Gap
gap_here m blank met tabbed text =
    record { cursor = record { rest = text; mark = m; blank_so_far = blank }; met = met; tabbed = tabbed }

-- Between two tokens all blanks are passed, and a break is what is met. After `?` no tab is passed, and a space is met
-- too (8.2.2). Told character by character: CR before LF counts as a character of its line, and the LF ends the line.
abbrev mutual
  pub end_of_gap : Bool → ℕ → Marker → Bool → Bool → Bool → List ℕ → Gap
  end_of_gap tabs least m blank met tabbed [] = gap_here m blank met tabbed []
  end_of_gap tabs least m blank met tabbed (c ∷ cs) =
      if is_passed_blank tabs c || ((c == carriage_return) && (slice_index cs 0 == line_feed)) then
      end_of_gap tabs least (along m 1) blank (not tabs || met) (is_tab_indentation least m blank c || tabbed) cs
      else if is_break c then end_of_gap tabs least (next_line m 1) true true false cs
      else if c == number_sign then end_of_gap_in_comment tabs least (along m 1) blank met tabbed cs
      else gap_here m blank met tabbed (c ∷ cs)

  -- after the `#` of a comment
  pub end_of_gap_in_comment : Bool → ℕ → Marker → Bool → Bool → Bool → List ℕ → Gap
  end_of_gap_in_comment tabs least m blank met tabbed [] = gap_here m blank met tabbed []
  end_of_gap_in_comment tabs least m blank met tabbed (c ∷ cs) =
      if is_yaml_non_break c then end_of_gap_in_comment tabs least (along m 1) blank met tabbed cs
      else if (c == carriage_return) && (slice_index cs 0 == line_feed) then
      end_of_gap tabs least (along m 1) blank (not tabs || met) tabbed cs
      else if is_break c then end_of_gap tabs least (next_line m 1) true true false cs
      else gap_here m blank met tabbed (c ∷ cs)

-- from a place on
abbrev pub gap_at : Bool → ℕ → Bool → Bool → Cursor → Gap
gap_at tabs least met tabbed s = end_of_gap tabs least s.mark s.blank_so_far met tabbed s.rest

-- a comment is passed, and where this is true the break that ends its line too
abbrev pub behind_comment : Bool → Cursor → Cursor
behind_comment true s = pass_break (pass_comment s)
behind_comment false s = pass_comment s

-- ## Between two tokens

-- where the text goes on, and whether a break was met
pub record GapEnd : Type 0 where
  pub cursor : Cursor
  pub broke : Bool

-- what contracts see of a gap that was passed: whether a break was met, and the reader after it
abbrev pub seen_gap_end : Bool → Cursor → GapEnd
seen_gap_end broke s = record { cursor = s; broke = broke }

-- Where a tab is in the indentation of the line, nothing else may be on it.
unfoldable pub stop : Gap → Result GapEnd Refusal
stop g =
    if g.tabbed && is_bom (slice_index g.cursor.rest 0) then refuse fault.MisplacedByteOrderMark g.cursor.mark
    else if g.tabbed && not (is_z (slice_index g.cursor.rest 0)) then refuse fault.TabInBlockIndentation g.cursor.mark
    else Ok (record { cursor = g.cursor; broke = g.met })

abbrev pub stop_at : Bool → Bool → Cursor → Result GapEnd Refusal
stop_at broke tabbed s = stop (record { cursor = s; met = broke; tabbed = tabbed })

-- what is between two tokens is passed, where content has to reach a column
abbrev pub whole_gap : ℕ → Cursor → Result GapEnd Refusal
whole_gap least s = stop (gap_at true least false false s)

-- ## After `?`: spaces, breaks and comments (8.2.2), of which something has to be there

pub record SpacesEnd : Type 0 where
  pub cursor : Cursor
  pub space : Bool

abbrev pub spaces_of : Gap → SpacesEnd
spaces_of g = record { cursor = g.cursor; space = g.met }

-- some were found before, or none
abbrev pub spaces_at : Bool → Cursor → SpacesEnd
spaces_at found s = spaces_of (gap_at false 0 found false s)
