-- What is shown of a line round a place.
use Rattle.std.specs.Prelude.{◌≡◌, ℕ, ◌+◌, ◌-◌, ◌<◌, ◌≤◌, min, true, false, nat_lt, List, ◌++◌, length, drop, take, slice_index, slice_range, replicate, codes}
use Rattle.yaml_check.specs.declared.view.View.{View}
use Rattle.yaml_check.specs.Shown.{shown_columns, cut, is_end_of_line, line_goes_on, visible, IsFull, StaysOnLine}

-- the characters of a line that come before a place in this column
abbrev pub front_of : List ℕ → ℕ → ℕ → List ℕ
front_of text at col = slice_range text (at - min col at) at

-- What is shown round a place. Of what comes before it on its line the end is shown, in 120 columns at most, and of
-- what comes after it the beginning, up to a break at most. In all that takes 200 columns at most, and on either side 200
-- characters at most. Where a side is cut, one more of its characters doesn't fit, with three columns for what is in
-- place of the others. The caret is under the place.
pub record IsView (text : List ℕ) (at col : ℕ) (v : View) : Type 0 where
  pub left : List ℕ
  pub front : front_of text at col ≡ left ++ v.front.now
  pub cut_before : v.cut_before ≡ nat_lt 0 (length left)
  pub right : List ℕ
  pub back : drop at text ≡ v.back.now ++ right
  pub line : StaysOnLine v.back.now
  pub cut_behind : v.cut_behind ≡ line_goes_on right
  pub caret : v.caret ≡ length (cut v.cut_before) + shown_columns v.front.now
  pub before_fits : v.caret ≤ 120
  pub fits : v.caret + shown_columns v.back.now + length (cut v.cut_behind) ≤ 200
  pub few : (length v.front.now ≤ 200) × (length v.back.now ≤ 200)
  pub full_before : v.cut_before ≡ true → IsFull 117 v.front.now (slice_index left (length left - 1))
  pub full_behind : v.cut_behind ≡ true → IsFull (197 - v.caret) v.back.now (slice_index right 0)

-- Of a line before a place the characters from `start` on are shown, and the caret is under so many columns.
pub record FrontFits (line : List ℕ) (start caret : ℕ) : Type 0 where
  pub within : start ≤ length line
  pub columns : caret ≡ length (cut (nat_lt 0 start)) + shown_columns (drop start line)
  pub fits : caret ≤ 120
  pub few : length line ≤ 200 + start
  pub full : 0 < start → IsFull 117 (drop start line) (slice_index line (start - 1))

-- So many characters are shown of what comes after it, in this many columns at most.
pub record CountFits (rest : List ℕ) (most count : ℕ) : Type 0 where
  pub within : count ≤ length rest
  pub fits : shown_columns (take count rest) ≤ most
  pub line : StaysOnLine (take count rest)
  pub few : count ≤ 200
  pub full : count < length rest → is_end_of_line (slice_index rest count) ≡ false
      → IsFull most (take count rest) (slice_index rest count)

-- how it is shown, in UTF-8
abbrev pub excerpt : View → List ℕ
excerpt v = cut v.cut_before ++ (visible v.front.now ++ (visible v.back.now ++ (cut v.cut_behind
    ++ (codes "\n" ++ (replicate v.caret 32 ++ codes "^\n")))))
