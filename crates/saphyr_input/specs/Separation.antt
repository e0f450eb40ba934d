-- White space and a comment, up to the end of the line (YAML 1.2.2, 6.2 and 6.6).
use Rattle.std.specs.Prelude.{ℕ, ◌+◌, Bool, false, ◌&&◌, ◌==◌, List, take, drop, slice_index, if◌then◌else◌, ⊤}
use Rattle.std.specs.List.{prefix_len, list_any}
use Rattle.saphyr_input.specs.Classes.{is_blank, is_yaml_non_break, space, tab}
use Rattle.saphyr_input.specs.declared.input.SkipTabs.{SkipTabs}
use Rattle.saphyr_input.specs.declared.input.SkipTabs.TheVariants.{Yes, No, Result}
use Rattle.saphyr_input.specs.Indicators.{number_sign}

-- what a caller may ask for
abbrev pub IsRequest : SkipTabs → Type 0
IsRequest Yes = ⊤
IsRequest No = ⊤
IsRequest (Result _ _) = ⊥

-- spaces are skipped, and tabs where that is asked for
abbrev pub is_skipped : SkipTabs → ℕ → Bool
is_skipped Yes c = is_blank c
is_skipped No c = c == space
is_skipped (Result _ _) c = c == space

-- how many blanks are skipped
abbrev pub blank_len : SkipTabs → List ℕ → ℕ
blank_len tabs xs = prefix_len (is_skipped tabs) xs

-- the length of the comment at the front, 0 if there is none
abbrev pub comment_len : List ℕ → ℕ
comment_len xs = if slice_index xs 0 == number_sign then prefix_len is_yaml_non_break xs else 0

-- a `#` before which nothing is skipped, which begins no comment
abbrev pub is_bare_comment : SkipTabs → List ℕ → Bool
is_bare_comment tabs xs = (blank_len tabs xs == 0) && (slice_index xs 0 == number_sign)

-- how many characters are skipped
abbrev pub separation_len : SkipTabs → List ℕ → ℕ
separation_len tabs xs =
    if blank_len tabs xs == 0 then 0 else blank_len tabs xs + comment_len (drop (blank_len tabs xs) xs)

-- which blanks were met: tabs, and spaces
abbrev pub found_blanks : SkipTabs → List ℕ → SkipTabs
found_blanks tabs xs =
    Result (list_any (λ c. c == tab) (take (blank_len tabs xs) xs))
    (list_any (λ c. c == space) (take (blank_len tabs xs) xs))

abbrev pub found_tabs : SkipTabs → Bool
found_tabs Yes = false
found_tabs No = false
found_tabs (Result tabs _) = tabs

abbrev pub has_valid_yaml_ws : SkipTabs → Bool
has_valid_yaml_ws Yes = false
has_valid_yaml_ws No = false
has_valid_yaml_ws (Result _ spaces) = spaces
