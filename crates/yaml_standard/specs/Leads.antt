-- What comes before nodes and entries in block style (YAML 1.2.2, chapter 8), whatever the properties are.
use Rattle.std.specs.Prelude.{◌≡◌, ℕ, ◌+◌, ◌≤◌, Bool, true, false, not, ◌==◌, ◌&&◌, ◌||◌, List, [], ◌∷◌, ◌++◌, slice_index, Option, Some, None, ◌≢◌, IsFalse, IsTrue, if◌then◌else◌}
use Rattle.saphyr_input.specs.Classes.{is_alpha, is_blank, is_blank_or_breakz, is_break, tab}
use Rattle.saphyr_input.specs.Indicators.{colon, number_sign}
use Rattle.saphyr_scalar.specs.Reading.BlockLines.{spaces}
use Rattle.scalar_laws.specs.Spelling.Spaces.{IsLineEnd}
use Rattle.saphyr_scanner.specs.Grammar.Forest.{Properties}
use Rattle.yaml_laws.specs.Grammar.FlowNodes.{has_tab_outside}
use Rattle.yaml_laws.specs.Grammar.BlockNodes.{Position, IsCollectionFront, IsGapAt, IsLead, has_tab_ahead, is_lone_tab, is_value_ahead}
use Rattle.yaml_standard.specs.declared.ahead.Ahead.{Ahead}
use Rattle.yaml_standard.specs.NodeProperties.{IsSomeProperties}

-- properties up to the end of their line
abbrev pub IsPropertiesLine : ℕ → List ℕ → Type 0
IsPropertiesLine indent t =
    (properties end : List ℕ) × IsSomeProperties indent properties × IsLineEnd end × (t ≡ properties ++ end)

-- the properties of a block collection, or none, up to the end of their line
abbrev pub IsFrontLine : Position → List ℕ → Type 0
IsFrontLine place t =
    (p : Properties) × (front end : List ℕ) × IsCollectionFront p place front × IsLineEnd end × (t ≡ front ++ end)

abbrev pub IsSomeLead : Position → ℕ → ℕ → List ℕ → Type 0
IsSomeLead place least m t = (p : Properties) × IsLead p place least m t

-- some spaces after an indicator, up to column m
abbrev pub IsCompact : ℕ → ℕ → List ℕ → Type 0
IsCompact indicator m t = (n : ℕ) × (1 ≤ n) × (m ≡ indicator + 1 + n) × (t ≡ spaces n)

-- whether tabs, or none, and then a letter, a digit, `-` or `_` come first
abbrev pub is_word_behind_tabs : List ℕ → Bool
is_word_behind_tabs [] = false
is_word_behind_tabs (c ∷ cs) = if c == tab then is_word_behind_tabs cs else is_alpha c

-- what parts a node in flow style from what comes before it, at the front of a text
abbrev pub IsFlowGap : Position → List ℕ → List ℕ → Type 0
IsFlowGap place text gap =
    IsGapAt place gap
    × ((node behind : List ℕ) → text ≡ gap ++ (node ++ behind) → IsFalse (is_lone_tab place gap node))

-- Up to the first token: whether a comment goes on after a character, if it is no token's. The first argument tells
-- whether it is in a comment.
abbrev pub comment_after : Bool → ℕ → Option Bool
comment_after true c = Some (not (is_break c))
comment_after false c =
    if is_blank c || (is_break c || (c == number_sign)) then Some (c == number_sign) else None

-- the column after such a character, where no comment begins there
abbrev pub column_after : Bool → ℕ → ℕ → ℕ
column_after in_comment c column = if not in_comment && is_blank c then column + 1 else 0

-- the first token is not the colon of a value at column m
abbrev pub IsNoValue : Ahead → ℕ → Type 0
IsNoValue a m = a.value ≢ Some m

-- whether a character that begins a token is the colon of a value at column m
abbrev pub is_value_at : ℕ → ℕ → ℕ → List ℕ → Bool
is_value_at m column c cs = (c == colon) && (column == m) && is_blank_or_breakz (slice_index cs 0)

-- what is known of what comes up to the first token of a text
pub record IsWhatComes (a : Ahead) (t : List ℕ) : Type 0 where
  pub no_tab : IsFalse a.has_tab → IsFalse (has_tab_ahead false t)
  pub no_tab_at_all : IsFalse a.has_tab → IsTrue a.is_end → IsFalse (has_tab_outside false t)
  pub no_value : (m : ℕ) → IsNoValue a m → IsFalse (is_value_ahead false m 0 t)
