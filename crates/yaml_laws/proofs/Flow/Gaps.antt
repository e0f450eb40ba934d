-- Tabs between two tokens, and the rest of a line without a token.
use Rattle.std.proofs.Common.{◌≡◌, ℕ, ◌≤◌, Bool, true, false, List, [], ◌∷◌, slice_index, refl, sym, ◌∙◌, arith}
use Rattle.yaml_laws.proofs.Common.{◌||◌, ◌&&◌, ◌==◌, not, is_blank, is_break, is_yaml_non_break, line_feed, Marker, and_true_left, and_true_right, or_parts, number_sign}
use Rattle.saphyr_scanner.specs.Steps.Gap.{gap_here, stop, is_tab_indentation}
use Rattle.yaml_laws.proofs.Flow.States.{is_left_tab, is_filler_rest, is_comment_rest}

-- ## Tabs, and blanks

-- CR before LF, at the front of a text
abbrev pub is_return_at : ℕ → List ℕ → Bool
is_return_at c cs = (c == 13) && (slice_index cs 0 == 10)

-- a blank, or CR before LF
abbrev pub is_white_at : ℕ → List ℕ → Bool
is_white_at c cs = is_blank c || is_return_at c cs

pub tab_blank : (column : ℕ) (m : Marker) (c : ℕ) → is_left_tab column m c ≡ true → is_blank c ≡ true
tab_blank column m c h = grind arith

-- whether a tab ends what is passed
abbrev pub stops_tab : ℕ → Marker → ℕ → List ℕ → Bool
stops_tab column m c cs = is_left_tab column m c && not (is_filler_rest cs)

pub stop_blank : (column : ℕ) (m : Marker) (c : ℕ) (cs : List ℕ) → stops_tab column m c cs ≡ true → is_blank c ≡ true
stop_blank column m c cs h = tab_blank column m c (and_true_left (is_left_tab column m c) (not (is_filler_rest cs)) h)

-- ## The rest of a line without a token

feed_rest : (cs : List ℕ) → (slice_index cs 0 == line_feed) ≡ true → is_filler_rest cs ≡ true
feed_rest [] e = refl
feed_rest (c ∷ cs) e = grind arith

-- after a blank, or CR before LF
pub rest_on : (c : ℕ) (cs : List ℕ) → is_white_at c cs ≡ true
    → is_filler_rest (c ∷ cs) ≡ true → is_filler_rest cs ≡ true
rest_on c cs e h = grind (arith, is_filler_rest, feed_rest, and_true_right)

-- after the sign of a comment
pub rest_sign : (c : ℕ) (cs : List ℕ) → is_white_at c cs ≡ false → is_break c ≡ false → (c == number_sign) ≡ true
    → is_filler_rest (c ∷ cs) ≡ true → is_comment_rest cs ≡ true
rest_sign c cs e f g h = grind arith

-- none is the rest that begins with a token
pub no_rest : (c : ℕ) (cs : List ℕ) → is_white_at c cs ≡ false → is_break c ≡ false → (c == number_sign) ≡ false
    → is_filler_rest (c ∷ cs) ≡ false
no_rest c cs e f g = rw ((or_parts (is_blank c) ((c == 13) && (slice_index cs 0 == 10)) e).0, f, g) refl

-- after a character of a comment, and where one ends
pub word_rest : (c : ℕ) (cs : List ℕ) → is_yaml_non_break c ≡ true → is_comment_rest (c ∷ cs) ≡ true
    → is_comment_rest cs ≡ true
word_rest c cs e h = let same : is_comment_rest (c ∷ cs) ≡ is_comment_rest cs = rw e refl in sym same ∙ h

pub return_rest : (c : ℕ) (cs : List ℕ) → is_return_at c cs ≡ true → is_filler_rest cs ≡ true
return_rest c cs e = feed_rest cs (and_true_right (c == 13) (slice_index cs 0 == 10) e)

pub no_comment_rest : (c : ℕ) (cs : List ℕ) → is_yaml_non_break c ≡ false → is_break c ≡ false
    → is_comment_rest (c ∷ cs) ≡ false
no_comment_rest c cs e f = rw (e, f) refl

-- no tab comes before
pub no_tab_before : (b : Bool) → false ≡ true → b ≡ true
no_tab_before b e = absurd (cc)

pub no_tab_here : (tab rest : Bool) → rest ≡ false → (tab ≡ true → rest ≡ true) → tab ≡ false
no_tab_here tab rest e h = grind arith

-- a tab that ends nothing is on such a rest, or right of a lower column
pub tab_rest : (column low : ℕ) (m : Marker) (blank : Bool) (c : ℕ) (cs : List ℕ) (tab : Bool)
    → stops_tab column m c cs ≡ false → low ≤ column → is_white_at c cs ≡ true
    → (tab ≡ true → is_filler_rest (c ∷ cs) ≡ true) → (is_tab_indentation low m blank c || tab) ≡ true
    → is_filler_rest cs ≡ true
tab_rest column low m blank c cs true t under e h k = rest_on c cs e (h refl)
tab_rest column low m blank c cs false t under e h k = grind arith

-- at the text's end a tab is no matter
pub stop_ends : (m : Marker) (blank met tab : Bool)
    → stop (gap_here m blank met tab []) ≡ stop (gap_here m blank met false [])
unfolding stop
stop_ends m blank met tab = grind arith
