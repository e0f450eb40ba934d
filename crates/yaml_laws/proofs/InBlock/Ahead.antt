-- What is ahead after an indicator: no tab among the blanks before the next token, or the `:` of a value.
use Rattle.yaml_laws.proofs.Common.{List, [], append_assoc, arith, false, inl, inr, refl, slice_index, true, ℕ, ◌++◌, ◌+◌, ◌∷◌, ◌≡◌, ◌⊎◌, is_blank, is_blank_or_breakz, is_yaml_non_break, line_feed, Marker, has_tab_ahead, is_value_ahead, colon, AreIn, along, next_line, IsComment}
use Rattle.yaml_laws.proofs.InBlock.Skips.{has_tab, comment_has_tab, IsSkipped, nothing, one_space, one_break, one_rest}
use Rattle.yaml_laws.proofs.Flow.GapWalks.{OverGap, over_gap}
use Rattle.yaml_laws.proofs.Flow.States.{moved}
use Rattle.yaml_laws.proofs.Flow.Places.{moved_append}

-- ## Tabs

abbrev text_start : Marker
text_start = record { index = 0; line = 1; col = 0 }

over_ahead : OverGap 0 (λ m t. has_tab_ahead false t ≡ false → has_tab t ≡ false)
    (λ m t. has_tab_ahead true t ≡ false → comment_has_tab t ≡ false)
over_ahead = grind arith

pub no_tab_ahead : (t : List ℕ) → has_tab_ahead false t ≡ false → has_tab t ≡ false
no_tab_ahead = over_gap over_ahead text_start

-- ## The `:` of a value

words_ahead : (m : ℕ) (words o : List ℕ) → AreIn is_yaml_non_break words
    → is_value_ahead true m 0 (words ++ (line_feed ∷ o)) ≡ is_value_ahead false m 0 o
words_ahead m [] o h = refl
words_ahead m (c ∷ cs) o h = grind (arith, words_ahead m cs o h.1)

rest_ahead : (m column : ℕ) (blanks comment o : List ℕ) → AreIn is_blank blanks → (comment ≡ []) ⊎ IsComment comment
    → is_value_ahead false m column (blanks ++ (comment ++ (line_feed ∷ o))) ≡ is_value_ahead false m 0 o
rest_ahead m column [] comment o are (inl e) = cc
rest_ahead m column [] comment o are (inr (words, are_words, e)) = cc (words_ahead m words o are_words)
rest_ahead m column (c ∷ cs) comment o are k = rw are.0 (rest_ahead m (column + 1) cs comment o are.1 k)

-- it is at the column that is reached
pub skipped_ahead : (m : ℕ) (n : Marker) (w y : List ℕ) → IsSkipped w
    → is_value_ahead false m n.col (w ++ y) ≡ is_value_ahead false m (moved n w).col y
skipped_ahead m n _ y nothing = refl
skipped_ahead m n _ y (one_space w h) = skipped_ahead m (along n 1) w y h
skipped_ahead m n _ y (one_break w h) = skipped_ahead m (next_line n 1) w y h
skipped_ahead m n _ y (one_rest blanks comment w are k h) =
    let front = blanks ++ comment in
    let line = next_line (moved n front) 1 in
    let text : (blanks ++ (comment ++ (10 ∷ w))) ++ y ≡ blanks ++ (comment ++ (10 ∷ (w ++ y))) = simp append_assoc in
    let place : moved n (blanks ++ (comment ++ (10 ∷ w))) ≡ moved line w =
    cc (append_assoc blanks comment (10 ∷ w), moved_append n front (10 ∷ w)) in
    cc (rest_ahead m n.col blanks comment (w ++ y) are k, skipped_ahead m line w y h)

-- such a `:` itself
pub value_here : (m column : ℕ) (o : List ℕ) → column ≡ m → is_blank_or_breakz (slice_index o 0) ≡ true
    → is_value_ahead false m column (colon ∷ o) ≡ true
value_here m column o e white = grind arith
