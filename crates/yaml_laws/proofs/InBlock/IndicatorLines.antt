-- What comes after an indicator: blanks and a token, or the end of a line.
use Rattle.yaml_laws.proofs.Common.{Bool, IsTrue, List, [], ap, append-nil, append_assoc, arith, false, inl, inr, length, refl, slice_index, suc, sym, true, zero, ℕ, ◌++◌, ◌+◌, ◌∙◌, ◌∷◌, ◌≡◌, ◌≢◌, ◌≤◌, ◌⊎◌, not, take, ◌&&◌, ◌==◌, ◌||◌, nat_tests, is_alpha, is_blank, is_blank_or_breakz, line_feed, space, tab, hyphen, Yes, Marker, spaces, along, next_line, AreIn, IsComment, IsCommentBehind, IsEol, IsLineEnd, IsLineRest, and_false, list_all, list_any, prefix_len, found_blanks, found_tabs, has_valid_yaml_ws}
use Rattle.yaml_laws.proofs.Documents.Lines.{rest_first}
use Rattle.yaml_laws.proofs.Flow.Fillers.{spaces_are_blank, blanks_past, behind_is, front_past}
use Rattle.yaml_laws.proofs.Flow.Separates.{line_stops, content_stops, front_moved}
use Rattle.yaml_laws.proofs.InBlock.States.{tabbed, crosses, IsContentStart, moved}
use Rattle.yaml_laws.proofs.InBlock.Skips.{blanks_cross, rest_crosses, last_crosses, IsCleanIn, blanks_pass, skipped_untabbed, blanks_untabbed, line_end_skipped, rest_ends_clean}
use Rattle.yaml_laws.proofs.InBlock.Entries.{BeginsWhite, IsBehindIndicator}
use Rattle.yaml_laws.proofs.InBlock.Texts.{content_clean}

-- ## After an indicator

along_front : (m : Marker) (blanks comment : List ℕ) → AreIn is_blank blanks → (comment ≡ []) ⊎ IsComment comment
    → along m (length (blanks ++ comment)) ≡ moved m (blanks ++ comment)
along_front m blanks comment are k = sym (front_moved m blanks comment are k)

white_line : (blanks comment o : List ℕ) → AreIn is_blank blanks → IsCommentBehind blanks comment
    → BeginsWhite (blanks ++ (comment ++ (line_feed ∷ o)))
white_line (b ∷ bs) comment o are k = inl are.0
white_line [] comment o are (inr k) = absurd (k.0 refl)
white_line [] comment o are (inl e) = rw e (inr refl)

white_last : (blanks comment : List ℕ) → AreIn is_blank blanks → IsCommentBehind blanks comment
    → (blanks ++ (comment ++ []) ≡ []) ⊎ BeginsWhite (blanks ++ (comment ++ []))
white_last (b ∷ bs) comment are k = inr (inl are.0)
white_last [] comment are (inr k) = absurd (k.0 refl)
white_last [] comment are (inl e) = inl (ap (λ (x : List ℕ). x ++ []) e)

last_clean : (least : ℕ) (blanks comment : List ℕ) → AreIn is_blank blanks → (comment ≡ []) ⊎ IsComment comment
    → (m : Marker) → tabbed least m false false (blanks ++ (comment ++ [])) ≡ false
last_clean least blanks comment are k m = grind (arith, append-nil, rest_ends_clean)

-- which blanks are found before a token
blanks_found : (p : ℕ → Bool) (w : List ℕ) (c : ℕ) (cs : List ℕ) → AreIn is_blank w → is_blank c ≡ false
    → list_any p (take (prefix_len is_blank (w ++ (c ∷ cs))) (w ++ (c ∷ cs))) ≡ list_any p w
blanks_found p [] c cs are h = rw h refl
blanks_found p (b ∷ bs) c cs are h =
    let n = prefix_len is_blank (bs ++ (c ∷ cs)) in
    let one : 1 + n ≡ suc n = omega arith in rw (are.0, one) (cc (blanks_found p bs c cs are.1 h))

-- among blanks that are not tabs alone is a space
tabs_or_space : (w : List ℕ) (a : Bool) → AreIn is_blank w → (list_all (λ c. c == tab) w && a) ≡ false
    → (not (list_any (λ c. c == space) w) && a) ≡ false
tabs_or_space [] a are h = h
tabs_or_space (b ∷ bs) a are h = by_space (b == space) refl (λ k. tabs_or_space bs a are.1 k)
  where
    is_tab : (b : ℕ) → IsTrue (is_blank b) → (b == space) ≡ false → (b == tab) ≡ true
    is_tab b h e = grind (arith, nat_tests)

    by_space : (q : Bool) → (b == space) ≡ q
        → ((list_all (λ c. c == tab) bs && a) ≡ false → (not (list_any (λ c. c == space) bs) && a) ≡ false)
        → (not ((b == space) || list_any (λ c. c == space) bs) && a) ≡ false
    by_space q e further = grind arith

dash_is_alpha : (c : ℕ) → ((c == hyphen) || is_alpha c) ≡ is_alpha c
dash_is_alpha c = grind arith

blank_apart : (c : ℕ) → IsTrue (is_blank c) → is_blank_or_breakz c ≡ true
blank_apart c h = grind (arith, nat_tests)

-- Blanks and a token. After a tab it is no `-` of a compact sequence and, after a colon and tabs alone, no word.
pub blanks_behind : {colon : Bool} {indent : ℕ} (w : List ℕ) (c : ℕ) (cs : List ℕ) → AreIn is_blank w → w ≢ []
    → IsContentStart c
    → (list_any (λ b. b == tab) w && ((c == hyphen) && is_blank_or_breakz (slice_index cs 0))) ≡ false
    → (colon ≡ true → (list_all (λ b. b == tab) w && is_alpha c) ≡ false)
    → IsBehindIndicator colon indent (w ++ (c ∷ cs))
blanks_behind [] c cs are some content dash word = absurd (some refl)
blanks_behind (b ∷ bs) c cs are some content dash word =
    let w = b ∷ bs in
    record {
      blanks = w;
      comment = [];
      more = c ∷ cs;
      is = refl;
      are = are;
      parts = inl refl;
      stops = content_stops c cs content;
      dash = cc (blanks_found (λ d. d == 9) w c cs are content.blank);
      word = search (blanks_found, dash_is_alpha, tabs_or_space);
      lands = λ m. cc (along_front m w [] are (inl refl), append-nil w, blanks_pass w are m (c ∷ cs));
      crosses_same = sym (blanks_cross w (c ∷ cs) are);
      clean = λ least low m. content_clean c cs content least m false;
      clean_all = λ least low m. blanks_untabbed least w (c ∷ cs) are (content_clean c cs content) m;
      white = inr (inl are.0);
      first = blank_apart b are.0;
    }

-- spaces and a token
pub token_behind : {colon : Bool} {indent : ℕ} (n : ℕ) (c : ℕ) (cs : List ℕ) → 1 ≤ n → IsContentStart c
    → IsBehindIndicator colon indent (spaces n ++ (c ∷ cs))
token_behind n c cs some content =
    blanks_behind (spaces n) c cs (spaces_are_blank n) (some_spaces n some) content (rw (no_tab n) refl)
    (λ _. rw (some_space n some) refl)
  where
    some_spaces : (n : ℕ) → 1 ≤ n → spaces n ≢ []
    some_spaces n h = grind arith

    no_tab : (n : ℕ) → list_any (λ b. b == tab) (spaces n) ≡ false
    no_tab zero = refl
    no_tab (suc n) = no_tab n

    some_space : (n : ℕ) → 1 ≤ n → list_all (λ b. b == tab) (spaces n) ≡ false
    some_space n h = grind arith

-- The rest of a line, and its break. Blanks and a comment are in front, whatever the indicator: of the first character
-- and of tabs nothing is asked, since no token is on the line. The next line is clean by premise.
pub line_behind : {colon : Bool} {indent : ℕ} (rest o : List ℕ) → IsLineRest rest → IsCleanIn indent o
    → IsBehindIndicator colon indent (rest ++ (line_feed ∷ o))
line_behind rest o (blanks, comment, are, k, e) clean =
    let c = behind_is blanks comment k in
    let text : rest ++ (10 ∷ o) ≡ blanks ++ (comment ++ (10 ∷ o)) = cc (append_assoc blanks comment (10 ∷ o)) in
    let skipped = line_end_skipped (rest ++ (10 ∷ [])) (rest, (blanks, comment, are, k, e), refl) in
    let whole : rest ++ (10 ∷ o) ≡ (rest ++ (10 ∷ [])) ++ o = sym (append_assoc rest (10 ∷ []) o) in
    record {
      blanks = blanks;
      comment = comment;
      more = 10 ∷ o;
      is = text;
      are = are;
      parts = k;
      stops = line_stops comment (10 ∷ o) (inr refl);
      dash = and_false (found_tabs (found_blanks Yes (rest ++ (10 ∷ o))));
      word = λ _. and_false (not (has_valid_yaml_ws (found_blanks Yes (rest ++ (10 ∷ o)))));
      lands = λ m. cc (
        along_front m blanks comment are c,
        append_assoc blanks comment (10 ∷ o),
        front_past 0 m (blanks ++ comment) blanks comment (10 ∷ o) (λ y. (blanks_past 0 blanks are m (omega arith)).is
            y) c refl (inr refl),
      );
      crosses_same = sym (ap crosses text ∙ rest_crosses blanks comment o are c);
      clean = λ least low m. clean least low (next_line m 1) true;
      clean_all = λ least low m. cc (skipped_untabbed least (rest ++ (10 ∷ [])) o skipped (clean least low) m false);
      white = inr (rw text (white_line blanks comment o are k));
      first = rest_first rest (10 ∷ o) (blanks, comment, are, k, e) (inr refl);
    }

-- The same at the text's end, where no line follows.
pub last_behind : {colon : Bool} {indent : ℕ} (rest : List ℕ) → IsLineRest rest → IsBehindIndicator colon indent rest
last_behind rest (blanks, comment, are, k, e) =
    let c = behind_is blanks comment k in
    let text : rest ≡ blanks ++ (comment ++ []) = cc (append-nil comment) in
    record {
      blanks = blanks;
      comment = comment;
      more = [];
      is = text;
      are = are;
      parts = k;
      stops = line_stops comment [] (inl refl);
      dash = and_false (found_tabs (found_blanks Yes rest));
      word = λ _. and_false (not (has_valid_yaml_ws (found_blanks Yes rest)));
      lands = λ m. cc (
        along_front m blanks comment are c,
        append_assoc blanks comment [],
        front_past 0 m (blanks ++ comment) blanks comment [] (λ y. (blanks_past 0 blanks are m (omega arith)).is y) c
            refl (inl refl),
      );
      crosses_same = sym (ap crosses text ∙ last_crosses blanks comment are c);
      clean = λ least low m. refl;
      clean_all = λ least low m. cc (last_clean least blanks comment are c m);
      white = rw text (white_last blanks comment are k);
      first = cc (append-nil rest, rest_first rest [] (blanks, comment, are, k, e) (inl refl));
    }

pub eol_behind : {colon : Bool} {indent : ℕ} (t o : List ℕ) → IsEol t o → IsCleanIn indent o
    → IsBehindIndicator colon indent (t ++ o)
eol_behind {colon} {indent} t o (inl (rest, h, is)) clean =
    rw (is, append_assoc rest (10 ∷ []) o) (line_behind rest o h clean)
eol_behind {colon} {indent} t o (inr (h, e)) clean = rw (e, append-nil t) (last_behind t h)

-- after the end of a line
pub line_end_behind : {colon : Bool} {indent : ℕ} (t o : List ℕ) → IsLineEnd t → IsCleanIn indent o
    → IsBehindIndicator colon indent (t ++ o)
line_end_behind t o h clean = eol_behind t o (inl h) clean
