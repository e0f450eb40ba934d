-- Blanks and a comment after a token of a text in flow style are passed, up to the end of the line.
use Rattle.std.proofs.Common.{◌≡◌, ◌≢◌, ℕ, ◌+◌, ◌<◌, ◌≤◌, Bool, true, false, List, [], ◌∷◌, ◌++◌, length, drop, slice_index, Result, Ok, Err, refl, sym, ap, ◌∙◌, arith, subst, append_assoc, append-nil, IsTrue, ◌⊎◌, inl, inr, cond}
use Rattle.yaml_laws.proofs.Common.{◌==◌, not, nat_tests, length-append, number_sign, is_blank, is_break, is_bom, is_yaml_non_break, line_feed, separation_len, found_blanks, SkipTabs, Yes, Marker, Refusal, AreIn, spaces, joined_pieces, AreEach, IsComment, IsCommentBehind, IsSeparationLine, IsSeparation, IsLineRest, blank_no_feed, non_break_no_feed, back_in, both_in, separated}
use Rattle.std.proofs.Math.Seq.{drop-append_seam}
use Rattle.saphyr_scalar.specs.Views.Cursor.{Cursor, along, separation, behind_separation}
use Rattle.saphyr_scalar.proofs.Runs.{run_len}
use Rattle.yaml_laws.proofs.Flow.States.{moved, past, IsContentStart}
use Rattle.yaml_laws.proofs.Flow.Places.{moved_along}
use Rattle.yaml_laws.proofs.Flow.Fillers.{EndsLine, blanks_past, front_past, behind_is}

-- what ends blanks and a comment, or blanks alone
pub record StopsLine (comment more : List ℕ) : Type 0 where
  pub mark : is_bom (slice_index more 0) ≡ false
  pub blank : comment ≡ [] → is_blank (slice_index more 0) ≡ false
  pub sign : comment ≡ [] → (slice_index more 0 == number_sign) ≡ false
  pub word : comment ≢ [] → is_yaml_non_break (slice_index more 0) ≡ false

pub line_stops : (comment more : List ℕ) → EndsLine more → StopsLine comment more
line_stops comment more h = grind (arith)

pub content_stops : (c : ℕ) (cs : List ℕ) → IsContentStart c → StopsLine [] (c ∷ cs)
content_stops c cs h = grind arith

blank_no_sign : (c : ℕ) → is_blank c ≡ true → (c == number_sign) ≡ false
blank_no_sign c h = grind (arith, nat_tests)

starts_white : (blanks comment more : List ℕ) → AreIn is_blank blanks → IsCommentBehind blanks comment
    → StopsLine comment more → (slice_index (blanks ++ (comment ++ more)) 0 == number_sign) ≡ false
starts_white (c ∷ cs) comment more are k h = blank_no_sign c are.0
starts_white [] comment more are (inl e) h = ap (λ (t : List ℕ). slice_index (t ++ more) 0 == 35) e ∙ h.sign e
starts_white [] comment more are (inr k) h = absurd (k.0 refl)

none_or_some : (n k : ℕ) → (k ≡ 0) ⊎ (0 < n) → cond (n == 0) 0 (n + k) ≡ n + k
none_or_some n k (inl e) = grind arith
none_or_some n k (inr h) = grind (arith, nat_tests)

parted : (blanks comment : List ℕ) → IsCommentBehind blanks comment → (length comment ≡ 0) ⊎ (0 < length blanks)
parted blanks comment (inl e) = inl (ap length e)
parted [] comment (inr k) = absurd (k.0 refl)
parted (c ∷ cs) comment (inr k) = inr (omega arith)

counts : (blanks comment more : List ℕ) → AreIn is_blank blanks → IsCommentBehind blanks comment
    → StopsLine comment more → separation_len Yes (blanks ++ (comment ++ more)) ≡ length (blanks ++ comment)
counts blanks comment more are k h = grind (arith, run_len, drop-append_seam, none_or_some, parted, length-append)

-- blanks and a comment, or none
pub line_separated : (s : Cursor) (blanks comment more : List ℕ) → s.rest ≡ blanks ++ (comment ++ more)
    → AreIn is_blank blanks → IsCommentBehind blanks comment → StopsLine comment more → separation Yes s ≡ Ok (
      found_blanks Yes s.rest,
      record { rest = more; mark = along s.mark (length (blanks ++ comment)); blank_so_far = s.blank_so_far },
    )
unfolding separation
line_separated s blanks comment more is are k h =
    let n = separation_len Yes s.rest in
    let count : n ≡ length (blanks ++ comment) = ap (separation_len Yes) is ∙ counts blanks comment more are k h in
    let text : s.rest ≡ (blanks ++ comment) ++ more = is ∙ sym (append_assoc blanks comment more) in
    let left : drop n s.rest ≡ more = cc (drop-append_seam (blanks ++ comment) more) in
    let there : Cursor = record {
      rest = more;
      mark = along s.mark (length (blanks ++ comment));
      blank_so_far = s.blank_so_far;
    } in
    ap (behind_separation Yes s.rest) (rw (left, count) refl)
    ∙ separated s.rest there (ap (λ (x : List ℕ). slice_index x 0 == 35) is ∙ starts_white blanks comment more are k h)
    h.mark

-- ## Where the places are

within : (p q : ℕ → Bool) → ((c : ℕ) → IsTrue (p c) → IsTrue (q c)) → (t : List ℕ) → AreIn p t → AreIn q t
within p q f [] h = tt
within p q f (c ∷ cs) h = (f c h.0, within p q f cs h.1)

comment_on_line : (comment : List ℕ) → (comment ≡ []) ⊎ IsComment comment → AreIn (λ c. not (c == line_feed)) comment
comment_on_line comment h = grind (arith, within, non_break_no_feed)

pub blanks_moved : (m : Marker) (w : List ℕ) → AreIn is_blank w → moved m w ≡ along m (length w)
blanks_moved m w h = moved_along m w (within is_blank (λ c. not (c == line_feed)) blank_no_feed w h)

pub front_moved : (m : Marker) (blanks comment : List ℕ) → AreIn is_blank blanks → (comment ≡ []) ⊎ IsComment comment
    → moved m (blanks ++ comment) ≡ along m (length (blanks ++ comment))
front_moved m blanks comment h k = search (moved_along, both_in, within, blank_no_feed, comment_on_line)

-- ## What is passed before the character that begins a token

-- after a token, where y comes after the separation w
pub record Separates (column : ℕ) (s : Cursor) (w y : List ℕ) : Type 0 where
  pub found : SkipTabs
  pub there : Cursor
  pub is : separation Yes s ≡ Ok (found, there)
  pub lands : past column there.mark there.rest ≡ past column s.mark s.rest
  pub ends : (is_break (slice_index there.rest 0) ≡ true) ⊎ (there.rest ≡ y)
  pub near : AreIn is_blank w → (there.rest ≡ y) × (there.mark ≡ moved s.mark w)

separates_on_line : (column : ℕ) (s : Cursor) (blanks : List ℕ) (c : ℕ) (cs : List ℕ) → s.rest ≡ blanks ++ (c ∷ cs)
    → AreIn is_blank blanks → column ≤ s.mark.col → IsContentStart c → Separates column s blanks (c ∷ cs)
separates_on_line column s blanks c cs is are low content =
    let mark : along s.mark (length (blanks ++ [])) ≡ moved s.mark blanks =
    ap (λ (t : List ℕ). along s.mark (length t)) (append-nil blanks) ∙ sym (blanks_moved s.mark blanks are) in
    record {
      found = found_blanks Yes s.rest;
      there = record { rest = c ∷ cs; mark = along s.mark (length (blanks ++ [])); blank_so_far = s.blank_so_far };
      is = line_separated s blanks [] (c ∷ cs) is are (inl refl) (content_stops c cs content);
      lands = ap (λ (m : Marker). past column m (c ∷ cs)) mark
          ∙ sym (ap (past column s.mark) is ∙ (blanks_past column blanks are s.mark low).is (c ∷ cs));
      ends = inr refl;
      near = λ _. (refl, mark);
    }

abbrev reached : Cursor → Result (SkipTabs × Cursor) Refusal → Cursor
reached c (Ok x) = x.1
reached c (Err e) = c

-- what blanks before a token give is one place
pub blanks_separated : (column : ℕ) (s : Cursor) (found : SkipTabs) (there : Cursor)
    → separation Yes s ≡ Ok (found, there)
    → (w : List ℕ) (c : ℕ) (cs : List ℕ) → s.rest ≡ w ++ (c ∷ cs) → AreIn is_blank w → column ≤ s.mark.col
    → IsContentStart c → (there.rest ≡ c ∷ cs) × (there.mark ≡ moved s.mark w)
blanks_separated column s found there is w c cs text are low content =
    let p = separates_on_line column s w c cs text are low content in
    let same : there ≡ p.there = ap (reached there) (sym is ∙ p.is) in
    let near = p.near are in
    (ap (λ (x : Cursor). x.rest) same ∙ near.0, ap (λ (x : Cursor). x.mark) same ∙ near.1)

-- up to a line's end
pub line_rest : (s : Cursor) (blanks comment more : List ℕ) → s.rest ≡ blanks ++ (comment ++ more)
    → AreIn is_blank blanks → IsCommentBehind blanks comment → EndsLine more → (found : SkipTabs) × (separation Yes s
    ≡ Ok (found, record { rest = more; mark = moved s.mark (blanks ++ comment); blank_so_far = s.blank_so_far }))
line_rest s blanks comment more is are k ends =
    let mark = front_moved s.mark blanks comment are (behind_is blanks comment k) in (
      found_blanks Yes s.rest,
      grind (arith, line_separated, line_stops),
    )

pub separates_rest : (s : Cursor) (rest more : List ℕ) → s.rest ≡ rest ++ more → IsLineRest rest → EndsLine more
    → (found : SkipTabs) × (separation Yes s
    ≡ Ok (found, record { rest = more; mark = moved s.mark rest; blank_so_far = s.blank_so_far }))
separates_rest s rest more is (front, comment, blank, k, e) ends =
    let text : s.rest ≡ front ++ (comment ++ more) = cc (append_assoc front comment more) in
    let r = line_rest s front comment more text blank k ends in (
      r.0,
      grind (arith, moved),
    )

over_lines : (column : ℕ) (s : Cursor) (w blanks comment more : List ℕ) (c : ℕ) (cs : List ℕ)
    → s.rest ≡ blanks ++ (comment ++ (line_feed ∷ more)) → w ++ (c ∷ cs) ≡ blanks ++ (comment ++ (line_feed ∷ more))
    → ¬ (AreIn is_blank w)
    → AreIn is_blank blanks → IsCommentBehind blanks comment → column ≤ s.mark.col → Separates column s w (c ∷ cs)
over_lines column s w blanks comment more c cs is text wide are k low =
    let r = line_rest s blanks comment (10 ∷ more) is are k (inr refl) in
    record {
      found = r.0;
      there = record { rest = 10 ∷ more; mark = moved s.mark (blanks ++ comment); blank_so_far = s.blank_so_far };
      is = r.1;
      lands = sym (ap (past column s.mark) (is ∙ sym (append_assoc blanks comment (10 ∷ more)))
          ∙ front_past column s.mark (blanks ++ comment) blanks comment (10 ∷ more)
          (blanks_past column blanks are s.mark low).is (behind_is blanks comment k) refl (inr refl));
      ends = inl refl;
      near = λ h. absurd (wide h);
    }

pub separates : (column : ℕ) (s : Cursor) (w : List ℕ) (c : ℕ) (cs : List ℕ) → s.rest ≡ w ++ (c ∷ cs)
    → IsSeparation column w → column ≤ s.mark.col → IsContentStart c → Separates column s w (c ∷ cs)
separates column s w c cs is (lines, blanks, (pieces, each, lines_are), are, e) low content =
    by_lines pieces each lines_are
  where
    by_lines : (pieces : List (List ℕ)) → AreEach (IsSeparationLine column) pieces → lines ≡ joined_pieces pieces
        → Separates column s w (c ∷ cs)
    by_lines [] each lines_are =
        let same : w ≡ blanks = e ∙ ap (λ (t : List ℕ). t ++ blanks) lines_are in
        subst (λ (v : List ℕ). Separates column s v (c ∷ cs)) (sym same)
        (separates_on_line column s blanks c cs (is ∙ ap (λ (t : List ℕ). t ++ (c ∷ cs)) same) are low content)
    by_lines (p ∷ ps) ((first, comment, filler, first_are, k, filler_is, line_is), others) lines_are =
        let more = (filler ++ spaces column) ++ (joined_pieces ps ++ (blanks ++ (c ∷ cs))) in
        let inside : w ≡ first ++ (comment ++ (10 ∷ ((filler ++ spaces column) ++ (joined_pieces ps ++ blanks)))) =
        e ∙ ap (λ (t : List ℕ). t ++ blanks) lines_are ∙ ap (λ (t : List ℕ). (t ++ joined_pieces ps) ++ blanks) line_is
        ∙ simp append_assoc in
        let text : w ++ (c ∷ cs) ≡ first ++ (comment ++ (10 ∷ more)) =
        ap (λ (t : List ℕ). t ++ (c ∷ cs)) inside ∙ simp append_assoc in
        let both : w ≡ (first ++ comment) ++ (10 ∷ ((filler ++ spaces column) ++ (joined_pieces ps ++ blanks))) =
        inside ∙ sym (append_assoc first comment _) in
        over_lines column s w first comment more c cs (is ∙ text) text
        (λ h. (absurd (let k : false ≡ true = (back_in is_blank (first ++ comment) (10 ∷ _) (rw both at h)).0 in cc)))
        first_are k low
