-- Whether a break is ahead, before what is passed and after it.
use Rattle.std.proofs.Common.{◌≡◌, ℕ, Bool, true, false, List, [], ◌∷◌, ◌++◌, slice_index, refl, ap, ◌∙◌, append_assoc, inl, inr}
use Rattle.yaml_laws.proofs.Common.{◌||◌, if◌then◌else◌, is_blank, is_break, line_feed, is_blank_or_break, Marker, spaces, Cursor, along, next_line, ends_line, past_white, AreEach, joined_pieces, IsSeparation, IsSeparationLine, IsLineRest, Candidate, Context, Option, is_block, clash}
use Rattle.yaml_laws.proofs.Flow.States.{crosses, Holds, IsFresh}
use Rattle.yaml_laws.proofs.InFlow.States.{Around}
use Rattle.yaml_laws.proofs.Flow.Fillers.{EndsLine, behind_is}
use Rattle.yaml_laws.proofs.InBlock.Skips.{blanks_cross, rest_crosses, last_crosses}

-- inside flow nothing is asked
pub fresh_in_flow : (x : Context) (o : List ℕ) (allowed : Bool) (there : Cursor) → is_block x ≡ false
    → IsFresh x o allowed there
fresh_in_flow x o allowed there flow b e = absurd (clash (is_block x) b flow)

pub holds_in_flow : {around : Around} {x : Context} {key : Option Candidate} {allowed : Bool} {there : Cursor}
    {m : Marker} {o : List ℕ} → is_block x ≡ false → Holds around x key allowed there m o
holds_in_flow {x = x} flow = record { so = λ k held block. absurd (clash (is_block x) block flow) }

-- a break after separation is one after what comes before it
pub separation_crosses : (indent : ℕ) (w o : List ℕ) → IsSeparation indent w → crosses o ≡ true
    → crosses (w ++ o) ≡ true
separation_crosses indent w o (lines, blanks, (pieces, each, lines_are), are, e) h = by_lines pieces each lines_are
  where
    by_lines : (ps : List (List ℕ)) → AreEach (IsSeparationLine indent) ps → lines ≡ joined_pieces ps
        → crosses (w ++ o) ≡ true
    by_lines [] each lines_are = cc (blanks_cross blanks o are)
    by_lines (p ∷ ps) ((first, comment, filler, first_are, k, filler_is, line_is), others) lines_are =
        let more = (filler ++ spaces indent) ++ (joined_pieces ps ++ (blanks ++ o)) in
        let text : w ++ o ≡ first ++ (comment ++ (10 ∷ more)) = ap (λ (t : List ℕ). t ++ o)
        (e ∙ ap (λ (t : List ℕ). t ++ blanks) lines_are
        ∙ ap (λ (t : List ℕ). (t ++ joined_pieces ps) ++ blanks) line_is) ∙ simp append_assoc in
        ap crosses text ∙ rest_crosses first comment more first_are (behind_is first comment k)

feed_crosses : (t : List ℕ) → slice_index t 0 ≡ line_feed → crosses t ≡ true
feed_crosses [] e = absurd (cc)
feed_crosses (c ∷ cs) e = rw e refl

-- after the rest of a line its break is still ahead
pub line_rest_crosses : (rest more : List ℕ) → IsLineRest rest → EndsLine more → crosses (rest ++ more) ≡ true
    → crosses more ≡ true
line_rest_crosses rest more h (inr feed) e = feed_crosses more feed
line_rest_crosses rest more (blanks, comment, are, k, is) (inl none) e =
    let text = ap (λ (t : List ℕ). rest ++ t) none ∙ ap (λ (t : List ℕ). t ++ []) is ∙ append_assoc blanks comment [] in
    absurd (clash (crosses (rest ++ more)) e
    (ap crosses text ∙ last_crosses blanks comment are (behind_is blanks comment k)))

-- a break is at the end of a line
pub content_crosses : (rest o : List ℕ) → IsLineRest rest → crosses (rest ++ (line_feed ∷ o)) ≡ true
content_crosses rest o (blanks, comment, are, k, is) =
    cc (append_assoc blanks comment (10 ∷ o), rest_crosses blanks comment o are (behind_is blanks comment k))

-- ## After a plain scalar

break_ahead : (b : Bool) (c : ℕ) (cs : List ℕ) (blank break : Bool) → is_blank c ≡ blank → is_break c ≡ break
    → (blank || break) ≡ true → (b || crosses (c ∷ cs)) ≡ true → ((b || break) || crosses cs) ≡ true
break_ahead true c cs blank break e f white h = refl
break_ahead false c cs blank true e f white h = refl
break_ahead false c cs true false e f white h = search
break_ahead false c cs false false e f white h = absurd (cc)

-- its reader has met the break, or it is still ahead
pub white_crosses : (m : Marker) (b : Bool) (o : List ℕ) → (b || crosses o) ≡ true
    → ((past_white m b o).blank_so_far || crosses (past_white m b o).rest) ≡ true
white_crosses m b [] h = h
white_crosses m b (c ∷ cs) h = by_white (is_blank_or_break c) refl
    (λ e. white_crosses (if ends_line c cs then next_line m 1 else along m 1) (b || is_break c) cs
    (break_ahead b c cs (is_blank c) (is_break c) refl refl e h))
  where
    on : Marker
    on = if ends_line c cs then next_line m 1 else along m 1

    by_white : (white : Bool) → is_blank_or_break c ≡ white → (is_blank_or_break c ≡ true
        → ((past_white on (b || is_break c) cs).blank_so_far || crosses (past_white on (b || is_break c) cs).rest)
        ≡ true)
        → ((past_white m b (c ∷ cs)).blank_so_far || crosses (past_white m b (c ∷ cs)).rest) ≡ true
    by_white true e further = rw e (further e)
    by_white false e further = rw e h
