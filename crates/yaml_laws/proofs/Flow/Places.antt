-- Places after the pieces of a text, and pieces that no document marker begins a line of.
use Rattle.yaml_laws.proofs.Common.{◌≡◌, ℕ, ◌+◌, ◌≤◌, Bool, false, List, [], ◌∷◌, ◌++◌, length, refl, sym, ap, ◌∙◌, arith, append_assoc, ◌&&◌, ◌==◌, not, if◌then◌else◌, length-append, line_feed, is_document_indicator, Marker, along, next_line, AreIn, along_none, or_parts, or_from, front_in, back_in}
use Rattle.yaml_laws.proofs.Flow.States.{moved, marks_line, IsClear}

-- after one character
abbrev pub behind_character : Marker → ℕ → Marker
behind_character m c = if c == line_feed then next_line m 1 else along m 1

pub moved_append : (m : Marker) (a b : List ℕ) → moved m (a ++ b) ≡ moved (moved m a) b
moved_append m [] b = refl
moved_append m (c ∷ cs) b = moved_append (behind_character m c) cs b

one_index : (m : Marker) (c : ℕ) → (behind_character m c).index ≡ m.index + 1
one_index m c = grind arith

pub moved_index : (m : Marker) (p : List ℕ) → (moved m p).index ≡ m.index + length p
moved_index m [] = omega arith
moved_index m (c ∷ cs) = omega (arith, moved_index (behind_character m c) cs, one_index m c)

pub moved_count : (m : Marker) (p o : List ℕ) → (moved m p).index + length o ≡ m.index + length (p ++ o)
moved_count m p o = grind (arith, moved_index, length-append)

-- on one line
pub moved_along : (m : Marker) (p : List ℕ) → AreIn (λ c. not (c == line_feed)) p → moved m p ≡ along m (length p)
moved_along m [] h = sym (along_none m)
moved_along m (c ∷ cs) h = grind (arith, moved_along (along m 1) cs h.1)

-- what is right of a column goes on there
pub right_along : (column : ℕ) (m : Marker) (p : List ℕ) → AreIn (λ c. not (c == line_feed)) p → column ≤ m.col
    → column ≤ (moved m p).col
right_along column m p h low = grind (arith, moved_along)

pub right_one : (column : ℕ) (m : Marker) (c : ℕ) → (c == line_feed) ≡ false → column ≤ m.col
    → column ≤ (moved m (c ∷ [])).col
right_one column m c h low = right_along column m (c ∷ []) (ap not h, tt) low

-- ## Clear pieces

front_unmarked : (at_start : Bool) (a b o : List ℕ) → marks_line at_start (a ++ b) o ≡ false
    → marks_line at_start a (b ++ o) ≡ false
front_unmarked at_start [] b o h = refl
front_unmarked at_start (c ∷ cs) b o h =
    let n = or_parts (at_start && is_document_indicator (c ∷ ((cs ++ b) ++ o)))
    (marks_line (c == line_feed) (cs ++ b) o) h in
    or_from (at_start && is_document_indicator (c ∷ (cs ++ (b ++ o)))) (marks_line (c == line_feed) cs (b ++ o))
    (ap (λ (t : List ℕ). at_start && is_document_indicator (c ∷ t)) (sym (append_assoc cs b o)) ∙ n.0)
    (front_unmarked (c == line_feed) cs b o n.1)

one_column : (m : Marker) (c : ℕ) → ((behind_character m c).col == 0) ≡ (c == line_feed)
one_column m c = grind arith

back_unmarked : (m : Marker) (a b o : List ℕ) → marks_line (m.col == 0) (a ++ b) o ≡ false
    → marks_line ((moved m a).col == 0) b o ≡ false
back_unmarked m [] b o h = h
back_unmarked m (c ∷ cs) b o h =
    let n = or_parts ((m.col == 0) && is_document_indicator (c ∷ ((cs ++ b) ++ o)))
    (marks_line (c == line_feed) (cs ++ b) o) h in
    back_unmarked (behind_character m c) cs b o (ap (λ (q : Bool). marks_line q (cs ++ b) o) (one_column m c) ∙ n.1)

-- A piece of two parts is clear where both are.
pub clear_front : (m : Marker) (a b o : List ℕ) → IsClear m (a ++ b) o → IsClear m a (b ++ o)
clear_front m a b o h = search (front_in, front_unmarked)

pub clear_back : (m : Marker) (a b o : List ℕ) → IsClear m (a ++ b) o → IsClear (moved m a) b o
clear_back m a b o h = search (back_in, back_unmarked)

pub clear_here : (m : Marker) (c : ℕ) (cs o : List ℕ) → IsClear m (c ∷ cs) o
    → ((m.col == 0) && is_document_indicator (c ∷ (cs ++ o))) ≡ false
clear_here m c cs o h = grind arith
