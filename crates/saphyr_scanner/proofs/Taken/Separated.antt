-- What is passed between two tokens is separation.
use Rattle.saphyr_scanner.proofs.Common.{◌≡◌, ℕ, ◌+◌, ◌≤◌, ◌<◌, ◌⊎◌, Bool, true, false, List, [], ◌∷◌, ◌++◌, length, drop, Result, Ok, Err, IsTrue, IsFalse, refl, sym, ap, ◌∙◌, arith, subst, inl, inr, ◌&&◌, ◌||◌, ◌==◌, slice_index, not, is_bom, is_blank, is_break, is_yaml_non_break, is_z, carriage_return, line_feed, Marker, Refusal, Cursor, along, next_line, break_len, AreIn, along_more, eqb-true, and_parts, or_cases, number_sign, by_test, or_false_left, or_false_right, Given}
use Rattle.saphyr_scanner.specs.Steps.Gap.{Gap, GapEnd, end_of_gap, end_of_gap_in_comment, gap_here, gap_at, is_passed_blank, stop, whole_gap, spaces_at, is_tab_indentation}
use Rattle.saphyr_scanner.specs.TokensTaken as taken
use Rattle.saphyr_scanner.specs.TokensTaken.{IsPassedOver, IsReached, AreApart, begins_text}
use Rattle.saphyr_scanner.proofs.Gaps.{break_is_no_gap_blank, break_is_no_sign, gap_blank_is_blank, passes_no_feed}
use Rattle.saphyr_scanner.proofs.Reached.{apart_reached}
use Rattle.saphyr_scanner.proofs.Taken.Later.{top}

pub apart_apart : (m : Marker) (t : List ℕ) (n : Marker) (u : List ℕ) (k : Marker) (v : List ℕ) → IsPassedOver m t n u
    → IsPassedOver n u k v → IsPassedOver m t k v
apart_apart _ _ _ _ k v (taken.nothing m t) q = q
apart_apart _ _ _ _ k v (taken.blank m c t n u e p) q = taken.blank m c t k v e (apart_apart (along m 1) t n u k v p q)
apart_apart _ _ _ _ k v (taken.line_break m t n u e p) q =
    taken.line_break m t k v e (apart_apart (next_line m (break_len t)) (drop (break_len t) t) n u k v p q)
apart_apart _ _ _ _ k v (taken.comment m words t n u a e p) q =
    taken.comment m words t k v a e (apart_apart (along m (1 + length words)) t n u k v p q)

-- a separation that ends where a gap does
abbrev To : Gap → Marker → List ℕ → Type 0
To g m t = IsPassedOver m t g.cursor.mark g.cursor.rest

-- inside a comment, from after its first characters on
record InComment (g : Gap) (m : Marker) (t : List ℕ) : Type 0 where
  words : List ℕ
  behind : List ℕ
  is : t ≡ words ++ behind
  are : AreIn is_yaml_non_break words
  ends : IsFalse (is_yaml_non_break (slice_index behind 0))
  goes_on : To g (along m (length words)) behind

comment_here : (g : Gap) (m : Marker) (t : List ℕ) → IsFalse (is_yaml_non_break (slice_index t 0)) → To g m t
    → InComment g m t
comment_here g m t e p = grind arith

comment_more : (g : Gap) (m : Marker) (c : ℕ) (t : List ℕ) → IsTrue (is_yaml_non_break c)
    → InComment g (along m 1) t → InComment g m (c ∷ t)
comment_more g m c t e w =
    record {
      words = c ∷ w.words;
      behind = w.behind;
      is = ap (λ l. c ∷ l) w.is;
      are = (e, w.are);
      ends = w.ends;
      goes_on = rw (along_more m 1 (length w.words) (length (c ∷ w.words)) (omega arith)) at w.goes_on;
    }

comment_whole : (g : Gap) (m : Marker) (c : ℕ) (t : List ℕ) → c ≡ number_sign → InComment g (along m 1) t
    → To g m (c ∷ t)
comment_whole g m c t e w =
    let p = taken.comment m w.words w.behind g.cursor.mark g.cursor.rest w.are w.ends
    (rw (along_more m 1 (length w.words) (1 + length w.words) refl) at w.goes_on) in
    rw (ap (λ l. 35 ∷ l) (sym w.is) ∙ ap (λ d. d ∷ t) (sym e)) at p

-- a break that is no CR before LF
single_break : (g : Gap) (m : Marker) (c : ℕ) (t : List ℕ) → is_break c ≡ true
    → ((c == carriage_return) && (slice_index t 0 == line_feed)) ≡ false → To g (next_line m 1) t → To g m (c ∷ t)
single_break g m c t b e p =
    let one : break_len (c ∷ t) ≡ 1 = rw e refl in
    taken.line_break m (c ∷ t) g.cursor.mark g.cursor.rest b (rw one p)

-- CR LF, whose CR was passed
crlf_break : (g : Gap) (k : Marker) (t : List ℕ) → To g (next_line (along k 1) 1) t
    → To g k (carriage_return ∷ line_feed ∷ t)
crlf_break g k t p =
    let i : k.index + 1 + 1 ≡ k.index + 2 = omega arith in
    let same : next_line (along k 1) 1 ≡ next_line k 2 = rw i refl in
    taken.line_break k (13 ∷ 10 ∷ t) g.cursor.mark g.cursor.rest refl (rw same at p)

-- That a gap passes blanks, breaks and comments alone, whatever it asks of tabs. From this follow that it is counted,
-- which places it reaches, and that a refusal is at one of them, so the recursion over a gap is walked once. It goes on
-- character by character, and what is shown takes a comment and CR LF at once. So three things are shown together:
-- between tokens, in a comment, whose first words were passed, and after the CR of a CR LF.
record Gaps (tabs : Bool) (l : ℕ) (t : List ℕ) (m : Marker) (blank met tabbed : Bool) : Type 0 where
  between : To (end_of_gap tabs l m blank met tabbed t) m t
  inside : InComment (end_of_gap_in_comment tabs l m blank met tabbed t) m t
  behind_return : (slice_index t 0 == line_feed) ≡ true → (k : Marker) → m ≡ along k 1
      → To (end_of_gap tabs l m blank met tabbed t) k (carriage_return ∷ t)

all_gaps : (tabs : Bool) (l : ℕ) (t : List ℕ) (m : Marker) (blank met tabbed : Bool)
    → Gaps tabs l t m blank met tabbed
all_gaps tabs l [] m blank met tabbed =
    record {
      between = taken.nothing m [];
      inside = comment_here (gap_here m blank met tabbed []) m [] refl (taken.nothing m []);
      behind_return = λ e k q. absurd (cc);
    }
all_gaps tabs l (c ∷ cs) m blank met tabbed =
    let P : Gap → Type 0 = λ g. To g m (c ∷ cs) in
    let Q : Gap → Type 0 = λ g. InComment g m (c ∷ cs) in
    let fresh = all_gaps tabs l cs (next_line m 1) true true false in
    let on = all_gaps tabs l cs (along m 1) blank met tabbed in
    let further = all_gaps tabs l cs (along m 1) blank (not tabs || met) in
    let next = end_of_gap tabs l (next_line m 1) true true false cs in
    let line : ((c == 13) && (slice_index cs 0 == 10)) ≡ false → is_break c ≡ true → P next =
    λ e b. single_break next m c cs b e fresh.between in
    let return : (x : Bool) → ((c == 13) && (slice_index cs 0 == 10)) ≡ true
    → P (end_of_gap tabs l (along m 1) blank (not tabs || met) x cs) = λ x e.
    let f = and_parts (c == 13) (slice_index cs 0 == 10) e in
    rw (eqb-true c 13 f.0) ((further x).behind_return f.1 m refl) in
    let indented = is_tab_indentation l m blank c || tabbed in
    let here : P (gap_here m blank met tabbed (c ∷ cs)) = taken.nothing m (c ∷ cs) in
    record {
      between = by_test (is_passed_blank tabs c || ((c == 13) && (slice_index cs 0 == 10))) _ _ P
          (λ e. elim (or_cases (is_passed_blank tabs c) ((c == 13) && (slice_index cs 0 == 10)) e) [
            | inl b ↦ taken.blank m c cs _ _ (gap_blank_is_blank tabs c b) (further indented).between
            | inr r ↦ return indented r
          ])
          (λ e. by_test (is_break c) _ _ P
          (λ b. line (or_false_right (is_passed_blank tabs c) ((c == 13) && (slice_index cs 0 == 10)) e) b)
          (λ _. by_test (c == 35) _ _ P (λ s. comment_whole _ m c cs (eqb-true c 35 s) on.inside) (λ _. here)));
      inside = by_test (is_yaml_non_break c) _ _ Q (λ e. comment_more _ m c cs e on.inside)
          (λ n. by_test ((c == 13) && (slice_index cs 0 == 10)) _ _ Q
          (λ r. comment_here _ m (c ∷ cs) n (return tabbed r))
          (λ e. by_test (is_break c) _ _ Q (λ b. comment_here _ m (c ∷ cs) n (line e b))
          (λ _. comment_here _ m (c ∷ cs) n here)));
      behind_return = λ e k q. fed c (eqb-true c 10 e) k q fresh.between;
    }
  where
    fed : (d : ℕ) → d ≡ line_feed → (k : Marker) → m ≡ along k 1
        → To (end_of_gap tabs l (next_line m 1) true true false cs) (next_line m 1) cs
        → To (end_of_gap tabs l m blank met tabbed (d ∷ cs)) k (carriage_return ∷ d ∷ cs)
    fed d e k q h =
        let g = end_of_gap tabs l (next_line m 1) true true false cs in
        rw (e, passes_no_feed tabs) (crlf_break g k cs (subst (λ (j : Marker). To g (next_line j 1) cs) q h))

pub gap_lies : (tabs : Bool) (l : ℕ) (met tabbed : Bool) (s : Cursor) → AreApart s (gap_at tabs l met tabbed s).cursor
gap_lies tabs l met tabbed s = (all_gaps tabs l s.rest s.mark s.blank_so_far met tabbed).between

-- ## Where it is refused, and where it is not

pub gap_given : (P : GapEnd → Type 0) (g : Gap) → P (record { cursor = g.cursor; broke = g.met }) → Given P (stop g)
unfolding stop
gap_given P g h = by_test (g.tabbed && is_bom (slice_index g.cursor.rest 0)) _ _ (Given P) (λ _. tt)
    (λ _. by_test (g.tabbed && not (is_z (slice_index g.cursor.rest 0))) _ _ (Given P) (λ _. tt) (λ _. h))

pub gap_apart : (l : ℕ) (s : Cursor) → Given (λ (p : GapEnd). AreApart s p.cursor) (whole_gap l s)
gap_apart l s = gap_given _ (gap_at true l false false s) (gap_lies true l false false s)

pub spaces_apart : (space : Bool) (s : Cursor) → AreApart s (spaces_at space s).cursor
spaces_apart space s = gap_lies false 0 space false s

-- a refusal, if there is one, is at a place on the way from m
abbrev pub Refused : Marker → List ℕ → Result GapEnd Refusal → Type 0
Refused m t (Ok p) = Unit {0}
Refused m t (Err e) = (u : List ℕ) × IsReached m t e.mark u

pub gap_refused : (l : ℕ) (s : Cursor) → Refused s.mark s.rest (whole_gap l s)
unfolding stop
gap_refused l s =
    let g = gap_at true l false false s in
    let P = Refused s.mark s.rest in
    let at : (u : List ℕ) × IsReached s.mark s.rest g.cursor.mark u =
    (g.cursor.rest, apart_reached s.mark s.rest g.cursor.mark g.cursor.rest (gap_lies true l false false s)) in
    by_test (g.tabbed && is_bom (slice_index g.cursor.rest 0)) _ _ P (λ _. at)
    (λ _. by_test (g.tabbed && not (is_z (slice_index g.cursor.rest 0))) _ _ P (λ _. at) (λ _. tt))

-- ## After it a text begins, on a later line if a break was passed and else on the same

-- of a place that is reached, where not too many lines were counted
abbrev pub Breaks : Marker → Bool → GapEnd → Type 0
Breaks m broke p = m.line ≤ top → (m.line ≤ p.cursor.mark.line) × (p.cursor.mark.line ≤ top)
    × (p.broke ≡ true → p.cursor.mark.line < top → (broke ≡ true) ⊎ (m.line < p.cursor.mark.line))
    × (broke ≡ true → p.broke ≡ true) × (p.broke ≡ false → p.cursor.mark.line ≡ m.line)

abbrev Ends : Marker → Bool → Gap → Type 0
Ends m broke g = IsTrue (begins_text (slice_index g.cursor.rest 0)) × Breaks m broke
    (record { cursor = g.cursor; broke = g.met })

-- between tokens, and in a comment: both at once, since both are known of the same gap
record Ended (l : ℕ) (t : List ℕ) (m : Marker) (blank met tabbed : Bool) : Type 0 where
  between : Ends m met (end_of_gap true l m blank met tabbed t)
  inside : Ends m met (end_of_gap_in_comment true l m blank met tabbed t)

here_ends : (m : Marker) (blank met tabbed : Bool) (t : List ℕ) → is_blank (slice_index t 0) ≡ false
    → is_break (slice_index t 0) ≡ false → (slice_index t 0 == number_sign) ≡ false
    → Ends m met (gap_here m blank met tabbed t)
here_ends m blank met tabbed t b k s = (rw (b, k, s) refl, grind arith)

line_ends : (m : Marker) (met : Bool) (g : Gap) → Ends (next_line m 1) true g → Ends m met g
line_ends m met g h = (
  h.0,
  λ small. let k = h.1 (omega arith) in (
    omega (arith, k.0, small),
    k.1,
    (λ _ s. inr (omega (arith, k.0, s))),
    (λ _. k.3 refl),
    λ f. absurd (let e = k.3 refl in cc),
  ),
)

all_end : (l : ℕ) (t : List ℕ) (m : Marker) (blank met tabbed : Bool) → Ended l t m blank met tabbed
all_end l [] m blank met tabbed =
    let h = here_ends m blank met tabbed [] refl refl refl in record { between = h; inside = h }
all_end l (c ∷ cs) m blank met tabbed =
    let next = end_of_gap true l (next_line m 1) true true false cs in
    let line = line_ends m met next (all_end l cs (next_line m 1) true true false).between in
    let on = all_end l cs (along m 1) blank met in
    record {
      between = by_test (is_blank c || ((c == 13) && (slice_index cs 0 == 10))) _ _ (Ends m met)
          (λ _. (on (is_tab_indentation l m blank c || tabbed)).between)
          (λ e. by_test (is_break c) _ _ (Ends m met) (λ _. line)
          (λ k. by_test (c == 35) _ _ (Ends m met) (λ _. (on tabbed).inside)
          (λ s. here_ends m blank met tabbed (c ∷ cs)
          (or_false_left (is_blank c) ((c == 13) && (slice_index cs 0 == 10)) e) k s)));
      inside = by_test (is_yaml_non_break c) _ _ (Ends m met) (λ _. (on tabbed).inside)
          (λ n. by_test ((c == 13) && (slice_index cs 0 == 10)) _ _ (Ends m met) (λ _. (on tabbed).between)
          (λ _. by_test (is_break c) _ _ (Ends m met) (λ _. line)
          (λ k. here_ends m blank met tabbed (c ∷ cs) (break_is_no_gap_blank true c n) k (break_is_no_sign c n))));
    }

abbrev pub BeginsText : GapEnd → Type 0
BeginsText p = IsTrue (begins_text (slice_index p.cursor.rest 0))

pub gap_begins : (l : ℕ) (s : Cursor) → Given BeginsText (whole_gap l s)
gap_begins l s = gap_given _ _ (all_end l s.rest s.mark s.blank_so_far false false).between.0

pub gap_breaks : (l : ℕ) (s : Cursor) → Given (Breaks s.mark false) (whole_gap l s)
gap_breaks l s = gap_given _ _ (all_end l s.rest s.mark s.blank_so_far false false).between.1
