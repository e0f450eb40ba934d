-- Spaces that are taken off in one piece: after a plain scalar's word, between quotes, and before a block scalar's
-- lines.
use Rattle.saphyr_scalar.proofs.Common.{◌≡◌, ℕ, zero, suc, ◌+◌, ◌-◌, ◌^◌, ◌<◌, ◌≤◌, Bool, true, false, List, [], ◌∷◌, length, length-drop, drop, slice_index, refl, sym, ap, ◌∙◌, arith, ◌==◌, nat_lt, Option, Some, None, prefix_len, nat_tests, prefix_len-le-length, space, spaces_within, is_blank_or_break, Marker, EmptyLines, Quote, Cursor, along, pass_spaces, by_test, and_false}
use Rattle.saphyr_input.proofs.WordRuns.{run_ends}
use Rattle.saphyr_scalar.specs.Steps.Plain.{lines}
use Rattle.saphyr_scalar.specs.Steps.Quoted.{mid_line, over_lines, inner_text, inner_text_at}
use Rattle.saphyr_scalar.specs.Steps.Block.{is_indentation, indentation_left, pass_empty_lines, pass_empty_lines_at}
use Rattle.saphyr_scalar.proofs.Moving.{along_none, along_more}
use Rattle.saphyr_scalar.proofs.Plain.Lines.{lines_blank}
use Rattle.saphyr_scalar.proofs.Quoted.Lines.{line_blank}
use Rattle.saphyr_scalar.proofs.Block.Lines.{space_on}

abbrev is_space : ℕ → Bool
is_space c = c == 32

pub spaces_fit : (most : ℕ) (xs : List ℕ) → spaces_within most xs ≤ length xs
spaces_fit most xs = omega (arith, prefix_len-le-length is_space xs)

pub within_spaces : (most : ℕ) (xs : List ℕ) (n : ℕ) → n ≡ spaces_within most xs → n ≤ length xs
within_spaces most xs n is = rw is (spaces_fit most xs)

pub spaces_shorter : (most : ℕ) (s u : Cursor) → u ≡ pass_spaces most s → length u.rest ≤ length s.rest
spaces_shorter most s u e = rw (ap (λ (x : Cursor). x.rest) e, length-drop) (omega arith)

-- less is left after a turn that begins with spaces
pub turn_shorter : (n most : ℕ) (first here there : Cursor) → here ≡ pass_spaces most first → there ≡ here
    → n < length there.rest → n < length first.rest
turn_shorter n most first here there spaces same less = grind (arith, spaces_shorter)

-- What takes no notice of a space takes none of a run of them. `read m xs` is what is read at m, and `fits m` says
-- where a space goes without notice, for so many spaces.
over_run : {X : Type 0} (read : Marker → List ℕ → X) (fits : Marker → ℕ → Type 0)
    → ((m : Marker) (n : ℕ) → fits m (suc n) → fits (along m 1) n)
    → ((m : Marker) (n : ℕ) (cs : List ℕ) → fits m (suc n) → read (along m 1) cs ≡ read m (space ∷ cs))
    → (m : Marker) (n : ℕ) (xs : List ℕ) → fits m n → n ≤ prefix_len is_space xs
    → read (along m n) (drop n xs) ≡ read m xs
over_run read fits next one m zero xs f l = ap (λ x. read x xs) (along_none m)
over_run read fits next one m (suc n) [] f l = absurd (omega (arith, l))
over_run read fits next one m (suc n) (c ∷ cs) f l = by_test (c == 32) (1 + prefix_len is_space cs) 0
    (λ k. suc n ≤ k → read (along m (suc n)) (drop n cs) ≡ read m (c ∷ cs)) (λ h less.
    ap (λ x. read x (drop n cs)) (sym (along_more m 1 n (suc n) (omega arith)))
    ∙ over_run read fits next one (along m 1) n cs (next m n f) (omega (arith, less)) ∙ one m n cs f
    ∙ ap (λ x. read m (x ∷ cs)) (grind (arith, nat_tests))) (λ _ less. absurd (omega (arith, less))) l

abbrev Always : Marker → ℕ → Type 0
Always m n = Unit {0}

few : (most : ℕ) (xs : List ℕ) → spaces_within most xs ≤ prefix_len is_space xs
few most xs = omega arith

-- after a plain scalar's word

lines_space : (i : ℕ) (a : Marker) (t : Bool) (f : List ℕ) (m : Marker) (cs : List ℕ)
    → lines i a t f (along m 1) cs ≡ lines i a t f m (space ∷ cs)
lines_space i a true f m cs = sym (lines_blank i a true f m 32 cs refl)
lines_space i a false f m cs = sym (lines_blank i a false f m 32 cs refl)

pub lines_over : (i : ℕ) (a : Marker) (t : Bool) (f : List ℕ) (most : ℕ) (s u : Cursor) → u ≡ pass_spaces most s
    → lines i a t f u.mark u.rest ≡ lines i a t f s.mark s.rest
lines_over i a t f most s u e = cc (over_run (lines i a t f) Always (λ m n _. tt)
    (λ m n cs _. lines_space i a t f m cs) s.mark (spaces_within most s.rest) s.rest tt (few most s.rest))

-- the same, where a character was looked at after the spaces, and b is whether it is white
pub record LineFront (i : ℕ) (a : Marker) (t : Bool) (f : List ℕ) (s u : Cursor) (b : Bool) : Type 0 where
  pub reached : lines i a t f u.mark u.rest ≡ lines i a t f s.mark s.rest
  pub white : is_blank_or_break (slice_index u.rest 0) ≡ b
  pub blank : u.blank_so_far ≡ s.blank_so_far
  pub shorter : (n : ℕ) → n < length u.rest → n < length s.rest

pub line_front : (i : ℕ) (a : Marker) (t : Bool) (f : List ℕ) (most : ℕ) (s v u : Cursor) (c : ℕ) (b : Bool)
    → v ≡ pass_spaces most s → c ≡ slice_index v.rest 0 → u ≡ v → b ≡ is_blank_or_break c → LineFront i a t f s u b
line_front i a t f most s v u c b spaces read same is = record {
  reached = ap (λ (x : Cursor). lines i a t f x.mark x.rest) same ∙ lines_over i a t f most s v spaces;
  white = ap (λ (x : Cursor). is_blank_or_break (slice_index x.rest 0)) same ∙ ap is_blank_or_break (sym read) ∙ sym is;
  blank = ap (λ (x : Cursor). x.blank_so_far) (same ∙ spaces);
  shorter = λ n less. turn_shorter n most s v u spaces same less;
}

-- between quotes

pub inside_over_spaces : (q : Quote) (indent : ℕ) (start : Marker) (escaped : Bool) (k most : ℕ) (s u : Cursor)
    → u ≡ pass_spaces most s
    → inner_text_at q indent start (over_lines escaped k) u ≡ inner_text_at q indent start (over_lines escaped k) s
inside_over_spaces q indent start escaped k most s u e = ap (inner_text_at q indent start (over_lines escaped k)) e
    ∙ over_run (inner_text q indent start (over_lines escaped k) 0) Always (λ m n _. tt)
    (λ m n cs _. line_blank q indent start escaped k (mid_line m (32 ∷ cs)) refl refl) s.mark
    (spaces_within most s.rest) s.rest tt (few most s.rest)

-- before a block scalar's lines

abbrev FitsLimit : Option ℕ → Marker → ℕ → Type 0
FitsLimit None m n = Unit {0}
FitsLimit (Some limit) m n = n ≤ limit - m.col

fits_next : (limit : Option ℕ) (m : Marker) (n : ℕ) → FitsLimit limit m (suc n) → FitsLimit limit (along m 1) n
fits_next None m n f = tt
fits_next (Some limit) m n f = omega (arith, f)

indented : (limit : Option ℕ) (m : Marker) (n : ℕ) → FitsLimit limit m (suc n) → is_indentation limit m.col 32 ≡ true
indented limit m n f = grind arith

fits_left : (limit : Option ℕ) (m : Marker) (xs : List ℕ)
    → FitsLimit limit m (spaces_within (indentation_left limit m.col) xs)
fits_left None m xs = tt
fits_left (Some limit) m xs = omega arith

pub empty_over : (limit : Option ℕ) (lines : EmptyLines) (left : ℕ) (s u : Cursor)
    → left ≡ indentation_left limit s.mark.col → u ≡ pass_spaces left s
    → pass_empty_lines_at limit lines u ≡ pass_empty_lines_at limit lines s
empty_over limit lines left s u room e = ap (pass_empty_lines_at limit lines) (e ∙ ap (λ n. pass_spaces n s) room)
    ∙ over_run (pass_empty_lines limit lines s.blank_so_far) (FitsLimit limit) (fits_next limit)
    (λ m n cs f. sym (space_on limit lines s.blank_so_far m 32 cs (indented limit m n f)))
    s.mark (spaces_within (indentation_left limit s.mark.col) s.rest) s.rest (fits_left limit s.mark s.rest)
    (few (indentation_left limit s.mark.col) s.rest)

-- no space of the indentation is left
left_none : (limit : Option ℕ) (m : Marker) (xs : List ℕ) → length xs < 2 ^ 64
    → is_indentation limit (m.col + spaces_within (indentation_left limit m.col) xs)
    (slice_index (drop (spaces_within (indentation_left limit m.col) xs) xs) 0) ≡ false
left_none None m xs l =
    let all : spaces_within (2 ^ 64 - 1) xs ≡ prefix_len is_space xs =
    omega (arith, l, prefix_len-le-length is_space xs) in
    rw all (run_ends is_space xs refl)
left_none (Some limit) m xs l = by_test (nat_lt (prefix_len is_space xs) (limit - m.col)) true false
    (λ _. is_indentation (Some limit) (m.col + spaces_within (limit - m.col) xs)
    (slice_index (drop (spaces_within (limit - m.col) xs) xs) 0) ≡ false) (λ h.
    let all : spaces_within (limit - m.col) xs ≡ prefix_len is_space xs = grind (arith, nat_tests) in
    rw (all, run_ends is_space xs refl) refl) (λ h.
    let all : spaces_within (limit - m.col) xs ≡ limit - m.col = grind (arith, nat_tests) in
    let past : nat_lt (m.col + (limit - m.col)) limit ≡ false = grind (arith, nat_tests) in
    rw (all, past) (and_false _))

pub none_left : (limit : Option ℕ) (left : ℕ) (s u : Cursor) → left ≡ indentation_left limit s.mark.col
    → u ≡ pass_spaces left s → length s.rest < 2 ^ 64 → is_indentation limit u.mark.col (slice_index u.rest 0) ≡ false
none_left limit left s u room e l = grind (arith, slice_index, left_none)
