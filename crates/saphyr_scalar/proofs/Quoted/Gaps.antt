-- What is between the words of a quoted scalar, and its closing quote.
use Rattle.saphyr_scalar.proofs.Common.{◌≡◌, ℕ, ◌<◌, ◌≤◌, true, false, List, [], ◌∷◌, ◌++◌, length, drop, slice_index, Result, Ok, refl, sym, ap, ◌∙◌, arith, IsTrue, ◌==◌, OnOk, nat_tests, append-nil, is_z, is_blank, is_break, Marker, Refusal, Stop, Quote, Double, ReadsOn, Cursor, refuse_open, along, pass, pass_break, pass_line, next_line, backslash}
use Rattle.saphyr_scalar.specs.declared.scalar.fault.FaultText.TheVariants as fault
use Rattle.saphyr_scalar.specs.Values.Flow as flow
use Rattle.saphyr_scalar.proofs.NoBreaks.{mark_no_nul}
use Rattle.saphyr_scalar.proofs.Quoted.Inside.{front_twice, passed_over, behind_no_gap, at_break, at_end, flushed, Moved, moved_stops}
use Rattle.saphyr_scalar.proofs.Quoted.Parts.{blanks_moved}
use Rattle.saphyr_scalar.specs.Steps.Quoted.{is_literal, is_escaped_break, is_closing, ends_word, with_front, mid_line, special, on_line, over_lines, no_gap, escaped_gap, break_len, inner_text, inner_text_at}

pub by_break_len : (s : Cursor) → is_break (slice_index s.rest 0) ≡ true → pass_break s ≡ pass_line (break_len s.rest) s
by_break_len s h = grind arith

-- a backslash before a break
pub at_escaped_break : (indent : ℕ) (start m : Marker) (cs : List ℕ) → is_break (slice_index cs 0) ≡ true
    → inner_text Double indent start no_gap 0 m (backslash ∷ cs)
    ≡ inner_text Double indent start (escaped_gap Double (slice_index (drop (break_len cs) cs) 0)) 0
    (next_line (along m 1) (break_len cs)) (drop (break_len cs) cs)
unfolding is_literal special
at_escaped_break indent start m cs h = grind (arith, behind_no_gap, passed_over, slice_index, drop)

-- an escaped break, and what it begins
abbrev pub behind_escaped : Cursor → Cursor
behind_escaped s = pass_break (pass 1 s)

record Escaped (xs : List ℕ) : Type 0 where
  cs : List ℕ
  cut : xs ≡ backslash ∷ cs
  breaks : is_break (slice_index cs 0) ≡ true

escaped_of : (xs : List ℕ) → IsTrue (is_escaped_break Double xs) → Escaped xs
escaped_of [] h = absurd (cc)
escaped_of (c ∷ cs) h = grind (arith, nat_tests, slice_index)

escaped_break_on : (q : Quote) (indent : ℕ) (start : Marker) (s : Cursor) → IsTrue (is_escaped_break q s.rest)
    → inner_text_at q indent start no_gap s
    ≡ inner_text_at q indent start (escaped_gap q (slice_index (behind_escaped s).rest 0)) (behind_escaped s)
escaped_break_on u0 indent start s h = grind (arith, escaped_of, drop, by_break_len, slice_index, at_escaped_break)

gap_at_quote : (q : Quote) (c : ℕ) → c ≡ flow.mark q → escaped_gap q c ≡ no_gap
gap_at_quote q c e = let is : (c == flow.mark q) ≡ true = grind (arith, nat_tests) in rw is refl

gap_elsewhere : (q : Quote) (c : ℕ) → (c ≡ flow.mark q → ⊥) → escaped_gap q c ≡ over_lines true 0
gap_elsewhere q c e = let is : (c == flow.mark q) ≡ false = grind (arith, nat_tests) in rw is refl

-- an escaped break is there
pub escaped_left : (q : Quote) (xs : List ℕ) → IsTrue (is_escaped_break q xs) → 0 < length xs
escaped_left q [] h = grind (arith, nat_tests)
escaped_left q (c ∷ cs) h = omega arith

-- an escaped break right before the closing quote, and elsewhere
pub escaped_to_quote : (q : Quote) (indent : ℕ) (start : Marker) (text : List ℕ) (s t : Cursor)
    → IsTrue (is_escaped_break q s.rest) → t ≡ behind_escaped s → slice_index t.rest 0 ≡ flow.mark q
    → with_front text (inner_text_at q indent start no_gap t) ≡ with_front text (inner_text_at q indent start no_gap s)
escaped_to_quote q indent start text s t h on quote = grind (arith, escaped_break_on, gap_at_quote, slice_index)

pub escaped_to_line : (q : Quote) (indent : ℕ) (start : Marker) (text : List ℕ) (s t : Cursor)
    → IsTrue (is_escaped_break q s.rest) → t ≡ behind_escaped s → (slice_index t.rest 0 ≡ flow.mark q → ⊥)
    → with_front text (inner_text_at q indent start (over_lines true 0) t)
    ≡ with_front text (inner_text_at q indent start no_gap s)
escaped_to_line q indent start text s t h on quote = grind (arith, escaped_break_on, gap_elsewhere, slice_index)

-- a part of what was to be read before is told again
pub reads_from : {X Y : Type 0} (r : Result X Stop) (before begun now : Result Y Refusal) → begun ≡ before
    → ReadsOn r begun now → ReadsOn r before now
reads_from r before begun now e h = rw e at h

-- what was read on is shorter than what was longer before
pub ok_shorter : {X E : Type 0} (r : Result X E) (n m k : ℕ) → m < k → OnOk r (n ≤ m) → OnOk r (n < k)
ok_shorter r n m k less no_longer = grind arith

pub ok_no_longer : {X E : Type 0} (r : Result X E) (n m k : ℕ) → m ≤ k → OnOk r (n ≤ m) → OnOk r (n ≤ k)
ok_no_longer r n m k less no_longer = grind arith

-- a break right after a word
pub straight_to_break : (q : Quote) (indent : ℕ) (start : Marker) (text : List ℕ) (s u v : Cursor) → u ≡ s
    → is_break (slice_index s.rest 0) ≡ true → v ≡ pass_break u
    → with_front text (inner_text_at q indent start (over_lines false 0) v)
    ≡ with_front text (inner_text_at q indent start no_gap s)
straight_to_break q indent start text s u v same h on = cc (at_break q indent start no_gap s h)

-- blanks, and what comes after them
pub blanks_to_break : (q : Quote) (indent : ℕ) (start : Marker) (text grown : List ℕ) (s t u v : Cursor)
    → Moved is_blank [] grown s t → u ≡ t → is_break (slice_index t.rest 0) ≡ true → v ≡ pass_break u
    → with_front text (inner_text_at q indent start (over_lines false 0) v)
    ≡ with_front text (inner_text_at q indent start no_gap s)
blanks_to_break q indent start text grown s t u v m same h on = cc
    (at_break q indent start (on_line grown) t h, blanks_moved q indent start [] grown s t m)

pub blanks_to_end : (q : Quote) (indent : ℕ) (start : Marker) (text grown : List ℕ) (s t : Cursor)
    → Moved is_blank [] grown s t → slice_index t.rest 0 ≡ 0
    → with_front text (inner_text_at q indent start no_gap s) ≡ refuse_open true fault.EndInsideQuotes start
blanks_to_end q indent start text grown s t m h = ap (with_front text) (sym (blanks_moved q indent start [] grown s t m)
    ∙ at_end q indent start grown t.mark t.rest h)

content_left : (xs : List ℕ) → is_z (slice_index xs 0) ≡ false → (c : ℕ) × (cs : List ℕ) × (xs ≡ c ∷ cs)
content_left [] h = absurd (cc)
content_left (c ∷ cs) h = (c, cs, refl)

pub blanks_to_word : (q : Quote) (indent : ℕ) (start : Marker) (text grown : List ℕ) (s t u : Cursor)
    → Moved is_blank [] grown s t → u ≡ t → is_break (slice_index t.rest 0) ≡ false
    → is_z (slice_index t.rest 0) ≡ false
    → with_front (text ++ grown) (inner_text_at q indent start no_gap u)
    ≡ with_front text (inner_text_at q indent start no_gap s)
blanks_to_word q indent start text grown s t u m same break z =
    let left = content_left t.rest z in
    let word : inner_text_at q indent start (on_line grown) t ≡ with_front grown
    (inner_text_at q indent start no_gap t) = ap (inner_text q indent start (on_line grown) 0 t.mark) left.2
    ∙ flushed q indent start grown t.mark left.0 left.1 (record {
      blank = ap (λ (xs : List ℕ). is_blank (slice_index xs 0)) (sym left.2) ∙ moved_stops is_blank [] grown s t refl m;
      break = ap (λ (xs : List ℕ). is_break (slice_index xs 0)) (sym left.2) ∙ break;
      nul = ap (λ (xs : List ℕ). is_z (slice_index xs 0)) (sym left.2) ∙ z;
    })
    ∙ ap (λ xs. with_front grown (inner_text q indent start no_gap 0 t.mark xs)) (sym left.2) in
    ap (λ x. with_front (text ++ grown) (inner_text_at q indent start no_gap x)) same
    ∙ sym (front_twice text grown _) ∙ ap (with_front text) (sym word ∙ blanks_moved q indent start [] grown s t m)

pub at_closing : (q : Quote) (indent : ℕ) (start m : Marker) (cs : List ℕ) → IsTrue (is_closing q (flow.mark q ∷ cs))
    → inner_text q indent start no_gap 0 m (flow.mark q ∷ cs) ≡ Ok ([], mid_line (along m 1) cs)
unfolding is_literal special
at_closing v0 indent start m cs h = grind (arith, nat_tests, behind_no_gap)

closing_mark : (q : Quote) (xs : List ℕ) → IsTrue (is_closing q xs) → slice_index xs 0 ≡ flow.mark q
closing_mark q xs h = grind arith

pub closing_closes : (q : Quote) (indent : ℕ) (start : Marker) (text : List ℕ) (s : Cursor)
    → IsTrue (is_closing q s.rest) → with_front text (inner_text_at q indent start no_gap s) ≡ Ok (text, pass 1 s)
closing_closes q indent start text s h =
    grind (arith, closing_mark, append-nil, slice_index, drop, mark_no_nul, at_closing)

pub quote_closes : (q : Quote) (indent : ℕ) (start : Marker) (text : List ℕ) (s : Cursor) → IsTrue (ends_word q s.rest)
    → slice_index s.rest 0 ≡ flow.mark q → with_front text (inner_text_at q indent start no_gap s) ≡ Ok (text, pass 1 s)
quote_closes q indent start text s h e = closing_closes q indent start text s (grind (arith, nat_tests))
