-- The line of a block scalar's header, as it is spelled.
use Rattle.saphyr_scalar.proofs.Common.{◌≡◌, ◌≢◌, ℕ, ◌≤◌, ◌<◌, Bool, true, false, List, [], ◌∷◌, ◌++◌, length, drop, slice_index, Ok, refl, sym, ap, ◌∙◌, arith, subst, inl, inr, append_assoc, ◌||◌, ◌==◌, Option, Some, None, unwrap_or, codes, nat_tests, is_break, is_breakz, is_z, tab, line_feed, next_2_are, separation_len, SkipTabs, Yes, Chomping, Clip, BlockHeader, Marker, by_test, not-false, first_and_rest}
use Rattle.saphyr_scalar.specs.Steps.Block.{chomping, indicator, header_break, header_end, last_chomping, header_behind, header}
use Rattle.saphyr_scalar.specs.Reading.BlockText.{digit_of, chomping_of, AreIndicators, IsBreakBefore, EndsHeader, IsHeaderLine}
use Rattle.saphyr_scalar.specs.Views.Cursor.{Cursor, pass, pass_blanks, pass_break, separation, behind_separation}
use Rattle.saphyr_scalar.specs.Spelling.Directive.{IsLineTail}
use Rattle.saphyr_scalar.proofs.Block.Reads.{then_gave, gave, refused_gave, same_gift}
use Rattle.saphyr_scalar.proofs.Directives.TailsSpelled.{tail_line_of}
use Rattle.saphyr_scalar.proofs.Quoted.Inside.{break_cases}

-- ## The indicators

abbrev mark_of : Option Chomping → List ℕ
mark_of None = []
mark_of (Some c) = chomping_of c

chomping_read : (s : Cursor) → s.rest ≡ mark_of (chomping s).0 ++ (chomping s).1.rest
unfolding chomping
chomping_read s = grind arith

record Digit (s : Cursor) (x : ℕ × Cursor) : Type 0 where
  few : x.0 ≤ 9
  is : s.rest ≡ digit_of x.0 ++ x.1.rest

indicator_read : (start : Marker) (s : Cursor) (x : ℕ × Cursor) → indicator start s ≡ Ok x → Digit s x
unfolding indicator
indicator_read start s x = grind arith

chosen : (o : Option Chomping) → mark_of o ≡ chomping_of (unwrap_or o Clip)
chosen o = grind arith

-- the indicators, by whether a chomping indicator was first
both_read : (o : Option Chomping) (n : ℕ) (r a : List ℕ) (b : Cursor) → n ≤ 9 → r ≡ mark_of o ++ a
    → a ≡ digit_of n ++ b.rest
    → (t : List ℕ) × AreIndicators n (last_chomping o b).0 t × (r ≡ t ++ (last_chomping o b).1.rest)
unfolding last_chomping
both_read (Some c) n r a b few e f = (
  chomping_of c ++ digit_of n,
  (few, inr refl),
  e ∙ ap (λ t. chomping_of c ++ t) f
      ∙ sym (append_assoc (chomping_of c) (digit_of n) b.rest),
)
both_read None n r a b few e f =
    let x = chomping b in (
      digit_of n ++ chomping_of (unwrap_or x.0 Clip),
      (few, inl refl),
      e ∙ f ∙ ap (λ t. digit_of n ++ t) (chomping_read b ∙ ap (λ t. t ++ x.1.rest) (chosen x.0))
          ∙ sym (append_assoc (digit_of n) (chomping_of (unwrap_or x.0 Clip)) x.1.rest),
    )

-- ## The end of the line

abbrev Ended : List ℕ → List ℕ → Type 0
Ended xs behind = (end : List ℕ) × EndsHeader behind end × (xs ≡ end ++ behind)

two_broken : (xs : List ℕ) → next_2_are xs 13 10 ≡ true → xs ≡ codes "\r\n" ++ drop 2 xs
two_broken xs h = grind arith

feed_by_test : (x : ℕ) → (x == line_feed) ≡ false → x ≢ line_feed
feed_by_test x e h = absurd (grind (arith, nat_tests))

one_broken : (xs : List ℕ) → next_2_are xs 13 10 ≡ false → is_break (slice_index xs 0) ≡ true
    → (end : List ℕ) × IsBreakBefore (drop 1 xs) end × (xs ≡ end ++ drop 1 xs)
one_broken [] h b = absurd (cc)
one_broken (c ∷ cs) h b = break_cases c b (λ x. next_2_are (x ∷ cs) 13 10 ≡ false
    → (end : List ℕ) × IsBreakBefore cs end × (x ∷ cs ≡ end ++ cs))
    (λ _. (codes "\n", inl refl, refl)) (λ k. (codes "\r", inr (inr (refl, feed_by_test (slice_index cs 0) k)), refl)) h

other_than_tab : (x : ℕ) → (x == tab) ≡ false → x ≢ tab
other_than_tab x e h = absurd (grind (arith, nat_tests))

second : (a b : Bool) → (a || b) ≡ true → a ≡ false → b ≡ true
second a b h e = grind arith

break_ended : (s : Cursor) → is_breakz (slice_index s.rest 0) ≡ true
    → (slice_index (pass_break s).rest 0 == tab) ≡ false → Ended s.rest (pass_break s).rest
break_ended s h =
    let P : Cursor → Type 0 = λ u. (slice_index u.rest 0 == tab) ≡ false → Ended s.rest u.rest in
    by_test (next_2_are s.rest 13 10) _ _ P
    (λ e t. (codes "\r\n", inl (inr (inl refl), other_than_tab _ t), two_broken s.rest e))
    (λ e. by_test (is_break (slice_index s.rest 0)) _ _ P
    (λ f t. let w = one_broken s.rest e f in (w.0, inl (w.1, other_than_tab _ t), w.2))
    (λ f t. ([], inr (refl, second (is_break (slice_index s.rest 0)) (is_z (slice_index s.rest 0)) h f), refl)))

break_read : (start : Marker) (s u : Cursor) → header_break start s ≡ Ok u → Ended s.rest u.rest
unfolding header_break
break_read start s u = grind (arith, nat_tests, gave, refused_gave, same_gift, break_ended, not-false)

separation_left : (s : Cursor) (x : SkipTabs × Cursor) → separation Yes s ≡ Ok x
    → pass_blanks (separation_len Yes s.rest) s ≡ x.1
unfolding separation behind_separation
separation_left s x = grind arith

abbrev IsHeaderTail : List ℕ → List ℕ → Type 0
IsHeaderTail xs behind = (tail : List ℕ) × (end : List ℕ) × IsLineTail tail × EndsHeader behind end
    × (xs ≡ tail ++ (end ++ behind))

end_read : (start : Marker) (s u : Cursor) → header_end start s ≡ Ok u → IsHeaderTail s.rest u.rest
unfolding header_end
end_read start s u e =
    let w = then_gave (separation Yes s) (λ x. header_break start x.1) u e in
    let l = tail_line_of s.mark s.rest in
    let b = break_read start w.0.1 u w.2 in
    (l.0, b.0, l.1.1, b.1, l.1.0 ∙ ap (λ t. l.0 ++ t) (ap (λ (t : Cursor). t.rest) (separation_left s w.0 w.1) ∙ b.2))

-- ## The line

abbrev Headed : List ℕ → BlockHeader × Cursor → Type 0
Headed xs x = (first : List ℕ) × (xs ≡ first ++ x.1.rest) × IsHeaderLine x.0.indicator x.0.chomping x.1.rest first

header_joined : (c : ℕ) (xs a b d behind : List ℕ) → xs ≡ a ++ (b ++ (d ++ behind))
    → c ∷ xs ≡ (c ∷ (a ++ (b ++ d))) ++ behind
header_joined c xs a b d behind e = cc (append_assoc b d behind, append_assoc a (b ++ d) behind)

pub header_line : (s : Cursor) (x : BlockHeader × Cursor) → 0 < length s.rest → header s ≡ Ok x → Headed s.rest x
unfolding header header_behind
header_line s x some e =
    let first = chomping (pass 1 s) in
    let w = then_gave (indicator s.mark first.1) (λ y. header_behind s.mark y.0 (last_chomping first.0 y.1)) x e in
    let last = last_chomping first.0 w.0.1 in
    let header_of : Cursor → BlockHeader × Cursor = λ t. (record { chomping = last.0; indicator = w.0.0 }, t) in
    let v = then_gave (header_end s.mark last.1) (λ t. gave (header_of t)) x w.2 in
    let d = indicator_read s.mark first.1 w.0 w.1 in
    let m = both_read first.0 w.0.0 (drop 1 s.rest) first.1.rest w.0.1 d.few (chomping_read (pass 1 s)) d.is in
    let t = end_read s.mark last.1 v.0 v.1 in
    let whole : s.rest ≡ (slice_index s.rest 0 ∷ (m.0 ++ (t.0 ++ t.1))) ++ v.0.rest = first_and_rest s.rest some
    ∙ header_joined (slice_index s.rest 0) (drop 1 s.rest) m.0 t.0 t.1 v.0.rest (m.2 ∙ ap (λ y. m.0 ++ y) t.4) in
    subst (Headed s.rest) (same_gift (header_of v.0) x v.2)
    (slice_index s.rest 0 ∷ (m.0 ++ (t.0 ++ t.1)), whole, (slice_index s.rest 0, m.0, t.0, t.1, m.1, t.2, t.3, refl))
