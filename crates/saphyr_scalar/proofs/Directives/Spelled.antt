-- What is read as a directive is spelled so, on its whole line.
use Rattle.saphyr_scalar.proofs.Common.{◌≡◌, ℕ, ◌+◌, true, List, ◌∷◌, ◌++◌, length, length-append, append_assoc, drop, slice_index, Ok, refl, sym, ap, ◌∙◌, arith, subst, encode_utf8_all, percent_sign, is_breakz, Marker, Cursor, ◌>>=◌, along, pass_break}
use Rattle.saphyr_scalar.specs.Steps.Directive.{name, value, line_end, directive}
use Rattle.saphyr_scalar.specs.Spelling.Directive.{ReadDirective, IsReadDirective, IsLineTail}
use Rattle.saphyr_scalar.specs.Steps.Quoted.{mid_line}
use Rattle.saphyr_scalar.proofs.Moving.{along_more}
use Rattle.saphyr_scalar.proofs.Properties.TagsSpelled.{cut_at}
use Rattle.saphyr_scalar.proofs.Directives.Read.{directive_same}
use Rattle.saphyr_scalar.proofs.Steps.{bind_ok, ok_same}
use Rattle.saphyr_scalar.proofs.Places.{along_three}
use Rattle.saphyr_scalar.proofs.Directives.NamesSpelled.{NameOf, name_spelled}
use Rattle.saphyr_scalar.proofs.Directives.TailsSpelled.{TailOf, line_spelled}
use Rattle.saphyr_scalar.proofs.Directives.ValuesSpelled.{ValueOf, value_spelled}

abbrev Spelled : Marker → List ℕ → ReadDirective → Marker → Cursor → Type 0
Spelled m xs d end u =
    (t : List ℕ) × (tail : List ℕ) × (x : List ℕ) × (xs ≡ t ++ (tail ++ x)) × IsReadDirective d t × IsLineTail tail
    × (is_breakz (slice_index x 0) ≡ true) × (end ≡ along m (length t))
    × (u ≡ pass_break (mid_line (along m (length t + length tail)) x))

abbrev OfLine : Marker → List ℕ → ReadDirective × Marker × Cursor → Type 0
OfLine m xs r = Spelled m xs r.0 r.1 r.2

line_spells : (m : Marker) (ys text : List ℕ) (a b : Cursor) (d : ReadDirective) (u : Cursor)
    → (n : NameOf (along m 1) ys text a) → ValueOf d (along (along m 1) (length n.word)) n.word a.rest b
    → TailOf b.mark b.rest u → Spelled m (percent_sign ∷ ys) d b.mark u
line_spells m ys text a b d u n is tail =
    let t = 37 ∷ (n.word ++ is.more) in
    let end : b.mark ≡ along m (length t) = ap (λ (y : Cursor). y.mark) is.place
    ∙ along_three m 1 (length n.word) (length is.more) (length t) (omega (arith, length-append n.word is.more)) in (
      t,
      tail.tail,
      tail.behind,
      (ap (λ r. 37 ∷ r) (n.text_is ∙ ap (λ r. n.word ++ r) (is.text ∙ ap (λ r. is.more ++ r) tail.text)
          ∙ sym (append_assoc n.word is.more (tail.tail ++ tail.behind)))),
      is.is,
      tail.is,
      tail.ends,
      end,
      tail.place ∙ ap (λ (j : Marker). pass_break (mid_line (along j (length tail.tail)) tail.behind)) end
          ∙ ap (λ j. pass_break (mid_line j tail.behind))
          (along_more m (length t) (length tail.tail) (length t + length tail.tail) refl),
    )

pub at_self : (b : Cursor) (k : Marker) (r : List ℕ) → b ≡ mid_line k r → mid_line b.mark b.rest ≡ b
at_self b k r e = ap (λ (y : Cursor). mid_line y.mark y.rest) e ∙ sym e

directive_spelled : (m : Marker) (ys : List ℕ) (d : ReadDirective) (end : Marker) (u : Cursor)
    → directive (mid_line m (percent_sign ∷ ys)) ≡ Ok (d, end, u) → Spelled m (percent_sign ∷ ys) d end u
unfolding directive
directive_spelled m ys d end u h =
    let one = bind_ok (name (mid_line (along m 1) ys))
    (λ (x : List ℕ × Cursor). value m x >>= λ (e : ReadDirective × Cursor). line_end m e.1 >>= λ (t : Cursor). Ok
    (e.0, e.1.mark, t)) (d, end, u) h in
    let n = name_spelled (along m 1) ys one.given.0 one.given.1 one.first in
    let two = bind_ok (value m one.given)
    (λ (e : ReadDirective × Cursor). line_end m e.1 >>= λ (t : Cursor). Ok (e.0, e.1.mark, t)) (d, end, u) one.next in
    let three = bind_ok (line_end m two.given.1) (λ (t : Cursor). Ok (two.given.0, two.given.1.mark, t)) (d, end, u)
    two.next in
    let a = one.given.1 in
    let read : value m (encode_utf8_all n.word, mid_line (along (along m 1) (length n.word)) a.rest) ≡ Ok two.given =
    ap (λ v. value m (v, mid_line (along (along m 1) (length n.word)) a.rest)) n.bytes
    ∙ ap (λ (y : Cursor). value m (one.given.0, y)) (sym n.place) ∙ two.first in
    let is = value_spelled m (along (along m 1) (length n.word)) n.word a.rest two.given.0 two.given.1 n.some n.all
    n.ends read in
    let b = two.given.1 in
    let line : line_end m (mid_line b.mark b.rest) ≡ Ok three.given = ap (λ (y : Cursor). line_end m y)
    (at_self b (along (along (along m 1) (length n.word)) (length is.more)) b.rest is.place) ∙ three.first in
    subst (OfLine m (37 ∷ ys))
    (ok_same {A = ReadDirective × Marker × Cursor} (two.given.0, b.mark, three.given) (d, end, u) three.next)
    (line_spells m ys one.given.0 a b two.given.0 three.given n is (line_spelled m b.mark b.rest three.given line))

pub spells_directive : (s u : Cursor) (d : ReadDirective) (end : Marker) → slice_index s.rest 0 ≡ percent_sign
    → directive s ≡ Ok (d, end, u)
    → (t : List ℕ) × (tail : List ℕ) × (x : List ℕ) × (s.rest ≡ t ++ (tail ++ x)) × IsReadDirective d t
    × IsLineTail tail × (is_breakz (slice_index x 0) ≡ true) × (end ≡ along s.mark (length t))
    × (u ≡ pass_break (mid_line (along s.mark (length t + length tail)) x))
spells_directive s u d end begins read =
    let more : s.rest ≡ 37 ∷ drop 1 s.rest = cut_at 37 s.rest refl begins in
    let here = sym (directive_same s) ∙ read in
    let is = directive_spelled s.mark (drop 1 s.rest) d end u (rw more at here) in rw more is
