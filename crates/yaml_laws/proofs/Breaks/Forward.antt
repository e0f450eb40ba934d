-- Where the readers of a text go on: on one line the index grows as the column does.
use Rattle.yaml_laws.proofs.Common.{Bool, List, Ok, Option, [], arith, length, subst, ℕ, ◌++◌, ◌+◌, ◌<◌, ◌∷◌, ◌≡◌, ◌≤◌, slice_index, SkipTabs, BlockStyle, Quote, Marker, Cursor, along, next_line, pass_break, separation, mark, mid_line, by_test, given_of, exclamation_mark, percent_sign, length-append, Span, ReadDirective, IsPassed, ends_line, end_of_text, IsPlainReading, AreAlike, block_indicator}
use Rattle.saphyr_input.specs.declared.input.SkipTabs.TheVariants as tabs
use Rattle.saphyr_scalar.specs.Steps.Anchor as anchors
use Rattle.saphyr_scalar.specs.Steps.Block as blocks
use Rattle.saphyr_scalar.specs.Steps.Directive as directives
use Rattle.saphyr_scalar.specs.Passing as passing
use Rattle.saphyr_scalar.specs.Steps.Plain as words
use Rattle.saphyr_scalar.specs.Steps.Quoted as quoted
use Rattle.saphyr_scalar.specs.Steps.Tag as tags
use Rattle.saphyr_scanner.proofs.Taken.Later.{top, LaterThan, apart_later, passed_later, piece_later, plain_later}
use Rattle.saphyr_scanner.proofs.LineTails.{separation_passes}
use Rattle.yaml_laws.proofs.Breaks.Places.{near, Ahead, Low}

-- on one line the index grows as the column does
abbrev pub OnOneLine : Marker → Marker → Type 0
OnOneLine m n = m.line ≤ top → n.line < top → n.line ≤ m.line → n.index + m.col ≡ m.index + n.col

pub record Forward (s t : Cursor) : Type 0 where
  pub later : LaterThan s t
  pub level : OnOneLine s.mark t.mark

level_passed : (m : Marker) (t : List ℕ) (n : Marker) (u : List ℕ) → IsPassed m t n u → OnOneLine m n
level_passed _ _ _ _ (passing.nothing m t) = λ h k l. omega arith
level_passed _ _ _ _ (passing.character m c t n u e p) =
    λ h k l. let i = level_passed (along m 1) t n u p h k l in omega (arith, i)
level_passed _ _ _ _ (passing.line_break m t n u e p) = grind (arith, passed_later)

level_piece : (m : Marker) (cs : List ℕ) → OnOneLine m (end_of_text m cs)
level_piece m [] = λ h k l. omega arith
level_piece m (c ∷ cs) =
    by_test (ends_line c cs) (next_line m 1) (along m 1) (λ (k : Marker). OnOneLine m (end_of_text k cs))
    (λ _. λ h k l. let x = (piece_later (next_line m 1) cs []).lines (omega arith) in absurd
    (omega (arith, h, k, l, x.0))) (λ _. λ h k l. let i = level_piece (along m 1) cs h k l in omega (arith, i))

pub forward_passed : (s t : Cursor) → IsPassed s.mark s.rest t.mark t.rest → Forward s t
forward_passed s t p = search (passed_later, level_passed)

pub forward_plain : (f : Bool) (s t : Cursor) (text : List ℕ) (end : Marker) → IsPlainReading f s text end t
    → Forward s t
forward_plain f s t text end r = record {
  later = plain_later f s t text end r;
  level =
      let P : Marker → Type 0 = λ m. OnOneLine s.mark m in
      let Q : Marker → Type 0 = λ m. OnOneLine end m in
      let a : OnOneLine s.mark end = subst P r.ends (level_piece s.mark r.piece) in
      let b : OnOneLine end t.mark = subst Q r.behind (level_piece end r.white) in
      let K : Marker → Type 0 = λ m. s.mark.line ≤ top → (s.mark.line ≤ m.line) × (m.line ≤ top) in
      let L : Marker → Type 0 = λ m. end.line ≤ top → (end.line ≤ m.line) × (m.line ≤ top) in
      λ h k l.
      let x = (subst K r.ends (piece_later s.mark r.piece []).lines) h in
      let y = (subst L r.behind (piece_later end r.white []).lines) x.1 in
      let p = a h (omega (arith, y.0, k)) (omega (arith, y.0, l)) in
      let q = b x.1 k (omega (arith, x.0, l)) in omega (arith, p, q);
}

-- ## The readers

pub separation_forward : (s : Cursor) (x : SkipTabs × Cursor) → separation tabs.Yes s ≡ Ok x → Forward s x.1
separation_forward s x e = grind (arith, given_of, separation_passes, apart_later)

-- what the laws of the readers say of where they go on
pub record Forwards : Type 0 where
  pub plain : (in_flow : Bool) (indent : ℕ) (s : Cursor) (x : List ℕ × Marker × Option Marker × Cursor)
      → words.plain in_flow indent s ≡ Ok x → Forward s x.3
  pub quoted : (quote : Quote) (indent : ℕ) (s : Cursor) (x : List ℕ × Cursor) → slice_index s.rest 0 ≡ mark quote
      → quoted.quoted quote indent s ≡ Ok x → Forward s x.1
  pub block_scalar : (style : BlockStyle) (indent : ℕ) (s : Cursor) (x : List ℕ × Span × Cursor)
      → slice_index s.rest 0 ≡ block_indicator style → blocks.block_scalar style indent s ≡ Ok x → Forward s x.2
  pub name : (s : Cursor) (x : List ℕ × Cursor) → 0 < length s.rest → anchors.anchor s ≡ Ok x → Forward s x.1
  pub tag : (in_flow : Bool) (s : Cursor) (x : List ℕ × List ℕ × Cursor) → slice_index s.rest 0 ≡ exclamation_mark
      → tags.tag in_flow s ≡ Ok x → Forward s x.2
  pub directive : (s : Cursor) (x : ReadDirective × Marker × Cursor) → slice_index s.rest 0 ≡ percent_sign
      → directives.directive s ≡ Ok x → Forward s x.2

-- a text of the line was read
pub line_forward : (s t : Cursor) (text : List ℕ) → s.rest ≡ text ++ t.rest
    → t ≡ mid_line (along s.mark (length text)) t.rest → Forward s t
line_forward s t text is e = grind (arith, length-append)

-- and a break after it, or none
pub break_forward : (s t : Cursor) (text tail behind : List ℕ) → s.rest ≡ text ++ (tail ++ behind)
    → t ≡ pass_break (mid_line (along s.mark (length text + length tail)) behind) → Forward s t
break_forward s t text tail behind is e = grind (arith, length-append)

-- ## Both texts

pub both_ahead : (text : List ℕ) (s : Cursor) (i : ℕ) (t u : Cursor) → Low s → Forward s t → Forward (near i s) u
    → AreAlike text t u → Ahead text s i t u.mark.index
both_ahead text s i t u low a b x = grind (arith, top)
