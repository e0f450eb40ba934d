-- What is passed from inside a text, where a break may have begun before it.
use Rattle.saphyr_scalar.proofs.Common.{◌≡◌, ℕ, ◌+◌, Bool, true, false, List, [], ◌∷◌, length, ◌<◌, refl, ap, arith, eqb-true, nat_tests, is_break, carriage_return, line_feed, Marker, Cursor, along, next_line, pass_break}
use Rattle.std.specs.Prelude.{slice_index, ◌==◌, if◌then◌else◌}
use Rattle.std.proofs.lemmas.List.{length-drop}
use Rattle.saphyr_scalar.specs.Spelling.LineBreaks.{ends_line}
use Rattle.saphyr_scalar.specs.Steps.Block.{is_cr_lf, inside_break}
use Rattle.saphyr_scalar.specs.Passing as passing
use Rattle.saphyr_scalar.specs.Passing.{IsPassed}
use Rattle.saphyr_scalar.specs.Steps.Quoted.{break_len}

-- what is passed from here on, and from a CR on that comes before, where an LF comes first
pub record PassesBreak (m : Marker) (t : List ℕ) (r : Cursor) : Type 0 where
  pub here : IsPassed m t r.mark r.rest
  pub behind_return : (slice_index t 0 == line_feed) ≡ true → (k : Marker) → next_line m 1 ≡ next_line k 2
      → IsPassed k (carriage_return ∷ t) r.mark r.rest

-- the place after one character, which may end its line
abbrev pub behind_one : Marker → ℕ → List ℕ → Marker
behind_one m c cs = if ends_line c cs then next_line m 1 else along m 1

-- a break is taken off
pub break_shorter : (s : Cursor) → is_break (slice_index s.rest 0) ≡ true → length (pass_break s).rest < length s.rest
break_shorter s h = grind (arith, nat_tests, length-drop {A = ℕ})

-- the place between the two characters may be told in two ways
pub inside_same : (m : Marker) → next_line (inside_break m) 1 ≡ next_line m 2
inside_same m = let i : m.index + 1 + 1 ≡ m.index + 2 = omega arith in rw i refl

pub along_same : (m : Marker) → next_line (along m 1) 1 ≡ next_line m 2
along_same m = let i : m.index + 1 + 1 ≡ m.index + 2 = omega arith in rw i refl

-- a character of the line
pub one_here : (m : Marker) (c : ℕ) (cs : List ℕ) (r : Cursor) → is_break c ≡ false → PassesBreak (along m 1) cs r
    → PassesBreak m (c ∷ cs) r
one_here m c cs r e p = record {
  here = passing.character m c cs r.mark r.rest e p.here;
  behind_return = λ f k q. absurd (let g : is_break c ≡ true = ap is_break (eqb-true c 10 f) in cc);
}

pub return_here : (m j : Marker) (c : ℕ) (cs : List ℕ) (r : Cursor) → is_cr_lf c cs ≡ true
    → next_line j 1 ≡ next_line m 2 → PassesBreak j cs r → PassesBreak m (c ∷ cs) r
return_here m j c cs r e same p = grind arith

pub feed_here : (m : Marker) (c : ℕ) (cs : List ℕ) (r : Cursor) → is_cr_lf c cs ≡ false → is_break c ≡ true
    → IsPassed (next_line m 1) cs r.mark r.rest → PassesBreak m (c ∷ cs) r
feed_here m c cs r e b p =
    let one : break_len (c ∷ cs) ≡ 1 = rw e refl in
    record {
      here = passing.line_break m (c ∷ cs) r.mark r.rest b (rw one p);
      behind_return = λ f k q. fed k (eqb-true c 10 f) q;
    }
  where
    fed : (k : Marker) → c ≡ line_feed → next_line m 1 ≡ next_line k 2
        → IsPassed k (carriage_return ∷ c ∷ cs) r.mark r.rest
    fed k f q =
        let there : IsPassed (next_line k 2) cs r.mark r.rest = rw q at p in
        rw f (passing.line_break k (13 ∷ 10 ∷ cs) r.mark r.rest refl there)

pub stop_here : (m : Marker) (c : ℕ) (cs : List ℕ) (b : Bool) → is_break c ≡ false
    → PassesBreak m (c ∷ cs) (record { rest = c ∷ cs; mark = m; blank_so_far = b })
stop_here m c cs b e = record {
  here = passing.nothing m (c ∷ cs);
  behind_return = λ f k q. absurd (let g : is_break c ≡ true = ap is_break (eqb-true c 10 f) in cc);
}

pub end_here : (m : Marker) (b : Bool) → PassesBreak m [] (record { rest = []; mark = m; blank_so_far = b })
end_here m b = record { here = passing.nothing m []; behind_return = λ f k q. absurd (cc) }
