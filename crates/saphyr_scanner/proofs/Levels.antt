-- The stack of what is open, whose top is the last item of a vector.
use Rattle.std.proofs.Common.{◌≡◌, ℕ, ◌≤◌, ◌<◌, Bool, true, false, List, [], ◌∷◌, ◌++◌, length, drop, get_or, refl, sym, ◌∙◌, ap, zero, suc, arith}
use Rattle.std.specs.Prelude.{map, reverse, ◌||◌, Option, Some}
use Rattle.saphyr_scalar.specs.declared.scalar.position.Marker.{Marker}
use Rattle.saphyr_scanner.specs.declared.engine.level.Context.{Context}
use Rattle.std.proofs.lemmas.List.{reverse-append, map-append}
use Rattle.std.proofs.Math.Seq.{drop-cons}
use Rattle.saphyr_scanner.specs.declared.engine.level.Level as declared
use Rattle.saphyr_scanner.specs.Steps.Level.{Candidate, Level, holds}
use Rattle.saphyr_scanner.specs.Views.Engine.{level}
use Rattle.saphyr_scanner.specs.Steps.Fetch.{any_holds}
use Rattle.saphyr_input.proofs.Basics.Booleans.{or_assoc}
use Rattle.std.proofs.Math.Bool.{or-false}

pub top_off : (before after : List declared.Level) (l : declared.Level) → before ≡ after ++ l ∷ []
    → map level (reverse before) ≡ level l ∷ map level (reverse after)
top_off before after l e = rw (e, reverse-append) refl

pub top_on : (before after : List declared.Level) (l : declared.Level) → after ≡ before ++ l ∷ []
    → map level (reverse after) ≡ level l ∷ map level (reverse before)
top_on before after l e = rw (e, reverse-append) refl

-- ## Whether one of them holds a place

or_comm : (a b : Bool) → (a || b) ≡ (b || a)
or_comm a b = grind arith

any_append : (p : ℕ) (xs ys : List Level) → any_holds p (xs ++ ys) ≡ (any_holds p xs || any_holds p ys)
any_append p [] ys = refl
any_append p (x ∷ xs) ys = cc (any_append p xs ys, or_assoc (holds p x) (any_holds p xs) (any_holds p ys))

any_reverse : (p : ℕ) (xs : List declared.Level) → any_holds p (map level (reverse xs)) ≡ any_holds p (map level xs)
any_reverse p [] = refl
any_reverse p (x ∷ xs) =
    let one : reverse (x ∷ xs) ≡ reverse xs ++ x ∷ [] = reverse-append (x ∷ []) xs in
    ap (λ ys. any_holds p (map level ys)) one ∙ ap (any_holds p) (map-append level (reverse xs) (x ∷ []))
    ∙ any_append p (map level (reverse xs)) (level x ∷ [])
    ∙ ap (λ b. b || (holds p (level x) || false)) (any_reverse p xs)
    ∙ ap (λ b. any_holds p (map level xs) || b) (or-false (holds p (level x)))
    ∙ or_comm (any_holds p (map level xs)) (holds p (level x))

-- one of those from i on does
pub one_holds : (p i : ℕ) (xs : List declared.Level) (x : declared.Level) → i < length xs → x ≡ get_or xs i x
    → holds p (level x) ≡ true → any_holds p (map level (drop i xs)) ≡ any_holds p (map level xs)
    → true ≡ any_holds p (map level (reverse xs))
one_holds p i xs x h item known others = grind (arith, any_reverse, drop-cons)

drop_nothing : {X : Type 0} → (n : ℕ) → drop {A = X} n [] ≡ []
drop_nothing n = grind arith

past_end : {X : Type 0} → (i : ℕ) (xs : List X) → length xs ≤ i → drop i xs ≡ []
past_end i [] h = drop_nothing i
past_end zero (x ∷ xs) h = absurd (omega (arith, h))
past_end (suc i) (x ∷ xs) h = past_end i xs (omega (arith, h))

-- none does
pub none_holds : (p i : ℕ) (xs : List declared.Level) → length xs ≤ i
    → any_holds p (map level (drop i xs)) ≡ any_holds p (map level xs)
    → false ≡ any_holds p (map level (reverse xs))
none_holds p i xs h others =
    let rest : any_holds p (map level (drop i xs)) ≡ false = ap (λ ys. any_holds p (map level ys)) (past_end i xs h) in
    sym (any_reverse p xs ∙ sym others ∙ rest)

-- ## Keys, and how many levels there are

-- the key that may begin at the next token
abbrev pub saved : Bool → ℕ → Marker → Option Candidate → Option Candidate
saved true n m k = Some (record { mark = m; place = n })
saved false n m k = k

-- a level, of what is open and the key there
abbrev pub level_of : Context → Option Candidate → Level
level_of x k = record { context = x; key = k }
