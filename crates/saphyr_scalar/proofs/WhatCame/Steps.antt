-- Steps that give the same where more of the text comes, one after another.
use Rattle.saphyr_scalar.proofs.Common.{◌≡◌, ℕ, Bool, true, false, List, [], ◌∷◌, ◌++◌, drop, slice_index, Result, Ok, Err, refl, ap, ◌∙◌, arith, cond, ◌&&◌, ◌||◌, ◌==◌, nat_tests, is_break, Marker, Refusal, Cursor, is_missing, refuse_open, ◌>>=◌}
use Rattle.saphyr_scalar.specs.Steps.Block.{is_cr_lf}
use Rattle.saphyr_scalar.specs.declared.scalar.fault.FaultText.{FaultText}
use Rattle.saphyr_scalar.specs.Known.{is_open, may_be_open, longer, IsRestOfText}
use Rattle.saphyr_scalar.proofs.WhatCame.Rests.{later_here, later_on, later_than, lacks, enough_of, some_of, nothing_lacks, enough_before, left_enough, right_enough, is_nothing, first_known, not_open, closed_longer, is_there, there_longer}

-- what a value leaves of the text, and the value where more of the text comes
pub record Left (X : Type 0) : Type 0 where
  pub rest : X → List ℕ
  pub with_more : List ℕ → X → X

abbrev pub reader : Left Cursor
reader = record { rest = λ s. s.rest; with_more = longer }

abbrev pub beside : {X : Type 0} → Left (X × Cursor)
beside = record { rest = λ x. x.1.rest; with_more = λ more x. (x.0, longer more x.1) }

abbrev pub beside_two : {X Y : Type 0} → Left (X × Y × Cursor)
beside_two = record { rest = λ x. x.2.rest; with_more = λ more x. (x.0, x.1, longer more x.2) }

-- for what takes nothing off a text
abbrev pub kept : {X : Type 0} → List ℕ → Left X
kept text = record { rest = λ _. text; with_more = λ more x. x }

-- for what takes characters off a text which all came, whatever is left
abbrev pub whole : {X : Type 0} → List ℕ → Left (X × Cursor)
whole text = record { rest = λ _. text; with_more = beside.with_more }

-- A step over a text leaves a later part of it. The second step is the same step where more comes: it gives the
-- same, with more behind what is left, where enough of that is there. What no character that comes may change is
-- refused by both, and enough of it is in the text. Enough is a character, or what is not open: `asks` says which is
-- enough for what is given, and `says` which is there if something is refused.
pub record CameAs {X : Type 0} (asks says : Bool) (at : Left X) (more text : List ℕ) (r q : Result X Refusal)
    : Type 0 where
  pub later : (x : X) → r ≡ Ok x → IsRestOfText (at.rest x) text
  pub same : (x : X) → r ≡ Ok x → lacks asks (at.rest x) ≡ false → q ≡ Ok (at.with_more more x)
  pub known : (e : Refusal) → r ≡ Err e → e.may_change ≡ false → lacks says text ≡ false
  pub reported : (e : Refusal) → r ≡ Err e → e.may_change ≡ false → q ≡ Err e

-- where what is not open is enough
abbrev pub Came : {X : Type 0} → Left X → List ℕ → List ℕ → Result X Refusal → Result X Refusal → Type 0
Came at more text r q = CameAs true true at more text r q

-- where a character is enough
abbrev pub Sure : {X : Type 0} → Left X → List ℕ → List ℕ → Result X Refusal → Result X Refusal → Type 0
Sure at more text r q = CameAs false false at more text r q

-- where a character is enough for what is refused
abbrev pub Mixed : {X : Type 0} → Left X → List ℕ → List ℕ → Result X Refusal → Result X Refusal → Type 0
Mixed at more text r q = CameAs true false at more text r q

module _ {X : Type 0} {asks says : Bool} {at : Left X} {more : List ℕ} where
  pub stops : {text : List ℕ} {e : Refusal} {q : Result X Refusal} → (e.may_change ≡ false → lacks says text ≡ false)
      → (e.may_change ≡ false → q ≡ Err e) → CameAs asks says at more text (Err e) q
  stops u0 = grind arith

  -- by what was seen
  pub reports : {text : List ℕ} {e : Refusal} → lacks says text ≡ false → CameAs asks says at more text (Err e) (Err e)
  reports known = stops (λ _. known) (λ _. refl)

  -- by what may change with what comes
  pub refused : {text : List ℕ} {e : Refusal} {q : Result X Refusal} → e.may_change ≡ true
      → CameAs asks says at more text (Err e) q
  refused waits = stops (λ seen. absurd (cc)) (λ seen. absurd (cc))

  -- by what may change with what comes where a is true, which then is so of a longer text too
  unless : {text : List ℕ} {t : FaultText} {m : Marker} (a b : Bool) → (a ≡ false → b ≡ false)
      → (a ≡ false → lacks says text ≡ false)
      → CameAs asks says at more text (refuse_open a t m) (refuse_open b t m)
  unless true b seen known = refused refl
  unless {t = t} {m = m} false b seen known = stops known (λ _. ap (λ x. refuse_open x t m) (seen refl))

  -- by what may change where the text is open
  pub open_refused : {text : List ℕ} {t : FaultText} {m : Marker}
      → CameAs asks says at more text (refuse_open (may_be_open text) t m)
      (refuse_open (may_be_open (text ++ more)) t m)
  open_refused {text} = unless (may_be_open text) (may_be_open (text ++ more)) (closed_longer more text)
      (λ known. enough_of says text (not_open text known))

  -- by what may change where the text ends before a character, which is behind enough
  pub missing_refused : {text : List ℕ} {t : FaultText} {m : Marker} (n : ℕ) (r : List ℕ)
      → (is_nothing (drop n r) ≡ false → lacks says text ≡ false)
      → CameAs asks says at more text (refuse_open (is_missing n r) t m) (refuse_open (is_missing n (r ++ more)) t m)
  missing_refused n r known = unless (is_missing n r) (is_missing n (r ++ more)) (there_longer more n r)
      (λ there. known (is_there n r there))

  pub leaves : {text : List ℕ} {x : X} {q : Result X Refusal} → IsRestOfText (at.rest x) text
      → (lacks asks (at.rest x) ≡ false → q ≡ Ok (at.with_more more x)) → CameAs asks says at more text (Ok x) q
  leaves u0 = grind arith

  pub given : {text : List ℕ} {x : X} → IsRestOfText (at.rest x) text
      → CameAs asks says at more text (Ok x) (Ok (at.with_more more x))
  given later = leaves later (λ _. refl)

  -- nothing more is taken off
  pub stays : {x : X} → CameAs asks says at more (at.rest x) (Ok x) (Ok (at.with_more more x))
  stays {x = x} = given (later_here (at.rest x))

  -- a step over a later part, where the second is the same step if enough of that part is there
  pub behind : {text rest : List ℕ} {r q p : Result X Refusal} → IsRestOfText rest text
      → (lacks (asks && says) rest ≡ false → p ≡ q) → CameAs asks says at more rest r q
      → CameAs asks says at more text r p
  behind {rest = rest} later is h = record {
    later = λ x e. later_than (h.later x e) later;
    same = λ x e known. is (left_enough asks says rest (enough_before asks (h.later x e) known)) ∙ h.same x e known;
    known = λ e i seen. enough_before says later (h.known e i seen);
    reported = λ e i seen. is (right_enough asks says rest (h.known e i seen)) ∙ h.reported e i seen;
  }

  pub same_step : {text : List ℕ} {r q p : Result X Refusal} → (lacks (asks && says) text ≡ false → p ≡ q)
      → CameAs asks says at more text r q → CameAs asks says at more text r p
  same_step {text = text} is h = behind (later_here text) is h

  -- nothing is left
  pub ended : {r q p : Result X Refusal} → CameAs asks says at more [] r q → CameAs asks says at more [] r p
  ended h = same_step (λ e. let nothing = nothing_lacks (asks && says) in absurd (cc)) h

  -- the same step over a later part
  pub further : {text rest : List ℕ} {r q : Result X Refusal} → IsRestOfText rest text
      → CameAs asks says at more rest r q → CameAs asks says at more text r q
  further later h = behind later (λ _. refl) h

  pub past : {cs : List ℕ} {r q : Result X Refusal} (c : ℕ) → CameAs asks says at more cs r q
      → CameAs asks says at more (c ∷ cs) r q
  past {cs = cs} c h = further (later_on c (later_here cs)) h

  -- what a test wants, where it is refused otherwise
  pub only_if : {text : List ℕ} (a : Bool) {x q : Result X Refusal} (e : Refusal) → e.may_change ≡ true
      → (a ≡ true → CameAs asks says at more text x q) → CameAs asks says at more text (cond a x (Err e)) q
  only_if true e waits h = h refl
  only_if false e waits h = refused waits

  -- a choice by tests that come out alike, and what is given by what was chosen
  pub choose_of : {Y : Type 0} (k : Y → Result X Refusal) {text : List ℕ} (a b : Bool) {x y z w : Y}
      → (lacks (asks && says) text ≡ false → b ≡ a) → (a ≡ true → CameAs asks says at more text (k x) (k z))
      → (a ≡ false → CameAs asks says at more text (k y) (k w))
      → CameAs asks says at more text (k (cond a x y)) (k (cond b z w))
  choose_of k u0 b u1 = grind (arith, same_step, cond)

  pub choose_same : {text : List ℕ} (a b : Bool) {x y z w : Result X Refusal}
      → (lacks (asks && says) text ≡ false → b ≡ a) → (a ≡ true → CameAs asks says at more text x z)
      → (a ≡ false → CameAs asks says at more text y w) → CameAs asks says at more text (cond a x y) (cond b z w)
  choose_same a b is then else = choose_of (λ r. r) a b is then else

  pub choose : {text : List ℕ} (a : Bool) {x y z w : Result X Refusal}
      → (a ≡ true → CameAs asks says at more text x z) → (a ≡ false → CameAs asks says at more text y w)
      → CameAs asks says at more text (cond a x y) (cond a z w)
  choose a then else = choose_same a a (λ _. refl) then else

  pub choose_given : {text : List ℕ} (a : Bool) {x y z w : X}
      → (a ≡ true → CameAs asks says at more text (Ok x) (Ok z))
      → (a ≡ false → CameAs asks says at more text (Ok y) (Ok w))
      → CameAs asks says at more text (Ok (cond a x y)) (Ok (cond a z w))
  choose_given a then else = choose_of (λ x. Ok x) a a (λ _. refl) then else

  -- a choice by what the text shows
  pub choose_at : {text : List ℕ} (p : List ℕ → Bool) {x y z w : Result X Refusal}
      → (lacks (asks && says) text ≡ false → p (text ++ more) ≡ p text)
      → (p text ≡ true → CameAs asks says at more text x z) → (p text ≡ false → CameAs asks says at more text y w)
      → CameAs asks says at more text (cond (p text) x y) (cond (p (text ++ more)) z w)
  choose_at {text = text} p = choose_same (p text) (p (text ++ more))

  pub choose_first : {text : List ℕ} (p : ℕ → Bool) {x y z w : Result X Refusal}
      → (p (slice_index text 0) ≡ true → CameAs asks says at more text x z)
      → (p (slice_index text 0) ≡ false → CameAs asks says at more text y w)
      → CameAs asks says at more text (cond (p (slice_index text 0)) x y) (cond (p (slice_index (text ++ more) 0)) z w)
  choose_first {text = text} p then else = choose_at (λ t. p (slice_index t 0))
      (λ known. ap p (first_known more text (some_of (asks && says) text known))) then else

  -- less is said
  pub loosely : {text : List ℕ} {r q : Result X Refusal} → CameAs asks says at more text r q → Mixed at more text r q
  loosely u0 = grind arith

  -- more is known of the text
  pub known_by : {text rest : List ℕ} {r q : Result X Refusal} → IsRestOfText rest text
      → (is_nothing rest ≡ false → is_open text ≡ false) → CameAs asks says at more rest r q → Came at more text r q
  known_by u0 = grind (arith, later_than, enough_of, some_of)

no_cr : (p : Bool) (c : ℕ) (r : List ℕ) → is_break c ≡ false → (p || is_cr_lf c r) ≡ p
no_cr p c r e = grind (arith, nat_tests)

-- at a break: whether CR ends its line is told by the next character
module _ {X Y : Type 0} {asks says : Bool} {at : Left X} {more : List ℕ} (k : Y → Result X Refusal) (p : Bool) (c : ℕ)
    (cs : List ℕ)
  where
    pub at_break_in : {text : List ℕ} {x y z u v w : Y} → IsRestOfText (c ∷ cs) text
        → CameAs asks says at more text (k x) (k u)
        → CameAs asks says at more cs (k y) (k v) → CameAs asks says at more text (k z) (k w)
        → CameAs asks says at more text (k (cond (p || is_cr_lf c cs) x (cond (is_break c) y z)))
        (k (cond (p || is_cr_lf c (cs ++ more)) u (cond (is_break c) v w)))
    at_break_in {text} {x} {y} {z} {u} {v} {w} later first second third = by (is_break c) refl
      where
        -- where nothing comes behind CR, nothing is left
        ends : (b : Bool) → CameAs asks says at more [] (k y) (k v) → IsRestOfText [] text
            → CameAs asks says at more text (k (cond (b && false) x y)) (k (cond (b && (slice_index more 0 == 10)) u v))
        ends true h after = further after (ended h)
        ends false h after = further after h

        broken : (r : List ℕ) → CameAs asks says at more r (k y) (k v) → IsRestOfText r text
            → CameAs asks says at more text (k (cond (p || is_cr_lf c r) x y))
            (k (cond (p || is_cr_lf c (r ++ more)) u v))
        broken [] h after = or_else p
          where
            or_else : (a : Bool) → CameAs asks says at more text (k (cond (a || ((c == 13) && false)) x y))
                (k (cond (a || ((c == 13) && (slice_index more 0 == 10))) u v))
            or_else true = first
            or_else false = ends (c == 13) h after
        broken (d ∷ r) h after = let a = p || is_cr_lf c (d ∷ r) in
            choose_of k a a {y = y} {w = v} (λ _. refl) (λ _. first) (λ _. further after h)

        by : (b : Bool) → is_break c ≡ b → CameAs asks says at more text (k (cond (p || is_cr_lf c cs) x (cond b y z)))
            (k (cond (p || is_cr_lf c (cs ++ more)) u (cond b v w)))
        by true e = broken cs second (later_than (later_on c (later_here cs)) later)
        by false e = rw (no_cr p c cs e, no_cr p c (cs ++ more) e)
            (choose_of k p p {y = z} {w = w} (λ _. refl) (λ _. first) (λ _. third))

    pub at_break : {x y z u v w : Y} → CameAs asks says at more cs (k x) (k u) → CameAs asks says at more cs (k y) (k v)
        → CameAs asks says at more (c ∷ cs) (k z) (k w)
        → CameAs asks says at more (c ∷ cs) (k (cond (p || is_cr_lf c cs) x (cond (is_break c) y z)))
        (k (cond (p || is_cr_lf c (cs ++ more)) u (cond (is_break c) v w)))
    at_break first second third =
        at_break_in (later_here (c ∷ cs)) (past c first) second third

-- ## One step after another

-- where a character is enough for the first
pub and_then : {X Y : Type 0} {asks : Bool} {at : Left X} {by : Left Y} {more text : List ℕ}
    {r q : Result X Refusal} {f : X → Result Y Refusal} (g : X → Result Y Refusal)
    → Sure at more text r q
    → ((x : X) → r ≡ Ok x → CameAs asks false by more (at.rest x) (f x) (g (at.with_more more x)))
    → CameAs asks false by more text (r >>= f) (q >>= g)
and_then u0 = grind (arith, stops, behind, some_of)

-- where what is not open is enough for both
pub and_known : {X Y : Type 0} {at : Left X} {by : Left Y} {more text : List ℕ} {r q : Result X Refusal}
    {f : X → Result Y Refusal} (g : X → Result Y Refusal) → Came at more text r q
    → ((x : X) → r ≡ Ok x → Came by more (at.rest x) (f x) (g (at.with_more more x)))
    → Came by more text (r >>= f) (q >>= g)
and_known {r = Err e} g h next = stops (h.known e refl) (λ seen. ap (λ p. p >>= g) (h.reported e refl seen))
and_known {r = Ok x} g h next = behind (h.later x refl) (λ known. ap (λ p. p >>= g) (h.same x refl known)) (next x refl)

pub and_mixed : {X Y : Type 0} {at : Left X} {by : Left Y} {more text : List ℕ} {r q : Result X Refusal}
    {f : X → Result Y Refusal} (g : X → Result Y Refusal) → Mixed at more text r q
    → ((x : X) → r ≡ Ok x → Came by more (at.rest x) (f x) (g (at.with_more more x)))
    → Mixed by more text (r >>= f) (q >>= g)
and_mixed {r = Err e} g h next = stops (h.known e refl) (λ seen. ap (λ p. p >>= g) (h.reported e refl seen))
and_mixed {r = Ok x} g h next =
    loosely (behind (h.later x refl) (λ known. ap (λ p. p >>= g) (h.same x refl known)) (next x refl))

-- after something that is not refused
pub on : {X Y : Type 0} {asks says : Bool} {at : Left X} {by : Left Y} {more text : List ℕ} {x y : X}
    (f : X → Result Y Refusal) → Sure at more text (Ok x) (Ok y)
    → CameAs asks says by more (at.rest x) (f x) (f (at.with_more more x))
    → CameAs asks says by more text (f x) (f y)
on {asks = asks} {says = says} {at = at} {x = x} f h next = behind (h.later x refl)
    (λ known. ap (λ p. p >>= f) (h.same x refl (some_of (asks && says) (at.rest x) known))) next

pub on_known : {X Y : Type 0} {at : Left X} {by : Left Y} {more text : List ℕ} {x y : X} (f : X → Result Y Refusal)
    → Came at more text (Ok x) (Ok y) → Came by more (at.rest x) (f x) (f (at.with_more more x))
    → Came by more text (f x) (f y)
on_known {x = x} f h next = and_known f h (λ z e. let is : x ≡ z = cc in rw is at next)

-- another value with the same rest
pub mapped : {X Y : Type 0} {asks says : Bool} {at : Left X} {by : Left Y} {more text : List ℕ} (f : X → Y)
    (r q : Result X Refusal) → ((x : X) → by.rest (f x) ≡ at.rest x)
    → ((x : X) → f (at.with_more more x) ≡ by.with_more more (f x)) → CameAs asks says at more text r q
    → CameAs asks says by more text (r >>= λ x. Ok (f x)) (q >>= λ x. Ok (f x))
mapped f u0 q rest same h = grind arith
