-- What a step does, in one statement, and the moves of which each step is put together. From the statement follow what
-- is taken off the text, the order of the tokens, how many they are, what may be a key, and that each is a token of the
-- text.
use Rattle.saphyr_scanner.proofs.Common.{◌≡◌, ℕ, ◌+◌, ◌-◌, ◌≤◌, Bool, true, false, List, [], ◌∷◌, ◌++◌, length, Option, Some, None, arith, refl, sym, ap, ◌∙◌, subst, inl, Cursor}
use Rattle.saphyr_scanner.specs.Steps.Queue.{Queue, is_empty_list, next}
use Rattle.saphyr_scanner.specs.Steps.Core.{Core, Action, Put, Open, act, perform, in_block}
use Rattle.saphyr_scanner.specs.Steps.Level.{Level, is_block}
use Rattle.saphyr_scanner.specs.Steps.Flow as flow
use Rattle.saphyr_scanner.specs.TokensTaken.{AreApart}
use Rattle.saphyr_scanner.specs.TokensInPlace.{Enclosures, left_for}
use Rattle.saphyr_scanner.proofs.Added.Queue.{PutsGoOn, added, at_most_one, open_blocks}
use Rattle.saphyr_scanner.proofs.Counted.{Ahead, ahead_ahead}
use Rattle.saphyr_scanner.proofs.Effects.Readers.{Readers, ReaderEnds, TextLaws}
use Rattle.saphyr_scanner.proofs.Ordered.Queue.{PutsInOrder}
use Rattle.saphyr_scalar.proofs.Plain.Behind.{IsNoted}
use Rattle.saphyr_scanner.proofs.Taken.Bare.{KeepsEntry}
use Rattle.saphyr_scanner.proofs.Taken.Candidates.{KeyAbove, LevelsAbove, Above, ActionsAbove}
use Rattle.saphyr_scanner.proofs.Taken.Cores.{HoldsWithin, Lesser, Requires, holds_lesser}
use Rattle.saphyr_scanner.proofs.Taken.Indented.{IsRight, root_key}
use Rattle.saphyr_scanner.proofs.Taken.Held.{enclosure_of, enclosed_by, enclosures_of, Setting, AllowsKey}
use Rattle.saphyr_scanner.proofs.Taken.Keys.{Keys}
use Rattle.saphyr_scanner.proofs.Taken.KeysInPlace.{free}
use Rattle.saphyr_scanner.proofs.Taken.Later.{apart_later}

-- ## The statement

-- the place where the next token is put, if it may be a key
abbrev pub IsNextPlace : Option ℕ → Core → Queue → Type 0
IsNextPlace None c q = Unit {0}
IsNextPlace (Some n) c q = (n ≡ next q) × (in_block c ≡ true → c.indent ≤ c.cursor.mark.col + 1)

abbrev pub IsBeforePlace : ℕ → Option ℕ → Type 0
IsBeforePlace h None = Unit {0}
IsBeforePlace h (Some n) = h ≤ n

-- From c to d these actions are done, by which a key may be saved for the place n: k characters at least are taken off,
-- and w tokens at most become due. What the readers take off and read is told by their laws. What encloses the next
-- token changes, and that the tokens are taken from the text may rest on a premise.
pub record DoesWithin (A : Type 0) (within behind : Enclosures) (n : Option ℕ) (k w : ℕ) (c d : Core)
    (actions : List Action) : Type 0 where
  pub less : Readers → length d.cursor.rest + k ≤ length c.cursor.rest
  pub ahead : ReaderEnds → Ahead c.cursor d.cursor
  pub puts : ReaderEnds → PutsInOrder d.cursor.mark.index c.cursor.mark.index actions
  pub started : d.started ≡ c.started
  pub ended : d.ended ≡ c.ended
  pub goes_on : PutsGoOn actions
  pub few : added actions + open_blocks d ≤ open_blocks c + w
  pub keeps : (h : ℕ) → IsBeforePlace h n → Above h c → Above h d × ActionsAbove h actions
  pub holds : A → TextLaws → (opened : Setting) (from : Cursor) (q : Queue) → IsNextPlace n c q
      → HoldsWithin within opened from c q → HoldsWithin behind opened from d (perform actions q)
  pub noted : c.comment ≡ None → IsNoted d.comment d.cursor

abbrev pub Does : Type 0 → Option ℕ → ℕ → ℕ → Core → Core → List Action → Type 0
Does A n k w c d actions = DoesWithin A (enclosures_of c) (enclosures_of d) n k w c d actions

-- the same encloses the next token
pub encloses : {A : Type 0} {x y z : Enclosures} {n : Option ℕ} {k w : ℕ} {c d : Core} {actions : List Action} → z ≡ y
    → DoesWithin A x y n k w c d actions → DoesWithin A x z n k w c d actions
encloses {A} {x} {y} {z} {n} {k} {w} {c} {d} {actions} e a =
    let P : Enclosures → Type 0 = λ v. DoesWithin A x v n k w c d actions in subst P (sym e) a

-- ## One after another

put_lower : (high mid low : ℕ) (actions : List Action) → low ≤ mid → PutsInOrder high mid actions
    → PutsInOrder high low actions
put_lower high mid low [] l h = omega (arith, l, h)
put_lower high mid low (Put t ∷ others) l h = (omega (arith, l, h.0), h.1, h.2)
put_lower high mid low (Open k o ∷ others) l h = put_lower high mid low others l h

puts_append : (high mid low : ℕ) (front back : List Action) → PutsInOrder mid low front → PutsInOrder high mid back
    → PutsInOrder high low (front ++ back)
puts_append high mid low [] back a b = put_lower high mid low back a b
puts_append high mid low (Put t ∷ others) back a b = (a.0, a.1, puts_append high mid t.span.end.index others back a.2 b)
puts_append high mid low (Open k o ∷ others) back a b = puts_append high mid low others back a b

goes_on_append : (front back : List Action) → PutsGoOn front → PutsGoOn back → PutsGoOn (front ++ back)
goes_on_append [] back a b = b
goes_on_append (Put t ∷ others) back a b = (a.0, goes_on_append others back a.1 b)
goes_on_append (Open k o ∷ others) back a b = goes_on_append others back a b

added_append : (front back : List Action) → added (front ++ back) ≡ added front + added back
added_append [] back = omega arith
added_append (Put t ∷ others) back = let e = added_append others back in omega (arith, e)
added_append (Open k o ∷ others) back = let e = added_append others back in omega (arith, e)

above_append : (h : ℕ) (front back : List Action) → ActionsAbove h front → ActionsAbove h back
    → ActionsAbove h (front ++ back)
above_append h [] back a b = b
above_append h (Put t ∷ others) back a b = above_append h others back a b
above_append h (Open k o ∷ others) back a b = (a.0, above_append h others back a.1 b)

perform_append : (front back : List Action) (q : Queue) → perform (front ++ back) q ≡ perform back (perform front q)
perform_append [] back q = refl
perform_append (a ∷ others) back q = perform_append others back (act a q)

-- no comment comes
abbrev pub NoComment : Core → Core → Type 0
NoComment c d = c.comment ≡ None → d.comment ≡ None

-- one move and another after it, where the first notes no comment
pub and_then : {A : Type 0} {x y z : Enclosures} {n : Option ℕ} {k l v w : ℕ} {c d e : Core}
    {front back : List Action} → NoComment c d → DoesWithin A x y n k v c d front → DoesWithin A y z None l w d e back
    → DoesWithin A x z n (k + l) (v + w) c e (front ++ back)
and_then {A} {x} {y} {z} {n} {k} {l} {v} {w} {c} {d} {e} {front} {back} m a b = record {
  less = λ laws. let i = a.less laws in let j = b.less laws in omega (arith, i, j);
  ahead = λ laws. ahead_ahead c.cursor d.cursor e.cursor (a.ahead laws) (b.ahead laws);
  puts = λ laws. puts_append e.cursor.mark.index d.cursor.mark.index c.cursor.mark.index front back (a.puts laws)
      (b.puts laws);
  started = b.started ∙ a.started;
  ended = b.ended ∙ a.ended;
  goes_on = goes_on_append front back a.goes_on b.goes_on;
  few = let i = a.few in let j = b.few in let f = added_append front back in omega (arith, i, j, f);
  keeps = λ h i s.
      let p = a.keeps h i s in
      let q = b.keeps h tt p.0 in (q.0, above_append h front back p.1 q.1);
  holds = λ premise laws opened from q i h.
      rw (perform_append front back q) (b.holds premise laws opened from (perform front q) tt
      (a.holds premise laws opened from q i h));
  noted = λ f. b.noted (m f);
}

-- ## Nothing is put

-- what is known besides the place and the level
pub record Around : Type 0 where
  pub outer : List Level
  pub indent : ℕ
  pub outer_indents : List ℕ
  pub started : Bool
  pub ended : Bool
  pub adjacent : ℕ

abbrev pub around : Core → Around
around c = record {
  outer = c.outer;
  indent = c.indent;
  outer_indents = c.outer_indents;
  started = c.started;
  ended = c.ended;
  adjacent = c.adjacent;
}

abbrev pub Same : Core → Core → Type 0
Same c d = (d.level ≡ c.level) × (around d ≡ around c) × NoComment c d × (d.required ≡ c.required)

pub same : (c : Core) → Same c c
same c = (refl, refl, (λ n. n), refl)

lesser_above : (h : ℕ) (l m : Level) → Lesser l m → KeyAbove h l.key → KeyAbove h m.key
lesser_above h l m e a = grind arith

-- separation is passed, and the key may be forgotten
pub lesser : {A : Type 0} (within : Enclosures) (c d : Core) → Lesser c.level d.level → around d ≡ around c
    → NoComment c d → AreApart c.cursor d.cursor → (A → AllowsKey c d) → Requires c d
    → DoesWithin A within within None 0 0 c d []
lesser within c d l a m p allows r =
    let later = apart_later c.cursor.mark c.cursor.rest d.cursor.mark d.cursor.rest p in
    record {
      less = λ _. omega (arith, later.index, later.counted);
      ahead = λ _. record { later = later.index; counted = later.counted };
      puts = λ _. later.index;
      started = ap (λ (x : Around). x.started) a;
      ended = ap (λ (x : Around). x.ended) a;
      goes_on = tt;
      few = omega (arith, ap (λ (x : Around). at_most_one x.indent + length x.outer_indents) a);
      keeps = λ h _ x.
          let P : List Level → Type 0 = λ ls. LevelsAbove h ls in (
            (lesser_above h c.level d.level l x.0, subst P (sym (ap (λ (y : Around). y.outer) a)) x.1),
            tt,
          );
      holds = λ premise _ opened from q _ h.
          holds_lesser within opened from c d q l (ap (λ (x : Around). x.outer) a) (ap (λ (x : Around). x.indent) a)
          (ap (λ (x : Around). x.outer_indents) a) (ap (λ (x : Around). x.adjacent) a) p (allows premise) r
          h;
      noted = λ f. inl (m f);
    }

pub further_within : {A : Type 0} (within : Enclosures) (c d : Core) → Same c d → AreApart c.cursor d.cursor
    → (A → AllowsKey c d) → DoesWithin A within within None 0 0 c d []
further_within within c d s p allows = lesser within c d
    (record { block = ap (λ (l : Level). is_block l.context) s.0; key = inl (ap (λ (l : Level). l.key) s.0) }) s.1 s.2
    p allows (record { required = s.3; key = λ _ _. ap (λ (l : Level). l.key) s.0 })

-- where a key may begin it is not asked how far right the text goes on
pub allows_right : (c d : Core) → (d.key_allowed ≡ true → c.key_allowed ≡ true)
    → (in_block d ≡ true → d.key_allowed ≡ true) → KeepsEntry c d → AllowsKey c d
allows_right c d begins free entry = ((λ a. inl (begins a)), (λ _ b f. absurd (let e = free b in cc)), entry)

-- the text goes on at the same place
pub same_right : (c d : Core) → Same c d → d.cursor ≡ c.cursor → d.key_allowed ≡ c.key_allowed → IsRight c → IsRight d
same_right c d s e k h b f l = grind arith

-- it is known of a place what is of the one that is reached
pub right_before : (c d : Core) (u : Cursor) → Same c d → d.cursor ≡ u → IsRight d
    → IsRight (record c { cursor = u; key_allowed = d.key_allowed })
right_before c d u s e h b f l = grind arith

pub same_around : (c d : Core) → Same c d → enclosures_of d ≡ enclosures_of c
same_around c d s = grind arith

pub further : {A : Type 0} (c d : Core) → Same c d → AreApart c.cursor d.cursor → (A → AllowsKey c d)
    → Does A None 0 0 c d []
further c d s p allows = encloses (same_around c d s) (further_within (enclosures_of c) c d s p allows)

-- what is known stays, where the text doesn't go on
pub still_within : {A : Type 0} (within : Enclosures) (c d : Core) → Same c d → d.cursor ≡ c.cursor
    → (A → AllowsKey c d) → DoesWithin A within within None 0 0 c d []
still_within within c d s e allows = grind arith

pub still : {A : Type 0} (c d : Core) → Same c d → d.cursor ≡ c.cursor → (A → AllowsKey c d) → Does A None 0 0 c d []
still c d s e allows = encloses (same_around c d s) (still_within (enclosures_of c) c d s e allows)

-- a flow collection is left for the level around it
pub record Left (c : Core) (l : Level) (ls : List Level) : Type 0 where
  pub above : (h : ℕ) → LevelsAbove h c.outer → KeyAbove h l.key × LevelsAbove h ls
  pub keys : (all : Enclosures) (b : ℕ) (q : Queue) → Keys all b q c.indent c.outer → Keys all b q c.indent (l ∷ ls)
  pub root : is_empty_list c.outer ≡ false → root_key (l ∷ ls) ≡ root_key c.outer
  pub fewer : length ls ≡ length c.outer - 1
  pub encloses : (columns : List ℕ)
      → free (enclosure_of l.context) (record { enclosed = enclosed_by ls; columns = columns })
      ≡ left_for (enclosed_by c.outer) columns

pub leaving : (c : Core) (P : Core → Type 0)
    → ((l : Level) (ls : List Level) → Left c l ls → P (record c { level = l; outer = ls; key_allowed = false }))
    → P (flow.leave c)
leaving c u0 f = grind arith
