-- Tokens that two machines side by side pass, and their directives.
use Rattle.std.proofs.Common.{◌≡◌, ℕ, ◌+◌, Bool, true, false, List, [], ◌∷◌, Result, Ok, refl, arith, ◌⊎◌, inl, inr}
use Rattle.std.specs.Prelude.{if◌then◌else◌}
use Rattle.saphyr_scalar.specs.declared.scalar.position.Marker.{Marker}
use Rattle.saphyr_scalar.specs.declared.scalar.fault.Refusal.{Refusal}
use Rattle.saphyr_scanner.specs.Grammar.Tokens as tokens
use Rattle.saphyr_scanner.specs.Grammar.Tokens.{Kind}
use Rattle.saphyr_scanner.specs.Views.Tokens.{Piece, Remaining}
use Rattle.saphyr_machine.specs.Steps.Machine.{◌>>=◌, Machine, with_pieces}
use Rattle.saphyr_machine.specs.Steps.Documents.{unpassed_token_from, is_mark, is_end_or_mark, Declared, is_directive, directive_at, directives_from}
use Rattle.saphyr_machine.specs.Answer.{total_weight}
use Rattle.saphyr_machine.proofs.Beside.Machines.{Beside, After, SpansAlike, With, Facing, Held, GivesAlike, AtBoth, goes_on, of_kind, over, Head, head, holds_head, changed}

-- ## Tokens that are passed

-- a token of both, and what is left after it
abbrev pub Has : Beside → ℕ → Piece × Machine → Piece × Machine → Type 0
Has w d x y = Held w d x.0.kind x.0 y.0 x.1 y.1

-- Of both, these tokens are left, of which S holds: nothing that the first machine could pass.
abbrev pub StopsAlike : Beside → (Remaining → Remaining → Type 0) → (Kind → Bool) → Machine → Machine
    → Result (Piece × Machine) Refusal → Result (Piece × Machine) Refusal → Type 0
StopsAlike w S p m n a b = (ts : List Piece) × (us : List Piece) × With w S (with_pieces ts m) (with_pieces us n)
    × (a ≡ unpassed_token_from p ts (with_pieces ts m)) × (b ≡ unpassed_token_from p us (with_pieces us n))

abbrev pub PassesAlike : Beside → ℕ → (Remaining → Remaining → Type 0) → (Kind → Bool) → Machine → Machine
    → Result (Piece × Machine) Refusal → Result (Piece × Machine) Refusal → Type 0
PassesAlike w d S p m n a b = GivesAlike w (Has w d) a b ⊎ StopsAlike w S p m n a b

-- what is left after a token that is passed
abbrev pub Goes : Beside → (Remaining → Remaining → Type 0) → (Kind → Bool) → Type 0
Goes w S p = (d : ℕ) (b y : Marker) (k : Kind) (r q : Remaining) → p k ≡ true → After w d k b y r q
    → w.Ahead b y (10 + d) r q ⊎ S r q

pub has : (w : Beside) (d : ℕ) (k : Kind) (t u : Piece) (m n : Machine) → Held w d k t u m n
    → Held w d t.kind t u m n
has w d k t u m n h = grind arith

module _ (w : Beside) (d : ℕ) where
  pub passes : (S : Remaining → Remaining → Type 0) (p : Kind → Bool) → Goes w S p → (ts us : List Piece)
      (a x : Marker) (m n : Machine) → Facing w a x d ts us m n
      → PassesAlike w d S p m n (unpassed_token_from p ts m) (unpassed_token_from p us n)
  passes S p go [] us a x m n f = inl (over w (Has w d) a x d us m n (λ us. unpassed_token_from p us n) f refl)
  passes S p go (t ∷ ts) us a x m n f =
      rw v.is (by (p t.kind) refl
      (λ b. passes S p go ts v.tail t.span.end v.span.end (with_pieces ts m) (with_pieces v.tail n) b))
    where
      v : Head w a x d t ts us m n
      v = head w a x d t ts us m n f

      r : Remaining
      r = record { pieces = ts; refusal = m.tokens.refusal }

      q : Remaining
      q = record { pieces = v.tail; refusal = n.tokens.refusal }

      Passed : Type 0
      Passed = PassesAlike w d S p m n (unpassed_token_from p ts (with_pieces ts m))
          (unpassed_token_from p v.tail (with_pieces v.tail n))

      Next : Type 0
      Next = Facing w t.span.end v.span.end d ts v.tail (with_pieces ts m) (with_pieces v.tail n) → Passed

      left : w.Ahead t.span.end v.span.end (10 + (d + total_weight m.states)) r q ⊎ S r q → Next → Passed
      left (inl o) next = next (changed w _ _ m n r q m.state n.state m.states n.states
          (w.less _ _ _ _ r q (omega arith) o) f.states f)
      left (inr s) next =
          inr (ts, v.tail, changed w _ _ m n r q m.state n.state m.states n.states s f.states f, refl, refl)

      by : (b : Bool) → p t.kind ≡ b → Next → PassesAlike w d S p m n
          (if b then unpassed_token_from p ts (with_pieces ts m) else Ok (t, with_pieces ts m))
          (if b then unpassed_token_from p v.tail (with_pieces v.tail n) else Ok
          (record { span = v.span; kind = t.kind }, with_pieces v.tail n))
      by true y next = left (go _ _ _ t.kind r q y v.behind) next
      by false y next = inl (holds_head w a x d t ts us m n f v)

pub goes_by_marks : (w : Beside) → Goes w (λ r q. ⊥) is_mark
goes_by_marks w d b y tokens.ByteOrderMark r q e h = inl h
goes_by_marks w d b y _ r q e h = absurd (cc)

pub goes_by_ends : (w : Beside) → Goes w (w.Over tokens.DocumentEnd) is_end_or_mark
goes_by_ends w d b y u0 r q e h = grind arith

pub behind_both : {X : Type 0} (w : Beside) (d : ℕ) (R : X → X → Type 0) (p q : Result (Piece × Machine) Refusal)
    (go ho : Kind → Piece → Machine → Result X Refusal) → AtBoth w d R go ho → GivesAlike w (Has w d) p q
    → GivesAlike w R (p >>= (λ t. go t.0.kind t.0 t.1)) (q >>= (λ t. ho t.0.kind t.0 t.1))
behind_both w d R p q go ho f g = goes_on w (Has w d) R p q _ _ g
    (λ x y h. of_kind w R go ho x.0.kind x.0 y.0 x.1 y.1 h (f x.0.kind x.0 y.0 x.1 y.1 h))

-- ## Directives

-- the same was declared, and these tokens are ahead
abbrev Declares : Beside → Marker → Marker → ℕ → List Piece → List Piece → Declared × Machine → Declared × Machine
    → Type 0
Declares w b z d ts us x y = (y.0 ≡ x.0) × Facing w b z d ts us x.1 y.1

directive_beside : (w : Beside) (b z : Marker) (e : ℕ) (k : Kind) (t u : Piece) (ts us : List Piece) (d : Declared)
    (m n : Machine) → SpansAlike w t.span u.span → Facing w b z e ts us m n
    → GivesAlike w (Declares w b z e ts us) (directive_at k t d m) (directive_at k u d n)
directive_beside w b z e u0 t u ts us d m n s f = grind arith

behind_directive : (w : Beside) (d : ℕ) (b y : Marker) (k : Kind) (r q : Remaining) → is_directive k ≡ true
    → After w d k b y r q → w.Ahead b y (10 + d) r q
behind_directive w d b y u0 r q e h = grind arith

module _ (w : Beside) (e : ℕ) where
  pub directives_beside : (ts us : List Piece) (d : Declared) (a x : Marker) (m n : Machine)
      → Facing w a x e ts us m n → GivesAlike w (Has w e) (directives_from ts d m) (directives_from us d n)
  directives_beside [] us d a x m n f = over w (Has w e) a x e us m n (λ us. directives_from us d n) f refl
  directives_beside (t ∷ ts) us d a x m n f = rw v.is (by (is_directive t.kind) refl
      (λ c k l b. directives_beside ts v.tail c t.span.end v.span.end k l b))
    where
      v : Head w a x e t ts us m n
      v = head w a x e t ts us m n f

      u : Piece
      u = record { span = v.span; kind = t.kind }

      r : Remaining
      r = record { pieces = ts; refusal = m.tokens.refusal }

      q : Remaining
      q = record { pieces = v.tail; refusal = n.tokens.refusal }

      Next : Type 0
      Next = (c : Declared) (k l : Machine) → Facing w t.span.end v.span.end e ts v.tail k l
          → GivesAlike w (Has w e) (directives_from ts c k) (directives_from v.tail c l)

      by : (b : Bool) → is_directive t.kind ≡ b → Next → GivesAlike w (Has w e)
          (if b then directive_at t.kind t d (with_pieces ts m) >>= (λ s. directives_from ts s.0 s.1) else Ok
          (t, with_pieces ts m))
          (if b then directive_at t.kind u d (with_pieces v.tail n) >>= (λ s. directives_from v.tail s.0 s.1) else Ok
          (u, with_pieces v.tail n))
      by true y next = goes_on w (Declares w t.span.end v.span.end e ts v.tail) (Has w e)
          (directive_at t.kind t d (with_pieces ts m)) (directive_at t.kind u d (with_pieces v.tail n)) _ _
          (directive_beside w t.span.end v.span.end e t.kind t u ts v.tail d (with_pieces ts m) (with_pieces v.tail n)
          v.own (changed w _ _ m n r q m.state n.state m.states n.states
          (w.less _ _ _ _ r q (omega arith) (behind_directive w _ _ _ t.kind r q y v.behind)) f.states f))
          (λ c z i. rw i.0 (next c.0 c.1 z.1 i.1))
      by false y next = holds_head w a x e t ts us m n f v
