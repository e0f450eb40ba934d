-- What is known of each step, told with the place of its refusal: of what it passes, and of all that it does.
use Rattle.saphyr_scanner.proofs.Common.{◌≡◌, ℕ, ◌^◌, ◌≤◌, ◌<◌, false, List, length, Option, Some, None, Result, Ok, Err, refl, arith, IsTrue, slice_index, SkipTabs, Marker, Refusal, IsRefusedInside, Cursor, start_cursor, ◌>>=◌, separation, by_test, Given}
use Rattle.saphyr_input.specs.declared.input.SkipTabs.TheVariants as tabs
use Rattle.saphyr_scanner.specs.Steps.Queue.{Queue, next}
use Rattle.saphyr_scanner.specs.Steps.Core.{Core, Action, Step, StepResult, perform, least_column}
use Rattle.saphyr_scanner.specs.Steps.Gap as gaps
use Rattle.saphyr_scanner.specs.Steps.Passing.{separate, with_cursor, pass_gap, check_comment, goes_on_behind, behind_gap, check_comment_of}
use Rattle.saphyr_scanner.specs.TokensTaken.{AreApart, begins_text}
use Rattle.saphyr_scanner.specs.TokensInPlace.{Enclosures}
use Rattle.saphyr_scanner.proofs.Effects.Readers.{TextLaws, RefusalLaws}
use Rattle.saphyr_scanner.proofs.Effects.Steps.{EffectAt}
use Rattle.saphyr_scanner.proofs.Effects.Moves.{DoesWithin, Does, IsBeforePlace, IsNextPlace, Same, same}
use Rattle.saphyr_scanner.proofs.LineTails.{OnLine, separation_passes}
use Rattle.saphyr_scalar.proofs.Plain.Behind.{IsNoted}
use Rattle.saphyr_scanner.proofs.Reached.{passed_reached}
use Rattle.saphyr_scanner.proofs.Taken.Cores.{HoldsTaken}
use Rattle.saphyr_scanner.proofs.Taken.Keys.{IsArrival}
use Rattle.saphyr_scanner.proofs.Taken.Held.{Setting}
use Rattle.saphyr_scanner.proofs.Taken.Later.{LaterThan}
use Rattle.saphyr_scanner.proofs.Taken.Places.{Reaches, At, at_here, at_further, at_reached}
use Rattle.saphyr_scanner.proofs.Taken.Separated.{Refused, gap_apart, gap_refused, BeginsText, gap_begins, Breaks, gap_breaks}
use Rattle.saphyr_scanner.proofs.Taken.Arrivals.{AllowsBehind, gap_allows}
use Rattle.saphyr_scanner.proofs.Taken.States.{FetchedStep, holds_fetched}

-- ## What a step gives, and where it refuses

-- what a refusal's place is told of
abbrev pub Premises : Core → Type 0
Premises c = RefusalLaws × TextLaws × (c.comment ≡ None)

abbrev pub Walked : {X : Type 0} → Type 0 → (X → Type 0) → Cursor → Result X Refusal → Type 0
Walked A P s (Ok x) = P x
Walked A P s (Err e) = A → At s e.mark

pub walked_then : {X Y : Type 0}
    → (A : Type 0) (P : X → Type 0) (Q : Y → Type 0) (s : Cursor) (r : Result X Refusal) (f : X → Result Y Refusal)
    → Walked A P s r → ((x : X) → P x → Walked A Q s (f x)) → Walked A Q s (r >>= f)
walked_then A P Q s (Ok x) f h go = go x h
walked_then A P Q s (Err e) f h go = h

pub walked_map : {X : Type 0} → (A : Type 0) (P Q : X → Type 0) (s : Cursor) (r : Result X Refusal)
    → ((x : X) → P x → Q x) → Walked A P s r → Walked A Q s r
walked_map A P Q s (Ok x) go h = go x h
walked_map A P Q s (Err e) go h = h

pub walked_given : {X : Type 0} → (A : Type 0) (P Q : X → Type 0) (s : Cursor) (r : Result X Refusal)
    → ((x : X) → P x → Q x) → Walked A P s r → Given Q r
walked_given A P Q s (Ok x) go h = go x h
walked_given A P Q s (Err e) go h = tt

pub does_weaker : {A B : Type 0} {x y : Enclosures} {m n : Option ℕ} {k v w : ℕ} {c d : Core} {actions : List Action}
    → v ≤ w → (B → A)
    → ((h : ℕ) → IsBeforePlace h n → IsBeforePlace h m) → ((q : Queue) → IsNextPlace n c q → IsNextPlace m c q)
    → DoesWithin A x y m k v c d actions → DoesWithin B x y n k w c d actions
does_weaker {A} {B} {x} {y} {m} {n} {k} {v} {w} {c} {d} {actions} l premise before there a = record {
  less = a.less;
  ahead = a.ahead;
  puts = a.puts;
  started = a.started;
  ended = a.ended;
  goes_on = a.goes_on;
  few = let f = a.few in omega (arith, f, l);
  keeps = λ h i. a.keeps h (before h i);
  holds = λ p laws opened from q i. a.holds (premise p) laws opened from q (there q i);
  noted = a.noted;
}

-- at most so many become due
pub at_most : {A : Type 0} {x y : Enclosures} {n : Option ℕ} {k v w : ℕ} {c d : Core} {actions : List Action} → v ≤ w
    → DoesWithin A x y n k v c d actions → DoesWithin A x y n k w c d actions
at_most l a = does_weaker l (λ p. p) (λ h i. i) (λ q i. i) a

-- what rests on nothing
pub resting : {A : Type 0} {n : Option ℕ} {k w : ℕ} {c d : Core} {actions : List Action}
    → Does (Unit {0}) n k w c d actions → Does A n k w c d actions
resting a = does_weaker (omega arith) (λ p. tt) (λ h i. i) (λ q i. i) a

-- a character at least is taken off, and five tokens at most become due
abbrev pub Doing : Option ℕ → Core → Step → Type 0
Doing n c x = Does (IsArrival c) n 1 5 c x.core x.actions

-- What is known of each step, where its token has the place of this number: of the text taken off, the order and the
-- count of its tokens, and the candidates; that its tokens are taken from the text; and that a comment it notes is
-- where the text goes on.
pub record Stepped (n : ℕ) (c : Core) (x : Step) : Type 0 where
  pub effect : EffectAt n c x
  pub fetched : TextLaws → (text : List ℕ) → length text < 2 ^ 63 → (opened : Setting) (from : Cursor) (q : Queue)
      → LaterThan (start_cursor text) from → n ≡ next q → IsArrival c
      → HoldsTaken opened from c q → FetchedStep opened from q x
  pub noted : c.comment ≡ None → IsNoted x.core.comment x.core.cursor

pub walked_step : (A : Type 0) (n : ℕ) (c : Core) (s : Cursor) (r : StepResult) → Walked A (Doing (Some n) c) s r
    → Walked A (Stepped n c) s r
walked_step A n c s r h = walked_map A (Doing (Some n) c) (Stepped n c) s r (λ x d. record {
  effect = record {
    less = λ laws. let l = d.less laws in omega (arith, l);
    ahead = d.ahead;
    puts = d.puts;
    started = d.started;
    ended = d.ended;
    goes_on = d.goes_on;
    few = d.few;
    keeps = λ i a. d.keeps i a.0 a.1;
  };
  fetched = λ laws text small opened from q l e arrival k.
      holds_fetched opened from x.core (perform x.actions q) (d.holds arrival laws opened from q (e, arrival.0) k);
  noted = d.noted;
}) h

-- where no key is saved
pub unsaved_step : (A : Type 0) (n : ℕ) (c : Core) (s : Cursor) (r : StepResult) → Walked A (Doing None c) s r
    → Walked A (Stepped n c) s r
unsaved_step A n c s r h = walked_step A n c s r (walked_map A (Doing None c) (Doing (Some n) c) s r
    (λ x d. does_weaker (omega arith) (λ p. p) (λ i b. tt) (λ q i. tt) d) h)

-- ## What is passed

-- the refusal is where the text was reached
pub at_reach : (s t : Cursor) → Reaches s t → At s t.mark
at_reach s t a = at_further s t t.mark a (at_here t)

pub at_inside : (s : Cursor) (e : Refusal) → IsRefusedInside s e → At s e.mark
at_inside s e w = at_reached s e.mark w.0 (passed_reached s.mark s.rest e.mark w.0 w.1)

-- what a reader gives, and where it refuses
pub read_walked : {X : Type 0} → (A : Type 0) (s : Cursor) (r : Result X Refusal)
    → ((e : Refusal) → r ≡ Err e → A → At s e.mark) → Walked A (λ x. r ≡ Ok x) s r
read_walked A s r known = grind arith

pub separate_walked : (b : Core) (s : Cursor) (c : Core) → (Premises b → Reaches s c.cursor)
    → Walked (Premises b)
    (λ (x : SkipTabs × Core). Same c x.1 × OnLine c.cursor x.1.cursor × (x.1.key_allowed ≡ c.key_allowed)) s
    (separate c)
separate_walked b s c a = by (separation tabs.Yes c.cursor) refl (separation_passes c.cursor)
  where
    by : (r : Result (SkipTabs × Cursor) Refusal) → separation tabs.Yes c.cursor ≡ r
        → Given (λ (x : SkipTabs × Cursor). OnLine c.cursor x.1) r
        → Walked (Premises b)
        (λ (x : SkipTabs × Core). Same c x.1 × OnLine c.cursor x.1.cursor × (x.1.key_allowed ≡ c.key_allowed)) s
        (r >>= λ x. Ok (x.0, with_cursor x.1 c))
    by (Ok x) e h = (same c, h, refl)
    by (Err e) f h =
        λ laws. at_further s c.cursor e.mark (a laws) (at_inside c.cursor e (laws.0.separation tabs.Yes c.cursor e f))

-- after a gap, where a text begins
abbrev pub Gapped : Core → Core → Type 0
Gapped c d = Same c d × AreApart c.cursor d.cursor × IsTrue (begins_text (slice_index d.cursor.rest 0))
    × AllowsBehind c d

-- A gap moves the place to where a text begins, and keeps all else (`Gapped`). Its own faults are refused at a place
-- inside it. The check of a comment behind a plain scalar refuses nothing, since there is none (`none`).
pub gap_walked : (b : Core) (s : Cursor) (c : Core) → (Premises b → Reaches s c.cursor)
    → (Premises b → c.comment ≡ None)
    → Walked (Premises b) (Gapped c) s (pass_gap c)
unfolding pass_gap check_comment
gap_walked b s c a none =
    let l = least_column c in
    by (gaps.whole_gap l c.cursor) (gap_apart l c.cursor) (gap_begins l c.cursor) (gap_breaks l c.cursor)
    (gap_refused l c.cursor)
  where
    checked : (o : Option Marker) (d : Core) → Gapped c d → (Premises b → o ≡ None)
        → Walked (Premises b) (Gapped c) s (check_comment_of o d)
    checked None d g n = g
    checked (Some k) d g n = by_test (goes_on_behind k (record d { comment = None })) _ _
        (Walked (Premises b) (Gapped c) s) (λ _ laws. absurd (let no = n laws in cc))
        (λ _. (
          (g.0.0, g.0.1, (λ _. refl), g.0.3),
          g.1,
          g.2,
          record { begins = g.3.begins; keeps = g.3.keeps; ends = g.3.ends },
        ))

    by : (r : Result gaps.GapEnd Refusal) → Given (λ (p : gaps.GapEnd). AreApart c.cursor p.cursor) r
        → Given BeginsText r → Given (Breaks c.cursor.mark false) r → Refused c.cursor.mark c.cursor.rest r
        → Walked (Premises b) (Gapped c) s (r >>= λ g. check_comment_of (behind_gap c g).comment (behind_gap c g))
    by (Ok g) h t l k = checked c.comment (behind_gap c g) ((refl, refl, (λ n. n), refl), h, t, gap_allows c g l) none
    by (Err e) h t l k = λ laws. at_further s c.cursor e.mark (a laws) (at_reached c.cursor e.mark k.0 k.1)
