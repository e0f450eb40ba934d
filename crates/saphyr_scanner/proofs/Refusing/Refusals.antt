-- What a step tells: what it gives, or a refusal at a place on the way from where it began.
use Rattle.std.proofs.Common.{◌≡◌, ℕ, None, Result, Ok, Err, sym, ◌∙◌, subst, arith}
use Rattle.saphyr_scalar.specs.declared.scalar.fault.Refusal.{Refusal}
use Rattle.saphyr_scalar.specs.Views.Cursor.{Cursor, ◌>>=◌}
use Rattle.saphyr_scanner.specs.Steps.Core.{Core, Step, StepResult, drop_far_key}
use Rattle.saphyr_scanner.specs.Steps.Passing.{pass_gap, check_comment}
use Rattle.saphyr_scanner.proofs.Effects.Walked.{Premises, Walked, Stepped}
use Rattle.saphyr_scalar.proofs.Plain.Behind.{IsNoted}
use Rattle.saphyr_scanner.proofs.Reached.{apart_reached}
use Rattle.saphyr_scanner.proofs.Taken.Separated.{gap_apart, gap_refused}
use Rattle.saphyr_scanner.proofs.Taken.Places.{Reaches, At, at_here, at_further, at_reached, here_at}
use Rattle.saphyr_input.proofs.Basics.Booleans.{by_test}

abbrev pub HoldsOrRefuses : {X : Type 0} → (X → Type 0) → Cursor → Result X Refusal → Type 0
HoldsOrRefuses P s (Ok x) = P x
HoldsOrRefuses P s (Err e) = At s e.mark

pub holds_then : {X Y : Type 0}
    → (P : X → Type 0) (Q : Y → Type 0) (s : Cursor) (r : Result X Refusal) (f : X → Result Y Refusal)
    → HoldsOrRefuses P s r → ((x : X) → P x → HoldsOrRefuses Q s (f x)) → HoldsOrRefuses Q s (r >>= f)
holds_then P Q s (Ok x) f h go = go x h
holds_then P Q s (Err e) f h go = h

pub holds_further : {X : Type 0} → (P : X → Type 0) (s t : Cursor) (r : Result X Refusal) → Reaches s t
    → HoldsOrRefuses P t r → HoldsOrRefuses P s r
holds_further P s t (Ok x) a h = h
holds_further P s t (Err e) a h = at_further s t e.mark a h

-- ## Cores

-- a place was reached, and no comment is kept
abbrev pub Goes : Cursor → Core → Type 0
Goes s d = Reaches s d.cursor × (d.comment ≡ None)

-- a comment that is kept is where the text goes on
abbrev pub Noted : Core → Type 0
Noted c = IsNoted c.comment c.cursor

abbrev pub NotedStep : Step → Type 0
NotedStep x = Noted x.core

-- what is told of a step that is walked
pub walked_holds : (c : Core) → Premises c → (n : ℕ) (r : StepResult) → Walked (Premises c) (Stepped n c) c.cursor r
    → HoldsOrRefuses NotedStep c.cursor r
walked_holds c laws n (Ok x) h = h.noted laws.2
walked_holds c laws n (Err e) h = h laws

abbrev pub Still : Core → Core → Type 0
Still c d = (d.cursor ≡ c.cursor) × (d.comment ≡ c.comment)

pub goes_still : (s : Cursor) (c d : Core) → Still c d → Goes s c → Goes s d
goes_still s c d e g = let P : Cursor → Type 0 = λ u. Reaches s u in (subst P (sym e.0) g.0, e.1 ∙ g.1)

pub drop_still : (c : Core) → HoldsOrRefuses (Still c) c.cursor (drop_far_key c)
unfolding drop_far_key
drop_still c = grind (arith, by_test, at_here)

-- ## What is passed

pub gap_holds : (c : Core) → Noted c → HoldsOrRefuses (Goes c.cursor) c.cursor (pass_gap c)
unfolding pass_gap check_comment
gap_holds c n = grind (arith, gap_apart, gap_refused, by_test, here_at, apart_reached, at_reached)
