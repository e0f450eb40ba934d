-- What is read until the first token can be handed out, where more of the text may come.
use Rattle.std.proofs.Common.{◌≡◌, ℕ, zero, suc, ◌+◌, ◌<◌, Bool, true, false, not, ◌&&◌, ◌==◌, nat_le, if◌then◌else◌, List, [], ◌∷◌, ◌++◌, length, length-append, Option, None, Some, Result, Ok, Err, refl, ap, subst, sym, ◌∙◌, arith}
use Rattle.saphyr_scalar.specs.Views.Cursor.{◌>>=◌, refuse_open}
use Rattle.saphyr_scalar.specs.declared.scalar.fault.FaultText.TheVariants as fault
use Rattle.saphyr_scalar.specs.declared.scalar.fault.Refusal.{Refusal}
use Rattle.std.proofs.Math.Bool.{not-not}
use Rattle.std.proofs.lemmas.Bool.Decides.{nat_tests}
use Rattle.saphyr_scalar.specs.declared.scalar.fault.Stop.{Stop}
use Rattle.saphyr_scalar.specs.declared.scalar.fault.Stop.TheVariants as stops
use Rattle.saphyr_scalar.specs.Views.Reader.{Moves}
use Rattle.saphyr_scalar.specs.Known.{may_be_open}
use Rattle.saphyr_scalar.proofs.WhatCame.Rests.{not_open}
use Rattle.saphyr_scalar.proofs.WhatCame.Steps.{Came, choose, stays, and_known}
use Rattle.saphyr_scanner.specs.declared.growth.Growth.{Growth}
use Rattle.saphyr_scanner.specs.declared.growth.Growth.TheVariants as growth
use Rattle.saphyr_scanner.specs.declared.stopped.Stopped.{Stopped}
use Rattle.saphyr_scanner.specs.Longer.{extended_by}
use Rattle.saphyr_scanner.specs.Steps.Core.{drop_far_key}
use Rattle.saphyr_scanner.specs.Steps.Fetch.{any_holds, begin, fetch, fetch_within, fill, fill_in, has_key, is_at_start, needs_token, size, without_far_key}
use Rattle.saphyr_scanner.specs.Steps.Level.{Candidate, Level}
use Rattle.saphyr_scanner.specs.Steps.Queue.{Place, is_empty_list}
use Rattle.saphyr_scanner.specs.Steps.State.{State, with_rest}
use Rattle.saphyr_scanner.specs.Views.Engine.{stopped_by}
use Rattle.saphyr_scanner.specs.Views.Scanning.{Scanning, is_decided, is_growing, text_in}
use Rattle.saphyr_scanner.proofs.Effects.Readers.{Readers}
use Rattle.saphyr_scanner.proofs.Handing.Filling.{no_key_settles, smaller_read}
use Rattle.saphyr_scanner.proofs.WhatCame.Cores.{states, core_came, far_came}
use Rattle.saphyr_scanner.proofs.WhatCame.Fetches.{token_came}

-- ## Tokens that are read are the same, whatever comes

module _ (laws : Readers) (limit : ℕ) (more : List ℕ) where
  grown_size : (s : State) → size (extended_by more s).core ≡ size s.core + length more
  grown_size s = rw length-append (omega arith)

  filled_came : (n m : ℕ) (s : State) → size s.core < n → size s.core + length more < m
      → Came states more s.core.cursor.rest (fill_in n limit s) (fill_in m limit (extended_by more s))
  filled_came zero m s a b = absurd (omega (arith, a))
  filled_came (suc n) zero s a b = absurd (omega (arith, b))
  filled_came (suc n) (suc m) s a b = choose (needs_token s) (λ needs. and_known _ (token_came more limit s) (λ u e.
      let less = smaller_read laws limit s u needs e in
      filled_came n m u (omega (arith, less, a)) (omega (arith, less, b)))) (λ _. stays)

  fill_came : (s : State) → Came states more s.core.cursor.rest (fill limit s) (fill limit (extended_by more s))
  unfolding fill
  fill_came s = and_known _ (core_came more 0 _ _ s.queue (far_came more s.core)) (λ t _.
      filled_came (suc (size t.core)) (suc (size (extended_by more t).core)) t (omega arith)
      (omega (arith, grown_size t)))

-- ## A candidate that is too far is dropped whatever comes

abbrev before_others : List ℕ → Result State Refusal → Result State Refusal
before_others x (Ok t) = Ok (with_rest x t)
before_others x (Err e) = Err e

-- what is left of the text stays
abbrev rest_or : List ℕ → Result State Refusal → List ℕ
rest_or x (Ok t) = t.core.cursor.rest
rest_or x (Err e) = x

rest_stays : (s : State) → rest_or s.core.cursor.rest (without_far_key s) ≡ s.core.cursor.rest
unfolding drop_far_key
rest_stays s = grind arith

pub far_rest : (s t : State) → without_far_key s ≡ Ok t → t.core.cursor.rest ≡ s.core.cursor.rest
far_rest s t e = sym (ap (rest_or s.core.cursor.rest) e) ∙ rest_stays s

pub far_dropped : (x : List ℕ) (s t : State) → without_far_key s ≡ Ok t
    → without_far_key (with_rest x s) ≡ Ok (with_rest x t)
unfolding drop_far_key
far_dropped x s t e = grind arith

-- and what has to be a key is refused so, unless what comes may change that
pub far_refused : (g : Growth) (more : List ℕ) (s : State) (e : Refusal)
    → (is_growing g ≡ true → e.may_change ≡ false) → without_far_key s ≡ Err e
    → without_far_key (with_rest (text_in g more s.core.cursor.rest) s) ≡ Err e
far_refused growth.Growing more s e seen h =
    (core_came more 0 _ _ s.queue (far_came more s.core)).reported e h (seen refl)
far_refused growth.Whole more s e seen h = h
far_refused growth.Starved more s e seen h = h

-- ## The stream's start is told by no character

pub no_key : (k : Option Candidate) → not (has_key k) ≡ true → k ≡ None
no_key None e = refl
no_key (Some k) e = absurd (cc)

none_hold : (place : ℕ) (ls : List Level) → (length ls == 0) ≡ true → any_holds place ls ≡ false
none_hold place [] e = refl
none_hold place (l ∷ ls) e = grind (arith, e)

some_place : (ps : List Place) (p : Place) → is_empty_list (ps ++ p ∷ []) ≡ false
some_place [] p = refl
some_place (q ∷ ps) p = refl

none_read : (n limit : ℕ) (t : State) → needs_token t ≡ false → fill_in n limit t ≡ Ok t
none_read zero limit t none = refl
none_read (suc n) limit t none = rw none refl

-- a text is refused where it is too long
abbrev limited : State → Bool → Result State Refusal
limited t within = if within then Ok t else
    refuse_open (may_be_open t.core.cursor.rest) fault.TextTooLong t.core.cursor.mark

limited_once : (n limit : ℕ) (t : State) → without_far_key t ≡ Ok t → needs_token t ≡ false → (within : Bool)
    → within ≡ true → (limited t within >>= without_far_key >>= fill_in n limit) ≡ Ok t
limited_once n limit t settled none true is = rw settled (none_read n limit t none)
limited_once n limit t settled none false is = absurd (cc)

-- the stream's start alone is put
begun : (limit : ℕ) (s : State) → is_at_start s.core ≡ true → needs_token s ≡ true
    → fill limit s ≡ Ok (begin s)
unfolding fill fetch_within fetch
begun limit s starts needs =
    let fresh : s.core.started ≡ false = grind (arith, starts) in
    let key : s.core.level.key ≡ None = no_key s.core.level.key (grind (arith, starts)) in
    let none : any_holds s.queue.handed s.core.outer ≡ false =
    none_hold s.queue.handed s.core.outer (grind (arith, starts)) in
    let some : is_empty_list (begin s).queue.places ≡ false = some_place s.queue.places _ in
    let ready : needs_token (begin s) ≡ false = rw (some, key, none) (and_false (not s.core.ended)) in
    rw (no_key_settles s key, needs, fresh) (limited_once _ limit (begin s) (no_key_settles (begin s) key) ready
    (nat_le s.core.cursor.mark.index limit) (grind (arith, nat_tests, starts)))
  where
    and_false : (b : Bool) → (b && false) ≡ false
    and_false true = refl
    and_false false = refl

start_over : (limit : ℕ) (x : List ℕ) (s : State) → is_at_start s.core ≡ true → needs_token s ≡ true
    → fill limit (with_rest x s) ≡ before_others x (fill limit s)
start_over limit x s starts needs = grind (arith, begun)

-- ## What a call gives, by what it gives where nothing more comes

pub text_grows : (g : Growth) (more rest : List ℕ) → is_growing g ≡ true → text_in g more rest ≡ rest ++ more
text_grows growth.Growing more rest e = refl
text_grows growth.Whole more rest e = absurd (cc)
text_grows growth.Starved more rest e = absurd (cc)

-- A call fills the queue, where these are left of the text before it and behind it.
abbrev pub FillsOver : List ℕ → List ℕ → (old new : Scanning) → Stop → Result Unit Stopped → Type 0
FillsOver before behind old new end r =
    Moves (λ _. with_rest behind new.state) (stopped_by r end) (fill old.limit (with_rest before old.state))

-- It does so where nothing more comes.
abbrev Fills : (old new : Scanning) → Result Unit Stopped → Type 0
Fills old new r = FillsOver old.state.core.cursor.rest new.state.core.cursor.rest old new new.stop r

-- It does so whatever comes.
pub record FillsAlways (old new : Scanning) (r : Result Unit Stopped) : Type 0 where
  pub with_more : (more : List ℕ) → FillsOver (text_in old.growth more old.state.core.cursor.rest)
      (text_in new.growth more new.state.core.cursor.rest) old new new.stop r

over : (old new : Scanning) (r : Result Unit Stopped) (x y before behind : List ℕ) → x ≡ before
    → y ≡ behind → FillsOver before behind old new new.stop r → FillsOver x y old new new.stop r
over old new r x y before behind e f h = subst (λ z. FillsOver z y old new new.stop r) (sym e)
    (subst (λ z. FillsOver before z old new new.stop r) (sym f) h)

pub fills_whole : (old new : Scanning) (r : Result Unit Stopped) → is_growing old.growth ≡ false
    → new.growth ≡ old.growth → Fills old new r → FillsAlways old new r
fills_whole old new r whole same f = grind arith

pub fills_growing : Readers → (old new : Scanning) (r : Result Unit Stopped)
    → is_growing old.growth ≡ true → new.growth ≡ old.growth
    → is_decided r new.state.core.cursor.rest new.stop ≡ true → Fills old new r → FillsAlways old new r
fills_growing laws old new r grows same decided f = record {
  with_more = λ more. over old new r _ _ _ _ (text_grows old.growth more _ grows)
      (text_grows new.growth more _ (ap is_growing same ∙ grows)) (by more r new.stop decided f);
}
  where
    rest : List ℕ
    rest = new.state.core.cursor.rest

    known : (b : Bool) → not b ≡ true → b ≡ false
    known b e = sym (not-not b) ∙ ap not e

    by : (more : List ℕ) (q : Result Unit Stopped) (end : Stop)
        → is_decided q rest end ≡ true → FillsOver old.state.core.cursor.rest rest old new end q
        → FillsOver (old.state.core.cursor.rest ++ more) (rest ++ more) old new end q
    by more (Ok u) end e g =
        (fill_came laws old.limit more old.state).same new.state g (not_open rest (known (may_be_open rest) e))
    by more (Err u) stops.OutOfMemory e g = tt
    by more (Err u) (stops.Refused d) e g =
        (fill_came laws old.limit more old.state).reported d g (known d.may_change e)

-- The stream's start is put whatever comes.
pub fills_at_start : (old new : Scanning) (r : Result Unit Stopped) → is_at_start old.state.core ≡ true
    → needs_token old.state ≡ true → new.growth ≡ old.growth → Fills old new r → FillsAlways old new r
fills_at_start old new r starts needs same f = grind (arith, start_over)
