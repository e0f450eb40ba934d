-- Where the reading of the next token refuses.
use Rattle.std.proofs.Common.{◌≡◌, ℕ, ◌^◌, ◌<◌, false, List, length, Result, Ok, Err, subst, arith}
use Rattle.std.specs.Prelude.{nat_le}
use Rattle.saphyr_scalar.specs.declared.scalar.fault.Refusal.{Refusal}
use Rattle.saphyr_scalar.specs.Views.Cursor.{Cursor, start_cursor, ◌>>=◌}
use Rattle.saphyr_scanner.specs.Steps.Core.{Core, drop_far_key}
use Rattle.saphyr_scanner.specs.Steps.Fetch.{fetch, fetch_within, check_limit, without_far_key}
use Rattle.saphyr_scanner.specs.Steps.Queue.{Queue}
use Rattle.saphyr_scanner.specs.Steps.State.{State}
use Rattle.saphyr_scanner.proofs.Taken.Fetch.{Read, Ready, fetch_read}
use Rattle.saphyr_scanner.proofs.Effects.Readers.{TextLaws, RefusalLaws}
use Rattle.saphyr_scanner.proofs.Taken.Held.{Setting, Taken}
use Rattle.saphyr_scanner.proofs.Taken.Later.{LaterThan}
use Rattle.saphyr_scanner.proofs.Leads.{flat}
use Rattle.saphyr_scanner.proofs.Reached.{apart_reached}
use Rattle.saphyr_scanner.proofs.Taken.Places.{Reaches, reaches_reaches, At, at_here, at_further, tokens_reached}
use Rattle.saphyr_scanner.proofs.Refusing.Refusals.{HoldsOrRefuses, holds_further, Noted, Still, drop_still}
use Rattle.saphyr_scanner.proofs.Refusing.Documents.{NotedState, on_core_holds, fetch_holds}
use Rattle.saphyr_input.proofs.Basics.Booleans.{by_test}
use Rattle.saphyr_scalar.proofs.Given.{Given}

pub holds_ok : {X : Type 0} → (P : X → Type 0) (s : Cursor) (r : Result X Refusal) (x : X) → HoldsOrRefuses P s r
    → r ≡ Ok x → P x
holds_ok P s (Ok y) x h e = let same : y ≡ x = cc in subst P same h
holds_ok P s (Err f) x h e = absurd (cc)

pub holds_err : {X : Type 0} → (P : X → Type 0) (s : Cursor) (r : Result X Refusal) (e : Refusal) → HoldsOrRefuses P s r
    → r ≡ Err e → At s e.mark
holds_err P s (Ok y) e h q = absurd (cc)
holds_err P s (Err f) e h q = let same : f ≡ e = cc in let Q : Refusal → Type 0 = λ x. At s x.mark in subst Q same h

-- the tokens that are held lead to where the text goes on
pub taken_reached : (opened : Setting) (from : Cursor) (c : Core) (q : Queue) → Taken opened from c q
    → Reaches from c.cursor
taken_reached opened from c q h = grind (arith, reaches_reaches, tokens_reached, flat, apart_reached)

noted_still : (c d : Core) → Still c d → Noted c → Noted d
noted_still c d s n = grind arith

pub settled_holds : (text : List ℕ) (t : State) → Reaches (start_cursor text) t.core.cursor → NotedState t
    → HoldsOrRefuses NotedState (start_cursor text) (without_far_key t)
settled_holds text t a n =
    on_core_holds Noted (start_cursor text) (drop_far_key t.core) t.queue (by (drop_far_key t.core) (drop_still t.core))
  where
    by : (r : Result Core Refusal) → HoldsOrRefuses (Still t.core) t.core.cursor r
        → HoldsOrRefuses Noted (start_cursor text) r
    by (Ok d) h = noted_still t.core d h n
    by (Err e) h = at_further (start_cursor text) t.core.cursor e.mark a h

pub read_holds : TextLaws → RefusalLaws → (text : List ℕ) → length text < 2 ^ 63
    → (limit : ℕ) (opened : Setting) (from : Cursor) (s : State) → LaterThan (start_cursor text) from
    → Reaches (start_cursor text) from → s.core.ended ≡ false → Ready opened from s → NotedState s
    → HoldsOrRefuses NotedState (start_cursor text) (fetch_within limit s >>= without_far_key)
unfolding fetch_within
read_holds laws refusals text small limit opened from s l a going h n =
    by (fetch s) (fetch_read laws text small opened from s l going h.fresh h.taken (h.live going))
    (holds_further NotedState (start_cursor text) s.core.cursor (fetch s)
    (reaches_reaches (start_cursor text) from s.core.cursor a (taken_reached opened from s.core s.queue h.taken))
    (fetch_holds laws refusals s n))
  where
    by : (r : Result State Refusal) → Given (Read opened from) r → HoldsOrRefuses NotedState (start_cursor text) r
        → HoldsOrRefuses NotedState (start_cursor text) ((r >>= check_limit limit) >>= without_far_key)
    by (Ok t) k m =
        let there = reaches_reaches (start_cursor text) from t.core.cursor a
        (taken_reached opened from t.core t.queue k.fetched.taken) in
        by_test (nat_le t.core.cursor.mark.index limit) _ _
        (λ r. HoldsOrRefuses NotedState (start_cursor text) (r >>= without_far_key))
        (λ _. settled_holds text t there m)
        (λ _. at_further (start_cursor text) t.core.cursor t.core.cursor.mark there (at_here t.core.cursor))
    by (Err e) k m = m
