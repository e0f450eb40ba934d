-- Handing tokens out as soon as they cannot be keys gives the same tokens as keeping all of them.
use Rattle.std.proofs.Common.{◌≡◌, ℕ, zero, suc, ◌+◌, ◌<◌, ◌||◌, Bool, true, false, List, [], ◌∷◌, ◌++◌, length, Result, Ok, Err, refl, sym, ap, ◌∙◌, arith, append_assoc, length-append}
use Rattle.std.specs.Prelude.{not, ◌&&◌, Option, Some, None}
use Rattle.std.proofs.lemmas.Bool.Decides.{nat_tests}
use Rattle.saphyr_scalar.specs.declared.scalar.fault.Refusal.{Refusal}
use Rattle.saphyr_scanner.specs.declared.queue.Opening.{Opening}
use Rattle.saphyr_scanner.specs.Views.Tokens.{Piece, Remaining, none, before}
use Rattle.saphyr_scanner.specs.Steps.Queue.{Place}
use Rattle.saphyr_scanner.specs.Steps.Core.{Core, drop_far_key}
use Rattle.saphyr_scanner.specs.Steps.Level.{Candidate, Level, is_place, holds}
use Rattle.saphyr_scanner.specs.Steps.State.{State, start}
use Rattle.saphyr_scanner.specs.Steps.Fetch.{size, needs_token, is_held, any_holds}
use Rattle.saphyr_scanner.specs.Steps.Remaining.{before_place, hand_out, remaining_after, run, remaining}
use Rattle.saphyr_scanner.proofs.Effects.Readers.{Readers}
use Rattle.saphyr_scanner.proofs.Handing.Filling.{read, read_is, less_read}
use Rattle.saphyr_scanner.proofs.Leads.{LeadsTo, stay, onward, flat, place_pieces}
use Rattle.saphyr_scanner.proofs.Handing.Unroll.{behind, rest, enough}
use Rattle.saphyr_scanner.proofs.Taken.Candidates.{KeyAbove, LevelsAbove, Above}
use Rattle.saphyr_scanner.proofs.Handing.HandedOut.{Behind, Goes, Same, at, read_agrees, agreed}
use Rattle.std.proofs.lemmas.Bool.{or_parts, cond-true, cond-false}
use Rattle.saphyr_scanner.proofs.Queues.{holding}

-- ## A place that is not held back has no candidate

key_further : (h : ℕ) (k : Option Candidate) → KeyAbove h k → is_place h k ≡ false → KeyAbove (suc h) k
key_further h None l e = tt
key_further h (Some k) l e = grind (arith, nat_tests, l, e)

levels_further : (h : ℕ) (ls : List Level) → LevelsAbove h ls → any_holds h ls ≡ false → LevelsAbove (suc h) ls
levels_further h [] k e = tt
levels_further h (l ∷ ls) k e =
    let n = or_parts (holds h l) (any_holds h ls) e in (key_further h l.key k.0 n.0, levels_further h ls k.1 n.1)

above_next : (h : ℕ) (c : Core) → Above h c → (holds h c.level || any_holds h c.outer) ≡ false → Above (suc h) c
above_next h c k e = let n = or_parts (holds h c.level) (any_holds h c.outer) e in
    (key_further h c.level.key k.0 n.0, levels_further h c.outer k.1 n.1)

-- ## The tokens that a state still gives, where the first places were handed out

-- these tokens, before others
abbrev pub onto : List Piece → Remaining → Remaining
onto [] r = r
onto (t ∷ ts) r = before t (onto ts r)

onto_none : (ts : List Piece) → onto ts none ≡ record { pieces = ts; refusal = None }
onto_none [] = refl
onto_none (t ∷ ts) = ap (before t) (onto_none ts)

place_onto : (o : Opening) (t : Piece) (ts : List Piece) (r : Remaining)
    → before_place o t (onto ts r) ≡ onto (place_pieces o t ++ ts) r
place_onto o t ts r = grind arith

-- whatever the queue has is handed out
abbrev pub Free : Core → Type 0
Free c = (n : ℕ) → (not c.ended && (holds n c.level || any_holds n c.outer)) ≡ false

pub free_end : (c : Core) → c.ended ≡ true → Free c
free_end c e n = rw e refl

pub free_block : (c : Core) → c.level.key ≡ None → c.outer ≡ [] → Free c
free_block c k o n = grind arith

needs : (over b : Bool) → over ≡ false → (not over && b) ≡ b
needs over b h = grind arith

held_back : (go : State → Remaining) (c : Core) (p : Place) (ps : List Place) (n : ℕ) → c.ended ≡ false
    → is_held (holding c (p ∷ ps) n) ≡ true → hand_out (p ∷ ps) go (holding c (p ∷ ps) n) ≡ go (holding c (p ∷ ps) n)
held_back go c p ps n live h = cond-true (needs_token (holding c (p ∷ ps) n)) _ _ (needs c.ended _ live ∙ h)

handed_next : (go : State → Remaining) (c : Core) (p : Place) (ps : List Place) (n : ℕ)
    → needs_token (holding c (p ∷ ps) n) ≡ false → (ts : List Piece) (r : Remaining)
    → hand_out ps go (holding c ps (n + 1)) ≡ onto ts r
    → hand_out (p ∷ ps) go (holding c (p ∷ ps) n) ≡ onto (place_pieces p.opening p.piece ++ ts) r
handed_next go c p ps n h ts r e =
    cc (cond-false (needs_token (holding c (p ∷ ps) n)) _ _ h, place_onto p.opening p.piece ts r)

all_out : Readers → (limit n : ℕ) (c : Core) → Free c → size c < suc n → (ps : List Place) (k : ℕ)
    → hand_out ps (behind n limit) (holding c ps k) ≡ onto (flat ps) (rest limit (holding c [] (k + length ps)))
all_out laws limit n c free h [] k =
    let e : k ≡ k + 0 = omega arith in
    enough laws limit (suc n) (suc (size c)) (holding c [] k) h (omega arith) ∙ ap (λ i. rest limit (holding c [] i)) e
all_out laws limit n c free h (p ∷ ps) k =
    handed_next (behind n limit) c p ps k (free k) (flat ps) _ (all_out laws limit n c free h ps (k + 1))
    ∙ ap (λ i. onto (flat (p ∷ ps)) (rest limit (holding c [] i))) (omega arith)

-- the tokens that come after a state, whose places were all handed out
abbrev others : ℕ → State → Remaining
others limit d = rest limit (holding d.core [] (length d.queue.places))

-- These places were handed out of those of the last state, and the tokens of the others come.
record GivesRest (limit : ℕ) (d : State) (hs : List Place) (t : State) : Type 0 where
  left : List Place
  places : d.queue.places ≡ hs ++ left
  tokens : (n : ℕ) → size t.core < suc n
      → hand_out t.queue.places (behind n limit) t ≡ onto (flat left) (others limit d)

gives : (limit : ℕ) (d : State) (hs : List Place) (t : State) (g : GivesRest limit d hs t) (n : ℕ) → size t.core < n
    → run n limit t ≡ onto (flat g.left) (others limit d)
gives limit d hs t g zero h = absurd (omega (arith, h))
gives limit d hs t g (suc n) h = g.tokens n h

-- what comes after a token that is read, wherever the places are parted
abbrev Hypothesis : ℕ → State → State → Type 0
Hypothesis limit d s = (hs : List Place) (t : State) → Goes hs s t → GivesRest limit d hs t

-- what comes where a token is read first
abbrev ReadsRest : ℕ → State → List Place → State → Type 0
ReadsRest limit d hs t = (left : List Place) × (d.queue.places ≡ hs ++ left)
    × ((n : ℕ) → size t.core < suc n → behind n limit t ≡ onto (flat left) (others limit d))

reads : Readers → (limit : ℕ) (d s u : State) (hs : List Place) (t : State) → t.core.ended ≡ false → read limit s ≡ Ok u
    → Hypothesis limit d u → Goes hs s t → ReadsRest limit d hs t
reads laws limit d s u hs t live e ih g = by (read limit t) refl
    (rw e at (agreed hs (read limit) s t (read_agrees hs limit) g))
  where
    by : (r : Result State Refusal) → read limit t ≡ r → Same hs (Ok u) r → ReadsRest limit d hs t
    by (Err f) q h = absurd h
    by (Ok v) q h =
        let w = ih hs v h in
        let less = less_read laws limit t v live q in (
          w.left,
          w.places,
          λ n m. cond-false t.core.ended _ _ live ∙ ap (λ r. remaining_after r (run n limit)) q
              ∙ gives limit d hs v w n (omega (arith, less, m)),
        )

-- the first place is handed out
next_goes : (s : State) (p : Place) (ps hs : List Place) (n : ℕ) → Goes hs s (holding s.core (p ∷ ps) n)
    → is_held (holding s.core (p ∷ ps) n) ≡ false → Goes (hs ++ p ∷ []) s (holding s.core ps (n + 1))
next_goes s p ps hs n g h =
    let len : length (hs ++ p ∷ []) ≡ suc (length hs) = omega (arith, length-append hs (p ∷ [])) in
    let handed = g.queue.handed in
    record {
      core = refl;
      queue = record {
        places = g.queue.places ∙ sym (append_assoc hs (p ∷ []) ps);
        none = g.queue.none;
        handed = omega (arith, handed, len);
      };
      above = rw len (above_next (length hs) s.core g.above (rw handed at h));
    }

next_gives : (limit : ℕ) (d : State) (c : Core) (p : Place) (ps hs : List Place) (n : ℕ)
    → needs_token (holding c (p ∷ ps) n) ≡ false → GivesRest limit d (hs ++ p ∷ []) (holding c ps (n + 1))
    → GivesRest limit d hs (holding c (p ∷ ps) n)
next_gives limit d c p ps hs n h g =
    record {
      left = p ∷ g.left;
      places = g.places ∙ append_assoc hs (p ∷ []) g.left;
      tokens = λ m k. handed_next (behind m limit) c p ps n h (flat g.left) _ (g.tokens m k);
    }

-- by the places that are left: each is handed out, unless it may be a key
hands : Readers → (limit : ℕ) (d s u : State) → s.core.ended ≡ false → read limit s ≡ Ok u → Hypothesis limit d u
    → (ws hs : List Place) (n : ℕ) → Goes hs s (holding s.core ws n) → GivesRest limit d hs (holding s.core ws n)
hands laws limit d s u live e ih [] hs n g =
    let r = reads laws limit d s u hs (holding s.core [] n) live e ih g in
    record { left = r.0; places = r.1; tokens = r.2 }
hands laws limit d s u live e ih (p ∷ ps) hs n g = by (is_held (holding s.core (p ∷ ps) n)) refl
    (λ later. hands laws limit d s u live e ih ps (hs ++ p ∷ []) (n + 1) later)
  where
    by : (b : Bool) → is_held (holding s.core (p ∷ ps) n) ≡ b
        → (Goes (hs ++ p ∷ []) s (holding s.core ps (n + 1))
        → GivesRest limit d (hs ++ p ∷ []) (holding s.core ps (n + 1)))
        → GivesRest limit d hs (holding s.core (p ∷ ps) n)
    by true h more =
        let r = reads laws limit d s u hs (holding s.core (p ∷ ps) n) live e ih g in
        record { left = r.0; places = r.1; tokens = λ m k. held_back (behind m limit) s.core p ps n live h ∙ r.2 m k }
    by false h more = next_gives limit d s.core p ps hs n (needs s.core.ended _ live ∙ h)
        (more (next_goes s p ps hs n g h))

ended_gives : Readers → (limit : ℕ) (d : State) → Free d.core → (hs ws : List Place) (k : ℕ)
    → Behind hs d.queue (record { places = ws; handed = k }) → GivesRest limit d hs (holding d.core ws k)
ended_gives laws limit d free hs ws k b =
    let places = ap length b.places in let l = length-append hs ws in let handed = b.handed in
    let e : k + length ws ≡ length d.queue.places = omega (arith, places, l, handed) in
    record {
      left = ws;
      places = b.places;
      tokens = λ n h. all_out laws limit n d.core free h ws k
          ∙ ap (λ i. onto (flat ws) (rest limit (holding d.core [] i))) e;
    }

-- the same where the core is told to be that of the other state
of_core : (limit : ℕ) (d s : State) (hs : List Place) (t : State) → Goes hs s t
    → GivesRest limit d hs (at s.core t.queue) → GivesRest limit d hs t
of_core limit d s hs t g w = rw g.core w

lazy : {limit : ℕ} {d s : State} → Readers → Free d.core → LeadsTo limit d s → Hypothesis limit d s
lazy {limit} {d} laws free stay =
    λ hs t g. of_core limit d d hs t g (ended_gives laws limit d free hs t.queue.places t.queue.handed g.queue)
lazy {limit} {d} laws free (onward s t u live e f l) = λ hs v g. of_core limit d s hs v g
    (hands laws limit d s u live (read_is limit s t u e f) (lazy laws free l) v.queue.places hs v.queue.handed
    (record { core = refl; queue = g.queue; above = g.above }))

-- The tokens of a text begin with those of the places of a run that keeps all of them, where none of these may yet be a
-- key.
pub begins_so : Readers → (limit : ℕ) (text : List ℕ) (d : State) → LeadsTo limit d (start text) → Free d.core
    → remaining limit (start text) ≡ onto (flat d.queue.places) (rest limit (holding d.core [] (length d.queue.places)))
unfolding remaining drop_far_key
begins_so laws limit text d l free =
    let w = lazy laws free l [] (start text)
    (record { core = refl; queue = record { places = refl; none = refl; handed = refl }; above = (tt, tt) }) in
    w.tokens (size (start text).core) (omega arith) ∙ ap (λ ps. onto (flat ps) (others limit d)) (sym w.places)

-- Where such a run reaches the end, they are all the tokens of the text.
pub handed_out : Readers → (limit : ℕ) (text : List ℕ) (d : State) → LeadsTo limit d (start text) → d.core.ended ≡ true
    → remaining limit (start text) ≡ record { pieces = flat d.queue.places; refusal = None }
handed_out laws limit text d l over = begins_so laws limit text d l (free_end d.core over)
    ∙ ap (onto (flat d.queue.places)) (cond-true d.core.ended _ _ over) ∙ onto_none (flat d.queue.places)
