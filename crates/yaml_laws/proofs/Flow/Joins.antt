-- Runs over pieces of a text in flow style, one after the other.
use Rattle.yaml_laws.proofs.Common.{◌≡◌, inl, inr, sym, ℕ, ◌≤◌, Bool, false, IsTrue, List, [], ◌++◌, ◌∙◌, append_assoc, append-nil, arith, Option, Marker, IsSeparation, Context, Kind, Place, Candidate, Level, State, place_kinds, place_kinds_append}
use Rattle.yaml_laws.proofs.InFlow.States.{Around, state_at, runs_to_itself, chains, ComesAround, FlowMoment, moment_with}
use Rattle.yaml_laws.proofs.Flow.States.{moved, Holds, IsFresh, Since, Known, PassesNoting, PassesPiece, after, after_node, keeping, StandsBefore, TextPasses}
use Rattle.yaml_laws.proofs.Flow.ContentStarts.{behind_low}
use Rattle.yaml_laws.proofs.Flow.Tokens.{after_token}
use Rattle.yaml_laws.proofs.Flow.Places.{moved_append}
use Rattle.yaml_laws.proofs.Flow.Fillers.{separation_past, right_behind}
use Rattle.yaml_laws.proofs.InBlock.Crossings.{separation_crosses}

-- a piece, and another after it
pub join : {comment : Option Marker} {around : Around} {start : Bool → State} {known more : Known} {x y : Context}
    {ls ms : List Level} {ps : List Place} {m e : Marker} {o z : List ℕ} {ts us : List Kind}
    → (p : PassesPiece around start known x ls ps m o ts)
    → (q : PassesNoting comment around (state_at around (after p)) more y ms (ps ++ p.new) e z us) → (all : Known)
    → all q.key q.allowed q.adjacent (p.new ++ q.new) → PassesNoting comment around start all y ms ps e z (ts ++ us)
join {ps = ps} {ts = ts} {us = us} p q all knows =
    record {
      there = q.there;
      key = q.key;
      allowed = q.allowed;
      adjacent = q.adjacent;
      new = p.new ++ q.new;
      leads = rw (← append_assoc ps p.new q.new) (chains p.leads q.leads);
      right = q.right;
      fits = q.fits;
      fresh = q.fresh;
      holds = q.holds;
      are = cc (place_kinds_append p.new q.new);
      knows = knows;
    }

-- what may be a key after two texts with separation between
pub since_join : (k : Option Candidate) (m : Marker) (a w b : List ℕ) (j key : Option Candidate) → Since k m a j
    → Since j (moved (moved m a) w) b key → Since k m (a ++ (w ++ b)) key
since_join k m a w b j key f (inl e) = inl e
since_join k m a w b j key f (inr (inl e)) = earlier f
  where
    earlier : Since k m a j → Since k m (a ++ (w ++ b)) key
    earlier (inl g) = inl (e ∙ g)
    earlier (inr (inl g)) = inr (inl (e ∙ g))
    earlier (inr (inr (front, back, place, is, g))) =
        inr (inr (front, back ++ (w ++ b), place, cc (append_assoc front back (w ++ b)), e ∙ g))
since_join k m a w b j key f (inr (inr (front, back, place, is, g))) =
    let here = sym (moved_append m a (w ++ front) ∙ moved_append (moved m a) w front) in
    inr (inr (
      a ++ (w ++ front),
      back,
      place,
      cc (append_assoc w front back, append_assoc a (w ++ front) back),
      cc,
    ))

-- the separation after a piece
pub separation_joins : {around : Around} {start : Bool → State} {known : Known} {x : Context} {ls : List Level}
    {ps : List Place}
    {ts : List Kind} → (m : Marker) (w o : List ℕ) → IsSeparation around.indent w
    → PassesPiece around start known x ls ps m (w ++ o) ts → PassesPiece around start known x ls ps (moved m w) o ts
separation_joins {around = around} m w o h p =
    record {
      there = p.there;
      key = p.key;
      allowed = p.allowed;
      adjacent = p.adjacent;
      new = p.new;
      leads = p.leads;
      right = right_behind around.indent m w h p.right;
      fits = p.fits ∙ separation_past around.indent m w o h p.right;
      fresh = λ b e. p.fresh b (separation_crosses around.indent w o h e);
      holds = record { so = λ k held e. rw (← separation_past around.indent m w o h p.right) (p.holds.so k held e) };
      are = p.are;
      knows = p.knows;
    }

-- what is known, told otherwise
pub knowing : {comment : Option Marker} {around : Around} {start : Bool → State} {known : Known} {x : Context}
    {ls : List Level} {ps : List Place} {m : Marker} {o : List ℕ} {ts : List Kind}
    → (p : PassesNoting comment around start known x ls ps m o ts) → (other : Known)
    → other p.key p.allowed p.adjacent p.new → PassesNoting comment around start other x ls ps m o ts
knowing p other h = search

-- a text, told otherwise
pub mapped : {around : Around} {start : Bool → State} {now : FlowMoment} {Is Js : List Kind → Type 0}
    {allows others : List ℕ → Bool}
    {m : Marker} {t o : List ℕ} → ((ts : List Kind) → Is ts → Js ts)
    → ((w : List ℕ) → IsTrue (others w) → IsTrue (allows w))
    → TextPasses around start now Is allows m t o → TextPasses around start now Js others m t o
mapped {around} {start} {now} {others = others} {m} {t} {o} f g r = grind arith

-- A token after which no colon may come at once, and what is known of it as a node.
pub token_node : {comment : Option Marker} {around : Around} {start : Bool → State}
    {says : Bool → ℕ → Type 0} {m : Marker}
    {t o : List ℕ} {ts : List Kind} (now : FlowMoment) (allows : List ℕ → Bool) → ((w : List ℕ) → allows w ≡ false)
    → now.adjacent ≤ m.index
    → (q : PassesNoting comment around start (after_token says now.context (keeping now m t))
    now.context now.outer now.places (moved m t) o ts) → q.adjacent ≡ now.adjacent
    → PassesNoting comment around start
    (after_node around.indent now.context (keeping now m t) allows (moved m t) o) now.context now.outer now.places
    (moved m t) o ts
token_node {around = around} {m = m} {t} {o} now allows never low q still = grind (arith, behind_low)

-- one step
pub step_passes : {comment : Option Marker} {around : Around} {start : Bool → State} (next : FlowMoment)
    (new : List Place) (m : Marker) (o : List ℕ) (ts : List Kind) (known : Known)
    → (c : ComesAround around start comment (moment_with new next))
    → around.indent ≤ m.col → StandsBefore around next m o → IsFresh next.context o next.allowed next.cursor
    → Holds around next.context c.key next.allowed next.cursor m o → place_kinds new ≡ ts
    → known c.key next.allowed next.adjacent new
    → PassesNoting comment around start known next.context next.outer next.places m o ts
step_passes next new m o ts known c right fits fresh holds are knows = search

-- no step
pub passes_nothing : (around : Around) (now : FlowMoment) (m : Marker) (o : List ℕ) (known : Known) → around.indent
    ≤ m.col → StandsBefore around now m o → IsFresh now.context o now.allowed now.cursor
    → Holds around now.context now.key now.allowed now.cursor m o → known now.key now.allowed
    now.adjacent [] → PassesPiece around (state_at around now) known now.context now.outer now.places m o []
passes_nothing around now m o known right text fresh holds knows = search (append-nil, runs_to_itself)
