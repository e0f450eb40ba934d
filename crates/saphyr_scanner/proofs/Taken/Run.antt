-- The tokens of a text are taken from it, and a refusal that ends them is at a place of it.
use Rattle.saphyr_scanner.proofs.Common.{◌≡◌, ℕ, zero, suc, ◌+◌, ◌^◌, ◌<◌, Bool, true, false, List, [], ◌∷◌, ◌++◌, length, drop, Option, Some, None, Result, Ok, Err, refl, sym, ap, ◌∙◌, arith, subst, inl, ◌&&◌, ◌==◌, not, Refusal, Cursor, start_cursor, ◌>>=◌, Opening, Piece, Remaining, by_test, given_of, or_parts, eq-eqb}
use Rattle.saphyr_scanner.specs.Steps.Queue.{Place, bare_place}
use Rattle.saphyr_scanner.specs.Steps.Core.{Core}
use Rattle.saphyr_scanner.specs.Steps.Level.{Candidate, Level, is_block, is_place, holds}
use Rattle.saphyr_scanner.specs.Steps.State.{State, start}
use Rattle.saphyr_scanner.specs.Steps.Fetch.{size, without_far_key, needs_token, fetch_within, any_holds}
use Rattle.saphyr_scanner.specs.Steps.Remaining.{before_place, hand_out, remaining_after, run, remaining, scan}
use Rattle.saphyr_scanner.specs.TokensTaken as taken
use Rattle.saphyr_scanner.specs.TokensTaken.{no_collections, IsPlaceOf, AreTokens, IsEndOf, AreTakenFrom}
use Rattle.saphyr_scanner.proofs.Effects.Fetch.{Fetched, read_fetched}
use Rattle.saphyr_scanner.proofs.Handing.Filling.{going}
use Rattle.saphyr_scanner.proofs.Leads.{flat, place_pieces}
use Rattle.saphyr_scanner.proofs.Effects.Readers.{Readers, TextLaws, RefusalLaws}
use Rattle.saphyr_scanner.proofs.Taken.Later.{LaterThan, later_here, later_later}
use Rattle.saphyr_scanner.proofs.Taken.Parts.{open_append, tokens_append, tokens_part}
use Rattle.saphyr_scanner.proofs.Taken.Bare.{bare_parts, fronts_append, agrees_all, IsEntry}
use Rattle.saphyr_scanner.proofs.Taken.Held.{Setting, setting_behind}
use Rattle.saphyr_scanner.proofs.Taken.Keys.{Key, KeyOf, lower, KeysFrom, keys_weaken}
use Rattle.saphyr_scanner.proofs.Taken.InPlace.{all_behind, behind_append, each_parts}
use Rattle.saphyr_scanner.proofs.Taken.KeysInPlace.{calm, IsPast}
use Rattle.saphyr_scanner.specs.TokensInPlace.{Enclosures, may_stand, not_enclosed, AreInPlace, AreIndented, OtherFront, AreBare}
use Rattle.saphyr_scanner.proofs.Taken.Indented.{root_key, indented_handed}
use Rattle.saphyr_scanner.proofs.Taken.Fetch.{Read, Ready, settled_ready, read_ready}
use Rattle.saphyr_scanner.proofs.Taken.Places.{Reaches, reaches_reaches, place_of, tokens_reached, tokens_later}
use Rattle.saphyr_scanner.proofs.Refusing.Documents.{NotedState}
use Rattle.saphyr_scanner.proofs.Refusing.Reads.{holds_ok, holds_err, settled_holds, read_holds}
use Rattle.saphyr_scanner.proofs.Queues.{holding}

-- ## A place is handed out

key_handed : (all : Enclosures) (d b n : ℕ) (p : Place) (ps : List Place) (block : Bool) (i : ℕ) (k : Option Candidate)
    → is_place n k ≡ false → KeyOf all d b (record { places = p ∷ ps; handed = n }) block i k
    → KeyOf (all_behind (place_pieces p.opening p.piece) all) d b (record { places = ps; handed = n + 1 }) block i k
key_handed all d b n p ps block i None e x = tt
key_handed all d b n p ps block i (Some k) e x = by x.front x.places x.at x.past
  where
    first : (w : Place) (ws front : List Place) → p ∷ ps ≡ (w ∷ ws) ++ front → w ≡ p
    first w ws front f = sym (ap (λ l. elim l [ [] ↦ p | y ∷ ys ↦ y ]) f)

    by : (front : List Place) → p ∷ ps ≡ front ++ bare_place x.token ∷ x.back → k.place ≡ n + length front
        → IsPast (all_behind (flat front) all).begun block k.mark.line
        → Key (all_behind (place_pieces p.opening p.piece) all) d b (record { places = ps; handed = n + 1 }) block i k
    by [] f at past =
        let same : k.place ≡ n = omega (arith, at) in
        absurd (let g : (k.place == n) ≡ true = ap (λ m. m == n) same ∙ eq-eqb n n refl in cc)
    by (w ∷ ws) f at past = record {
      front = ws;
      back = x.back;
      token = x.token;
      places = ap (drop 1) f;
      at = omega (arith, at);
      below = x.below;
      marked = x.marked;
      begins = x.begins;
      quiet = x.quiet;
      deep = x.deep;
      inside = x.inside;
      past =
          let P : Enclosures → Type 0 = λ y. IsPast y.begun block k.mark.line in
          rw (first w ws (bare_place x.token ∷ x.back) f) at (subst P
          (behind_append (place_pieces w.opening w.piece) (flat ws) all) past);
    }

keys_handed : (all : Enclosures) (d b n : ℕ) (p : Place) (ps : List Place) (i : ℕ) (ls : List Level)
    → any_holds n ls ≡ false → KeysFrom all d b (record { places = p ∷ ps; handed = n }) i ls
    → KeysFrom (all_behind (place_pieces p.opening p.piece) all) d b (record { places = ps; handed = n + 1 }) i ls
keys_handed all d b n p ps i [] e x = tt
keys_handed all d b n p ps i (l ∷ ls) e x =
    let f = or_parts (holds n l) (any_holds n ls) e in (
      x.0,
      key_handed all d b n p ps (is_block l.context) i l.key f.0 x.1,
      keys_handed all (suc d) (lower b l.key) n p ps i ls f.1 x.2,
    )

not_held : (ended held : Bool) → ended ≡ false → (not ended && held) ≡ false → held ≡ false
not_held ended held e f = grind arith

-- no place is handed out that may be a key outside flow, while the stream goes on
waits_elsewhere : (ended : Bool) (n : ℕ) (ls : List Level) (k : Candidate) → (ended ≡ true → ⊥)
    → (not ended && any_holds n ls) ≡ false → root_key ls ≡ Some k → k.place ≡ n → ⊥
waits_elsewhere true n ls k going e is at = going refl
waits_elsewhere false n ls k going e is at = held ls e is
  where
    held : (ls : List Level) → any_holds n ls ≡ false → root_key ls ≡ Some k → ⊥
    held [] e is = absurd (cc)
    held (l ∷ []) e is =
        let f = (or_parts (holds n l) false e).0 in
        let g : is_place n (Some k) ≡ true = ap (λ m. m == n) at ∙ eq-eqb n n refl in
        let same = ap (is_place n) is in absurd (cc)
    held (l ∷ m ∷ ls) e is = held (m ∷ ls) (or_parts (holds n l) (any_holds n (m ∷ ls)) e).1 is

abbrev From : List ℕ → Cursor → Type 0
From text u = LaterThan (start_cursor text) u × Reaches (start_cursor text) u

-- what is left where a place was handed out
record Left (text : List ℕ) (opened : Setting) (from : Cursor) (c : Core) (p : Place) (ps : List Place) (n : ℕ) :
    Type 0 where
  between : Cursor
  tokens : AreTokens opened.collections (place_pieces p.opening p.piece) from between
  in_place : AreInPlace opened.enclosures (place_pieces p.opening p.piece)
  indented : AreIndented opened.enclosures (place_pieces p.opening p.piece)
  bare : AreBare opened.front (place_pieces p.opening p.piece)
  later : From text between
  ready : Ready (setting_behind (place_pieces p.opening p.piece) opened) between (holding c ps (n + 1))

-- The first place of the queue is handed out, with the tokens in front of it. All that holds of the whole queue is
-- cut behind these tokens (`tokens_part`, `each_parts`, `bare_parts`), and what is left begins at the place between.
-- A candidate never waits at the place that is handed out (`waits_elsewhere`).
one_left : (text : List ℕ) (opened : Setting) (from : Cursor) (c : Core) (p : Place) (ps : List Place) (n : ℕ)
    → From text from → Ready opened from (holding c (p ∷ ps) n)
    → needs_token (holding c (p ∷ ps) n) ≡ false → Left text opened from c p ps n
one_left text opened from c p ps n l h e =
    let ts = place_pieces p.opening p.piece in
    let r = tokens_part opened.collections ts (flat ps) from h.taken.last h.taken.tokens in
    let w = each_parts may_stand ts (flat ps) opened.enclosures h.taken.in_place in
    let b = bare_parts ts (flat ps) opened.front h.taken.bare in
    let further = tokens_later opened.collections ts from r.between r.front in
    let same = behind_append ts (flat ps) opened.enclosures in
    let reached = tokens_reached opened.collections ts from r.between r.front in
    let i = indented_handed opened.enclosures c n p ps (λ f k is at. waits_elsewhere c.ended n (c.level ∷ c.outer) k
    (λ over. absurd (let no = h.settled over in cc)) e is at) h.taken.indented in
    record {
      between = r.between;
      tokens = r.front;
      in_place = w.0;
      indented = i.0;
      bare = b.0;
      later = (
        later_later (start_cursor text).mark text from.mark from.rest r.between.mark r.between.rest l.0 further,
        reaches_reaches (start_cursor text) from r.between l.1 reached,
      );
      ready = record {
        taken = record {
          last = h.taken.last;
          tokens = r.back;
          apart = h.taken.apart;
          stands = rw (open_append ts (flat ps) opened.collections) at h.taken.stands;
          in_place = w.1;
          encloses = ap calm (sym same) ∙ h.taken.encloses;
          small = (further.lines h.taken.small).1;
          ends = rw same at h.taken.ends;
          past = λ a small. rw same at (h.taken.past a small);
          bare = b.1;
          agrees = agrees_all ts opened.front opened.enclosures h.taken.agrees;
          entry = subst (λ f. IsEntry f c) (fronts_append ts (flat ps) opened.front) h.taken.entry;
          indented = i.1;
          right = h.taken.right;
          place = rw (open_append ts (flat ps) opened.collections) at h.taken.place;
        };
        live = λ f nz.
            let k = keys_handed opened.enclosures 0 (n + length (p ∷ ps)) n p ps c.indent (c.level ∷ c.outer)
            (not_held c.ended _ f e) (h.live f nz) in
            keys_weaken (all_behind ts opened.enclosures) 0 (n + length (p ∷ ps)) (n + 1 + length ps)
            (record { places = ps; handed = n + 1 }) c.indent (c.level ∷ c.outer) (omega arith) k;
        over = λ f u v. h.over f u (tokens_append opened.collections ts (flat ps) from r.between u r.front v);
        settled = h.settled;
        fresh = h.fresh;
      };
    }

-- ## What comes

abbrev FollowsTaken : List ℕ → Setting → Cursor → Remaining → Type 0
FollowsTaken text opened from r =
    (end : Cursor) × AreTokens opened.collections r.pieces from end × AreInPlace opened.enclosures r.pieces
    × AreIndented opened.enclosures r.pieces × AreBare opened.front r.pieces
    × (r.refusal ≡ None → end.rest ≡ []) × ((e : Refusal) → r.refusal ≡ Some e → IsPlaceOf text e.mark)

place_follows : (text : List ℕ) (opened : Setting) (from between : Cursor) (o : Opening) (t : Piece) (r : Remaining)
    → AreTokens opened.collections (place_pieces o t) from between → AreInPlace opened.enclosures (place_pieces o t)
    → AreIndented opened.enclosures (place_pieces o t) → AreBare opened.front (place_pieces o t)
    → FollowsTaken text (setting_behind (place_pieces o t) opened) between r
    → FollowsTaken text opened from (before_place o t r)
place_follows text opened from between u0 t r h i j b k = grind arith

handed_follow : (text : List ℕ) (go : State → Remaining) (c : Core)
    → ((opened : Setting) (from : Cursor) (n : ℕ) (ps : List Place) → From text from → (c.ended ≡ true → ps ≡ [])
    → Ready opened from (holding c ps n) → FollowsTaken text opened from (go (holding c ps n)))
    → (opened : Setting) (from : Cursor) (n : ℕ) (ps : List Place) → From text from
    → Ready opened from (holding c ps n) → FollowsTaken text opened from (hand_out ps go (holding c ps n))
handed_follow text go c others opened from n [] l h = others opened from n [] l (λ _. refl) h
handed_follow text go c others opened from n (p ∷ ps) l h =
    by_test (needs_token (holding c (p ∷ ps) n)) _ _ (FollowsTaken text opened from)
    (λ e. others opened from n (p ∷ ps) l (λ f. absurd (let g = going c.ended _ e in cc)) h) (λ e.
    let w = one_left text opened from c p ps n l h e in
    place_follows text opened from w.between p.opening p.piece _ w.tokens w.in_place w.indented w.bare
    (handed_follow text go c others (setting_behind (place_pieces p.opening p.piece) opened) w.between (n + 1) ps
    w.later w.ready))

delivers_taken : (text : List ℕ) (opened : Setting) (from : Cursor) (r : Result State Refusal)
    (go : State → Remaining) → ((t : State) → r ≡ Ok t → FollowsTaken text opened from (go t))
    → ((e : Refusal) → r ≡ Err e → IsPlaceOf text e.mark) → FollowsTaken text opened from (remaining_after r go)
delivers_taken text opened from (Ok t) go h k = h t refl
delivers_taken text opened from (Err e) go h k = (
  from,
  refl,
  tt,
  tt,
  tt,
  (λ i. absurd (cc)),
  (λ f i. k f (let same : e ≡ f = cc in ap (λ (x : Refusal). Err x) same)),
)

-- the laws of the readers
pub record AllLaws : Type 0 where
  pub texts : TextLaws
  pub readers : Readers
  pub refusals : RefusalLaws

run_follows : AllLaws → (text : List ℕ) → length text < 2 ^ 63
    → (limit fuel : ℕ) (opened : Setting) (from : Cursor) (s : State) → From text from → size s.core < fuel
    → Ready opened from s → NotedState s → FollowsTaken text opened from (run fuel limit s)
run_follows laws text small limit zero opened from s l f h m = absurd (omega (arith, f))
run_follows laws text small limit (suc fuel) opened from s l f h m = handed_follow text _ s.core (λ cs u n ps k over w.
    let t : State = holding s.core ps n in
    let r = fetch_within limit t >>= without_far_key in
    by_test t.core.ended _ _ (FollowsTaken text cs u)
    (λ e. let P : List Place → Type 0 = λ qs. AreTokens cs.collections (flat qs) u u in
    (u, refl, tt, tt, tt, (λ _. w.over e u (subst P (sym (over e)) refl)), (λ f i. absurd (cc))))
    (λ e. let known = read_holds laws.texts laws.refusals text small limit cs u t k.0 k.1 e w m in
    delivers_taken text cs u r (run fuel limit)
    (λ v q. let less = (given_of (Fetched t) r v (read_fetched limit t e) q).smaller laws.readers in
    run_follows laws text small limit fuel cs u v k (omega (arith, less, f))
    (given_of (Ready cs u) r v (read_ready laws.texts text small limit cs u t k.0 e w) q)
    (holds_ok NotedState (start_cursor text) r v known q))
    (λ g q. place_of text g.mark (holds_err NotedState (start_cursor text) r g known q))))
    opened from s.queue.handed s.queue.places l h

-- where a text begins
abbrev outset : Setting
outset = record { collections = no_collections; enclosures = not_enclosed; front = OtherFront }

-- At the start of a text nothing was taken, nothing is open, and nothing waits.
start_read : (text : List ℕ) → Read outset (start_cursor text) (start text)
start_read text = record {
  fetched = record {
    taken = record {
      last = start_cursor text;
      tokens = refl;
      apart = taken.nothing _ _;
      stands = ((refl, refl), refl);
      in_place = tt;
      encloses = refl;
      small = omega arith;
      ends = tt;
      past = λ _ _. tt;
      bare = tt;
      agrees = tt;
      entry = tt;
      indented = record { free = λ _. tt; waits = λ e. absurd (cc) };
      right = λ _ e. absurd (cc);
      place = (omega arith, λ _ some. absurd (omega (arith, some)));
    };
    live = λ _. inl (λ nz. (refl, tt, tt));
  };
  over = λ e. absurd (cc);
  settled = λ e. absurd (cc);
  fresh = λ _ _. (refl, refl);
}

scan_follows : AllLaws → (limit : ℕ) (text : List ℕ) → length text < 2 ^ 63
    → FollowsTaken text outset (start_cursor text) (scan limit text)
unfolding remaining
scan_follows laws limit text small =
    let s : State = start text in
    let here : Reaches (start_cursor text) (start_cursor text) = taken.nothing _ _ in
    let known = settled_holds text s here (inl refl) in
    delivers_taken text outset (start_cursor text) (without_far_key s) (λ t. run (suc (size t.core)) limit t)
    (λ t e. run_follows laws text small limit (suc (size t.core)) outset (start_cursor text) t
    (later_here (start_cursor text).mark text, here) (omega arith)
    (given_of (Ready outset (start_cursor text)) (without_far_key s) t
    (settled_ready outset (start_cursor text) s (start_read text)) e)
    (holds_ok NotedState (start_cursor text) (without_far_key s) t known e))
    (λ g q. place_of text g.mark (holds_err NotedState (start_cursor text) (without_far_key s) g known q))

pub scan_taken : AllLaws → (limit : ℕ) (text : List ℕ) → length text < 2 ^ 63 → AreTakenFrom text (scan limit text)
scan_taken laws limit text small =
    let h = scan_follows laws limit text small in
    (h.0, h.1, h.2, h.3, h.4, by (scan limit text).refusal h.0 h.5 h.6)
  where
    by : (o : Option Refusal) (end : Cursor) → (o ≡ None → end.rest ≡ [])
        → ((e : Refusal) → o ≡ Some e → IsPlaceOf text e.mark) → IsEndOf text o end
    by o end a b = grind arith
