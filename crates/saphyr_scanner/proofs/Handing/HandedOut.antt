-- Fetching a token does the same whether the first places were handed out before or not.
use Rattle.std.proofs.Common.{◌≡◌, ℕ, zero, suc, ◌-◌, ◌≤◌, ◌<◌, Bool, true, false, List, [], ◌∷◌, ◌++◌, length, Result, Ok, Err, refl, sym, ap, ◌∙◌, subst, cond, arith, append_assoc, length-append}
use Rattle.std.specs.Prelude.{◌&&◌, ◌||◌, slice_index, not, ◌==◌, nat_lt, nat_le, Option, Some, None}
use Rattle.saphyr_input.specs.Classes.{is_bom, is_z}
use Rattle.saphyr_input.specs.Places.{is_document_start, is_document_end}
use Rattle.saphyr_scalar.specs.declared.scalar.position.Marker.{Marker}
use Rattle.saphyr_scalar.specs.declared.scalar.fault.Refusal.{Refusal}
use Rattle.saphyr_scalar.specs.Views.Cursor.{◌>>=◌}
use Rattle.saphyr_scanner.specs.declared.queue.Opening.{Opening}
use Rattle.saphyr_scanner.specs.Grammar.Tokens as tokens
use Rattle.saphyr_scanner.specs.Grammar.Tokens.{Kind}
use Rattle.saphyr_scanner.specs.Views.Tokens.{Piece}
use Rattle.saphyr_scanner.specs.Steps.Queue.{Place, Queue, next, with_piece, places_with_opening, bare_place}
use Rattle.saphyr_scanner.specs.Steps.Core.{Core, Action, Put, Open, StepResult, perform, in_block, least_column, remove_key, drop_far_key}
use Rattle.saphyr_scanner.specs.Steps.State.{State, on_core, after_step}
use Rattle.saphyr_scanner.specs.Steps.Unrolling.{unroll, end_blocks, end_block, is_right_of, with_outer_indent, go_less_deep}
use Rattle.saphyr_scanner.specs.Steps.Document as document
use Rattle.saphyr_scanner.specs.Steps.Fetch.{step, state_behind_content, fetch_here, arrive, fetch, check_limit, fetch_within, without_far_key}
use Rattle.saphyr_scalar.specs.Steps.Directive as directives
use Rattle.saphyr_scanner.proofs.Taken.Candidates.{Above, ActionsAbove, KeepsPlacesAbove}
use Rattle.saphyr_scanner.proofs.Effects.Steps as effects
use Rattle.saphyr_scanner.proofs.Effects.Fetch.{some_character_left, deep_here, step_effect, arrival_goes}
use Rattle.saphyr_scanner.proofs.Taken.Keys.{IsDeep}
use Rattle.saphyr_scalar.proofs.Given.{Given, given_bind, given_map}
use Rattle.saphyr_scalar.proofs.Choices.{both_by}

-- the first queue holds these places, and in the second they were handed out
pub record Behind (hs : List Place) (q p : Queue) : Type 0 where
  pub places : q.places ≡ hs ++ p.places
  pub none : q.handed ≡ 0
  pub handed : p.handed ≡ length hs

-- The same of states. What may be a key was not handed out.
pub record Goes (hs : List Place) (s t : State) : Type 0 where
  pub core : t.core ≡ s.core
  pub queue : Behind hs s.queue t.queue
  pub above : Above (length hs) s.core

-- the same of what is given, or the same refusal
abbrev pub Same : List Place → Result State Refusal → Result State Refusal → Type 0
Same hs (Ok s) (Ok t) = Goes hs s t
Same hs (Ok s) (Err e) = ⊥
Same hs (Err e) (Ok t) = ⊥
Same hs (Err e) (Err f) = e ≡ f

abbrev pub at : Core → Queue → State
at c q = record { core = c; queue = q }

-- what gives the same with these places in front
abbrev pub AgreesBehind : List Place → (State → Result State Refusal) → Type 0
AgreesBehind hs f = (c : Core) (q p : Queue) → Behind hs q p → Above (length hs) c → Same hs (f (at c q)) (f (at c p))

same_if : (hs : List Place) (b : Bool) (r s t u : Result State Refusal) → Same hs r t → Same hs s u
    → Same hs (cond b r s) (cond b t u)
same_if hs true r s t u x y = x
same_if hs false r s t u x y = y

goes_if : (hs : List Place) (b : Bool) (r s t u : State) → Goes hs r t → Goes hs s u → Goes hs (cond b r s) (cond b t u)
goes_if hs true r s t u x y = x
goes_if hs false r s t u x y = y

pub agreed : (hs : List Place) (f : State → Result State Refusal) (s t : State) → AgreesBehind hs f → Goes hs s t
    → Same hs (f s) (f t)
agreed hs f s t h g = rw g.core (h s.core s.queue t.queue g.queue g.above)

same_then : (hs : List Place) (r s : Result State Refusal) (f : State → Result State Refusal) → Same hs r s
    → AgreesBehind hs f → Same hs (r >>= f) (s >>= f)
same_then hs (Ok s) (Ok t) f g h = agreed hs f s t h g
same_then hs (Ok s) (Err e) f g h = absurd g
same_then hs (Err e) (Ok t) f g h = absurd g
same_then hs (Err e) (Err d) f g h = g

-- ## What is done to the queue

with_opening_agrees : (o : Opening) (hs ws : List Place) (n : ℕ) → length hs ≤ n
    → places_with_opening n o (hs ++ ws) ≡ hs ++ places_with_opening (n - length hs) o ws
with_opening_agrees o [] ws n h = let e : n ≡ n - 0 = omega arith in ap (λ m. places_with_opening m o ws) e
with_opening_agrees o (p ∷ hs) ws zero h = absurd (omega (arith, h))
with_opening_agrees o (p ∷ hs) ws (suc n) h =
    let e : n - length hs ≡ suc n - suc (length hs) = omega arith in
    ap (λ xs. p ∷ xs) (with_opening_agrees o hs ws n (omega (arith, h)) ∙ ap (λ m. hs ++ places_with_opening m o ws) e)

put_behind : (hs : List Place) (t : Piece) (q p : Queue) → Behind hs q p → Behind hs (with_piece t q) (with_piece t p)
put_behind hs t q p b = record {
  places = ap (λ xs. xs ++ bare_place t ∷ []) b.places ∙ append_assoc hs p.places (bare_place t ∷ []);
  none = b.none;
  handed = b.handed;
}

acts_behind : (hs : List Place) (actions : List Action) (q p : Queue) → Behind hs q p → ActionsAbove (length hs) actions
    → Behind hs (perform actions q) (perform actions p)
acts_behind hs [] q p b k = b
acts_behind hs (Put t ∷ others) q p b k = acts_behind hs others (with_piece t q) (with_piece t p)
    (put_behind hs t q p b) k
acts_behind hs (Open n o ∷ others) q p b k =
    let same_number : n - q.handed ≡ n = let z = b.none in omega (arith, z) in
    let places = ap (λ m. places_with_opening m o q.places) same_number ∙ ap (places_with_opening n o) b.places
    ∙ with_opening_agrees o hs p.places n k.0 ∙ ap (λ m. hs ++ places_with_opening (n - m) o p.places) (sym b.handed) in
    acts_behind hs others _ _ (record { places = places; none = b.none; handed = b.handed }) k.1

same_next : (hs : List Place) (q p : Queue) → Behind hs q p → next q ≡ next p
same_next hs q p b = let z = b.none in let y = b.handed in let x =
    ap length b.places in let l = length-append hs p.places in omega (arith, x, y, z, l)

after_step_agrees : (hs : List Place) (r : StepResult) (q p : Queue) → Behind hs q p
    → Given (KeepsPlacesAbove (length hs)) r → Same hs (after_step r q) (after_step r p)
after_step_agrees hs (Ok x) q p b k = record { core = refl; queue = acts_behind hs x.actions q p b k.1; above = k.0 }
after_step_agrees hs (Err e) q p b k = refl

on_core_agrees : (hs : List Place) (c : Core) (r : Result Core Refusal) (q p : Queue) → Behind hs q p
    → Above (length hs) c → Given (effects.Goes 0 c.cursor c) r → Same hs (on_core r q) (on_core r p)
on_core_agrees hs c (Ok d) q p b k g = record { core = refl; queue = b; above = g.1.3 (length hs) k }
on_core_agrees hs c (Err e) q p b k g = refl

-- ## Unrolling

outer_indent_above : (h : ℕ) (is : List ℕ) (c : Core) → Above h c → Above h (with_outer_indent is c)
outer_indent_above h [] c k = k
outer_indent_above h (i ∷ is) c k = k

less_above : (h : ℕ) (column : Option ℕ) (c : Core) → Above h c → Above h (go_less_deep column c)
less_above h None c k = k
less_above h (Some column) c k = k

block_goes : (hs : List Place) (m : Marker) (c : Core) (q p : Queue) → Behind hs q p → Above (length hs) c
    → Goes hs (end_block m (at c q)) (end_block m (at c p))
block_goes hs m c q p b k =
    record { core = refl; queue = put_behind hs _ q p b; above = outer_indent_above (length hs) c.outer_indents c k }

blocks_go : (hs : List Place) (column : Option ℕ) (m : Marker) (is : List ℕ) (c : Core) (q p : Queue) → Behind hs q p
    → Above (length hs) c → Goes hs (end_blocks column m is (at c q)) (end_blocks column m is (at c p))
blocks_go hs column m [] c q p b k = goes_if hs (is_right_of column c.indent) _ _ _ _ (block_goes hs m c q p b k)
    (record { core = refl; queue = b; above = k })
blocks_go hs column m (i ∷ is) c q p b k =
    let g = block_goes hs m c q p b k in
    goes_if hs (is_right_of column c.indent) _ _ _ _
    (blocks_go hs column m is (with_outer_indent c.outer_indents c) _ _ g.queue g.above)
    (record { core = refl; queue = b; above = k })

unroll_goes : (hs : List Place) (column : Option ℕ) (m : Marker) (c : Core) (q p : Queue) → Behind hs q p
    → Above (length hs) c → Goes hs (unroll column m (at c q)) (unroll column m (at c p))
unfolding unroll
unroll_goes hs column m c q p b k = goes_if hs (in_block c) _ _ _ _
    (blocks_go hs column m c.outer_indents (go_less_deep column c) q p b (less_above (length hs) column c k))
    (record { core = refl; queue = b; above = k })

-- ## Documents

removal_agrees : (hs : List Place) → AgreesBehind hs document.remove_key_of
removal_agrees hs c q p b k = on_core_agrees hs c (remove_key c) q p b k
    (effects.remove_goes 0 c.cursor c c (effects.goes_none c))

content_ends : (hs : List Place) → AgreesBehind hs document.end_content
unfolding document.end_content
content_ends hs c q p b k =
    agreed hs document.remove_key_of _ _ (removal_agrees hs) (unroll_goes hs None c.cursor.mark c q p b k)

marker_agrees : (hs : List Place) (kind : Kind) → AgreesBehind hs (document.state_behind_marker kind)
unfolding document.state_behind_marker
marker_agrees hs kind c q p b k =
    same_then hs (document.end_content (at c q)) (document.end_content (at c p)) _ (content_ends hs c q p b k)
    (λ d r s e a. record { core = refl; queue = put_behind hs _ r s e; above = a })

end_marker_agrees : (hs : List Place) → AgreesBehind hs document.state_behind_document_end
unfolding document.state_behind_document_end document.end_line
end_marker_agrees hs c q p b k = grind (arith, same_then, marker_agrees)

mark_agrees : (hs : List Place) → AgreesBehind hs document.state_behind_byte_order_mark
unfolding document.state_behind_byte_order_mark
mark_agrees hs c q p b k = same_if hs (nat_lt 0 c.cursor.mark.col || not (in_block c)) _ _ _ _ refl
    (same_then hs (document.end_content (at c q)) (document.end_content (at c p)) _ (content_ends hs c q p b k)
    (λ d r s e a. record { core = refl; queue = put_behind hs _ r s e; above = a }))

finish_goes : (hs : List Place) (m : Marker) (s t : State) → Goes hs s t
    → Goes hs (document.finish m s) (document.finish m t)
finish_goes hs m s t g =
    record { core = ap document.core_at_end g.core; queue = put_behind hs _ s.queue t.queue g.queue; above = g.above }

stream_agrees : (hs : List Place) → AgreesBehind hs document.state_behind_end
unfolding document.state_behind_end document.end_at
stream_agrees hs c q p b k = same_if hs (length c.cursor.rest == 0) _ _ _ _ (same_if hs c.required _ _ _ _ refl
    (let m : Marker = document.end_mark c.cursor.mark in finish_goes hs m _ _ (unroll_goes hs None m c q p b k))) refl

-- ## What begins at a place

content_same : (hs : List Place) (first second : ℕ) (c : Core) (q p : Queue) → 0 < length c.cursor.rest
    → slice_index c.cursor.rest 0 ≡ first → slice_index c.cursor.rest 1 ≡ second → IsDeep c → Behind hs q p
    → Above (length hs) c
    → Same hs (state_behind_content first second (at c q)) (state_behind_content first second (at c p))
unfolding state_behind_content
content_same hs first second c q p some f g deep b k =
    let n : next q ≡ next p = same_next hs q p b in
    let places = ap length b.places in let l = length-append hs p.places in
    let before : length hs ≤ next q = omega (arith, places, l) in
    let known = after_step_agrees hs (step first second (next q) c) q p b
    (given_map _ _ (step first second (next q) c) (λ x e. e.keeps (length hs) (before, k))
    (step_effect first second (next q) c some f g deep)) in
    subst (λ (m : ℕ). Same hs (after_step (step first second (next q) c) q) (after_step (step first second m c) p)) n
    known

directive_keeps : (h : ℕ) (c : Core) → Above h c → Given (KeepsPlacesAbove h) (document.read_directive c)
unfolding document.read_directive
directive_keeps h c k = given_bind (KeepsPlacesAbove h) (directives.directive c.cursor) _ (λ x e. (k, tt))

directive_agrees : (hs : List Place) → AgreesBehind hs document.state_behind_directive
unfolding document.state_behind_directive
directive_agrees hs c q p b k =
    same_then hs (document.end_content (at c q)) (document.end_content (at c p)) _ (content_ends hs c q p b k)
    (λ d r s e a. after_step_agrees hs (document.read_directive d) r s e (directive_keeps (length hs) d a))

here_agrees : (hs : List Place) → AgreesBehind hs fetch_here
unfolding fetch_here
here_agrees hs c q p b k =
    let t = c.cursor.rest in
    both_by (is_z (slice_index t 0)) _ _ _ _ _ (Same hs) refl (λ _ _. stream_agrees hs c q p b k)
    (λ z _. same_if hs (is_bom (slice_index t 0)) _ _ _ _ (mark_agrees hs c q p b k)
    (same_if hs ((c.cursor.mark.col == 0) && (slice_index t 0 == 37)) _ _ _ _ (directive_agrees hs c q p b k)
    (same_if hs ((c.cursor.mark.col == 0) && is_document_start t) _ _ _ _
    (marker_agrees hs tokens.DocumentStart c q p b k)
    (same_if hs ((c.cursor.mark.col == 0) && is_document_end t) _ _ _ _ (end_marker_agrees hs c q p b k)
    (both_by (nat_lt c.cursor.mark.col (least_column c)) _ _ _ _ _ (Same hs) refl (λ _ _. refl)
    (λ e _. content_same hs (slice_index t 0) (slice_index t 1) c q p (some_character_left t z) refl refl
    (deep_here c e) b k))))))

arrive_agrees : (hs : List Place) → AgreesBehind hs arrive
unfolding arrive
arrive_agrees hs c q p b k = search (same_then, on_core_agrees, arrival_goes, unroll_goes)

fetch_agrees : (hs : List Place) → AgreesBehind hs fetch
unfolding fetch
fetch_agrees hs c q p b k = same_if hs c.started _ _ _ _
    (same_then hs (arrive (at c q)) (arrive (at c p)) fetch_here (arrive_agrees hs c q p b k) (here_agrees hs))
    (record { core = refl; queue = put_behind hs _ q p b; above = k })

within_agrees : (hs : List Place) (limit : ℕ) → AgreesBehind hs (check_limit limit)
within_agrees hs limit c q p b k =
    same_if hs (nat_le c.cursor.mark.index limit) _ _ _ _ (record { core = refl; queue = b; above = k }) refl

settled_agrees : (hs : List Place) → AgreesBehind hs without_far_key
settled_agrees hs c q p b k = on_core_agrees hs c (drop_far_key c) q p b k
    (effects.drop_goes 0 c.cursor c c (effects.goes_none c))

-- a token that is fetched, and the candidate of its line dropped where it is too far
pub read_agrees : (hs : List Place) (limit : ℕ) → AgreesBehind hs (λ s. fetch_within limit s >>= without_far_key)
unfolding fetch_within
read_agrees hs limit c q p b k = search (same_then, fetch_agrees, within_agrees, settled_agrees)
