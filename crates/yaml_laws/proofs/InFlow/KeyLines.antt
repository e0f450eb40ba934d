-- A key on one line at block level: how its first token is read.
use Rattle.yaml_laws.proofs.Common.{after_step, Bool, List, Ok, ap, arith, false, length, refl, slice_index, suc, true, ℕ, ◌+◌, ◌∙◌, ◌∷◌, ◌≡◌, ◌≤◌, [], None, Option, Some, inr, true≢false, nat_le, nat_lt, not, ◌&&◌, ◌-◌, ◌==◌, nat_tests, is_blank, AreIn, Marker, Cursor, ◌>>=◌, GapEnd, stop, Place, Candidate, State, on_core, cursor_at, queue_of, no_return, Core, StepResult, zero-add, stop_here}
use Rattle.saphyr_scanner.specs.declared.engine.level.Context.TheVariants as context
use Rattle.saphyr_scanner.specs.Steps.Core.{drop_far_key}
use Rattle.saphyr_scanner.specs.Steps.Passing.{pass_gap, check_comment, behind_gap}
use Rattle.saphyr_scanner.specs.Steps.Unrolling.{unroll}
use Rattle.saphyr_scanner.specs.Steps.Fetch.{step, state_behind_content, fetch_here, arrive, fetch}
use Rattle.yaml_laws.proofs.InFlow.States.{Around, core_at, state_at, least, reach, drops_far_key, key_left, no_ends, moment, FlowMoment, behind_key, unrequired, Ready}
use Rattle.yaml_laws.proofs.Flow.States.{IsContentStart}
use Rattle.yaml_laws.proofs.Flow.Tokens.{BeginsToken}

-- the blanks between a key and its colon
pub record Blanks : Type 0 where
  pub text : List ℕ
  pub are : AreIn is_blank text

-- ## The first token

-- content is no further left than its collection's entries
begins_low : (around : Around) (d : Bool) (now : FlowMoment) → BeginsToken now.cursor.mark now.cursor.rest
    → nat_lt now.cursor.mark.col (reach around d) ≡ false → fetch_here (state_at around now d)
    ≡ state_behind_content (slice_index now.cursor.rest 0) (slice_index now.cursor.rest 1) (state_at around now d)
unfolding fetch_here
begins_low around d now h right = grind arith

-- whether a key has to be at a column
abbrev pub is_required : Around → Bool → Marker → Bool
is_required around d m = not d && (around.column == m.col + 1)

-- the same where that is told at m
abbrev pub requiring : Around → Bool → Marker → Around
requiring around d m = record around { pending = is_required around d m; required = is_required around d m }

pub to_next : (a n : ℕ) → a ≤ n + 1 → a ≤ suc n
to_next a n h = omega (arith, h)

-- the same where a key begins at m, which is the column of its block mapping
abbrev pub keyed : (around : Around) → Bool → (m : Marker) → around.column ≤ m.col + 1 → Candidate → Around
keyed around d m low k = record around {
  indent = suc m.col;
  low = to_next around.column m.col low;
  pending = is_required around d m;
  required = is_required around d m;
  held = Some k;
}

-- whether content has to be further right at a key's line
abbrev pub deeper_at : Around → Bool → Marker → Bool
deeper_at around d m = d && nat_le around.column m.col

still_least : (around : Around) (d : Bool) (m : Marker) → around.column ≤ m.col + 1
    → nat_lt m.col (least around.column (deeper_at around d m)) ≡ false
still_least around d m h = grind arith

-- A step gives the same where a key may begin and where that key is kept already.
abbrev pub KeepsPlace : Around → (ℕ → Core → StepResult) → Type 0
KeepsPlace around does = (d : Bool) (s : Cursor) (k : Option Candidate) (ad n : ℕ)
    → does n (core_at around d (moment s context.Block k [] true ad [])) ≡ does n (core_at (requiring around d s.mark)
    d (moment s context.Block (Some (record { mark = s.mark; place = n })) [] false ad []))

-- the step at the first token of a key keeps the key's place
abbrev pub Fresh : Around → List ℕ → Type 0
Fresh around t = KeepsPlace around (step (slice_index t 0) (slice_index t 1))

-- The first token of a key. It saves the key's place, and the tokens after it find that saved. So that one lemma on
-- a token is enough for both, it is told as if the place had been saved before it, which gives the same (`Fresh`,
-- shown of each kind of token in `KeyFirsts`).
pub first_ready : (around : Around) → around.pending ≡ false
    → (d blank : Bool) (k : Option Candidate) (ad : ℕ) (ps : List Place) (m : Marker) (c : ℕ) (cs : List ℕ)
    → IsContentStart c → (right : around.column ≤ m.col + 1) → BeginsToken m (c ∷ cs) → Fresh around (c ∷ cs)
    → let here : Candidate = record { mark = m; place = length ps } in
    Ready (keyed around (deeper_at around d m) m right here)
    (λ _. state_at around (moment (cursor_at (c ∷ cs) m blank) context.Block k [] true ad ps) d)
    (moment (cursor_at (c ∷ cs) m blank) context.Block (Some here) [] false ad ps) m (c ∷ cs)
unfolding fetch arrive pass_gap check_comment unroll state_behind_content
first_ready around calm d blank k ad ps m c cs content right token fresh =
    let there = cursor_at (c ∷ cs) m blank in
    let begun = moment there context.Block k [] true ad ps in
    let left = key_left context.Block k m in
    let kept = moment there context.Block left [] true ad ps in
    let e = deeper_at around d m in
    let gapped = ap stop (rw (content.blank, content.break, content.comment, no_return c content.break) refl)
    ∙ stop_here m blank false (c ∷ cs) in
    let passed = ap (λ r. r >>= λ (p : GapEnd). check_comment (behind_gap (core_at around d begun) p)) gapped in
    let reached = ap (λ r. r >>= drop_far_key) passed ∙ drops_far_key around None d begun (unrequired calm) in
    let arrived = ap (λ r. on_core r (queue_of ps) >>= λ (t : State). Ok
    (unroll (Some t.core.cursor.mark.col) t.core.cursor.mark t)) reached
    ∙ ap Ok (no_ends m.col m around.outers (state_at around kept e)
    (one_less around.column m.col right)) in
    let here : Candidate = record { mark = m; place = length ps } in
    record {
      blank = blank;
      key = Some here;
      allowed = false;
      to = λ _. e;
      running = λ _. refl;
      fetches = λ _. ap (λ r. r >>= fetch_here) arrived ∙ begins_low around e kept token (still_least around d m right)
          ∙ ap (λ (n : ℕ). after_step (step c (slice_index cs 0) n (core_at around e kept)) (queue_of ps))
          (zero-add (length ps)) ∙ ap (λ r. after_step r (queue_of ps)) (fresh e there left ad (length ps));
      placed = behind_key refl refl;
      same = λ flow. absurd (true≢false flow);
      kept = inr refl;
      holds = λ k held block. (held, refl);
    }
  where
    one_less : (a b : ℕ) → a ≤ b + 1 → nat_lt b (a - 1) ≡ false
    one_less a b h = grind (arith, nat_tests)
