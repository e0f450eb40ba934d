-- Where a fetch of the next token refuses.
use Rattle.std.proofs.Common.{◌≡◌, ℕ, Bool, true, length, Option, Some, None, Result, Ok, Err, refl, ◌∙◌, inl, arith}
use Rattle.std.specs.Prelude.{◌&&◌, ◌==◌, nat_lt, slice_index}
use Rattle.saphyr_input.specs.Classes.{is_bom, is_z}
use Rattle.saphyr_input.specs.Places.{is_document_start, is_document_end}
use Rattle.saphyr_scalar.specs.declared.scalar.position.Marker.{Marker}
use Rattle.saphyr_scalar.specs.declared.scalar.fault.Refusal.{Refusal}
use Rattle.saphyr_scalar.specs.Views.Cursor.{Cursor, ◌>>=◌}
use Rattle.saphyr_scanner.specs.Steps.Queue.{Queue, next}
use Rattle.saphyr_scanner.specs.Steps.Core.{Core, StepResult, drop_far_key, least_column}
use Rattle.saphyr_scanner.specs.Steps.Document as document
use Rattle.saphyr_scanner.specs.Steps.Fetch.{step, state_behind_content, fetch_here, arrive, fetch}
use Rattle.saphyr_scanner.specs.Steps.Passing.{pass_gap}
use Rattle.saphyr_scanner.specs.Steps.State.{State, on_core, after_step}
use Rattle.saphyr_scanner.specs.TokensTaken as taken
use Rattle.saphyr_scanner.specs.Steps.Unrolling.{unroll}
use Rattle.saphyr_scanner.proofs.Blocks.{unrolled_cursor, unrolled_comment}
use Rattle.saphyr_scanner.proofs.Effects.Documents.{Documented, start_walked, end_marker_walked, mark_walked, directive_walked}
use Rattle.saphyr_scanner.proofs.Effects.Walked.{Premises, Walked}
use Rattle.saphyr_scanner.proofs.Effects.Fetch.{some_character_left, deep_here, step_does}
use Rattle.saphyr_scanner.proofs.Taken.Documents.{end_place, no_length}
use Rattle.saphyr_scanner.proofs.Effects.Readers.{TextLaws, RefusalLaws}
use Rattle.saphyr_scanner.proofs.Taken.Places.{at_here, at_further}
use Rattle.saphyr_scanner.proofs.Refusing.Refusals.{HoldsOrRefuses, walked_holds, holds_then, holds_further, Goes, Noted, NotedStep, Still, goes_still, drop_still, gap_holds}
use Rattle.saphyr_input.proofs.Basics.Booleans.{by_test}
use Rattle.std.proofs.lemmas.Bool.{and_parts, eqb-true}

abbrev pub NotedState : State → Type 0
NotedState t = Noted t.core

-- ## Block collections end

unrolled_still : (column : Option ℕ) (m : Marker) (s : State) → Still s.core (unroll column m s).core
unrolled_still column m s = (unrolled_cursor column m s, unrolled_comment column m s)

pub on_core_holds : (P : Core → Type 0) (s : Cursor) (r : Result Core Refusal) (q : Queue) → HoldsOrRefuses P s r
    → HoldsOrRefuses (λ (t : State). P t.core) s (on_core r q)
on_core_holds P s (Ok c) q h = h
on_core_holds P s (Err e) q h = h

-- ## Documents

pub stream_holds : (s : State) → s.core.comment ≡ None
    → HoldsOrRefuses NotedState s.core.cursor (document.state_behind_end s)
unfolding document.state_behind_end document.end_at
stream_holds s n =
    let c = s.core.cursor in
    by_test (length c.rest == 0) _ _ (HoldsOrRefuses NotedState c)
    (λ e. by_test s.core.required _ _ (HoldsOrRefuses NotedState c)
    (λ _. (c, taken.nothing c.mark c.rest, end_place c (no_length c.rest e)))
    (λ _. inl (unrolled_comment None (document.end_mark c.mark) s ∙ n))) (λ _. at_here c)

document_holds : (s : State) → Premises s.core → (r : Result State Refusal)
    → Walked (Premises s.core) (Documented s) s.core.cursor r → HoldsOrRefuses NotedState s.core.cursor r
document_holds s laws (Ok t) h = inl (h.comment laws.2)
document_holds s laws (Err e) h = h laws

after_step_holds : (s : Cursor) (r : StepResult) (q : Queue) → HoldsOrRefuses NotedStep s r
    → HoldsOrRefuses NotedState s (after_step r q)
after_step_holds s (Ok x) q h = h
after_step_holds s (Err e) q h = h

-- ## What begins here

pub here_holds : TextLaws → RefusalLaws → (s : State) → s.core.comment ≡ None
    → HoldsOrRefuses NotedState s.core.cursor (fetch_here s)
unfolding fetch_here state_behind_content
here_holds texts laws s n =
    let t = s.core.cursor.rest in
    let P = HoldsOrRefuses NotedState s.core.cursor in
    let at : (b : Bool) → ((s.core.cursor.mark.col == 0) && b) ≡ true → (s.core.cursor.mark.col ≡ 0) × (b ≡ true) =
    λ b e. let w = and_parts (s.core.cursor.mark.col == 0) b e in (eqb-true s.core.cursor.mark.col 0 w.0, w.1) in
    let known : (r : Result State Refusal) → Walked (Premises s.core) (Documented s) s.core.cursor r → P r =
    λ r w. document_holds s (laws, texts, n) r w in
    by_test (is_z (slice_index t 0)) _ _ P (λ _. stream_holds s n)
    (λ z. by_test (is_bom (slice_index t 0)) _ _ P (λ e. known _ (mark_walked s e))
    (λ _. by_test ((s.core.cursor.mark.col == 0) && (slice_index t 0 == 37)) _ _ P
    (λ e. let w = at (slice_index t 0 == 37) e in
    known _ (directive_walked s w.0 (eqb-true (slice_index t 0) 37 w.1)))
    (λ _. by_test ((s.core.cursor.mark.col == 0) && is_document_start t) _ _ P
    (λ e. let w = at (is_document_start t) e in known _ (start_walked s w.0 w.1))
    (λ _. by_test ((s.core.cursor.mark.col == 0) && is_document_end t) _ _ P
    (λ e. let w = at (is_document_end t) e in known _ (end_marker_walked s w.0 w.1))
    (λ _. by_test (nat_lt s.core.cursor.mark.col (least_column s.core)) _ _ P (λ _. at_here s.core.cursor)
    (λ e. let r = step (slice_index t 0) (slice_index t 1) (next s.queue) s.core in
    after_step_holds s.core.cursor r s.queue (walked_holds s.core (laws, texts, n) (next s.queue) r
    (step_does (slice_index t 0) (slice_index t 1) (next s.queue) s.core (some_character_left t z) refl refl
    (deep_here s.core e)))))))))

-- ## To where it begins

-- a place is reached
abbrev GoesState : Cursor → State → Type 0
GoesState s t = Goes s t.core

arrive_holds : (s : State) → NotedState s → HoldsOrRefuses (GoesState s.core.cursor) s.core.cursor (arrive s)
unfolding arrive
arrive_holds s n =
    let c = s.core.cursor in
    let r = pass_gap s.core >>= drop_far_key in
    holds_then (GoesState c) (GoesState c) c (on_core r s.queue) _ (on_core_holds (Goes c) c r s.queue
    (holds_then (Goes c) (Goes c) c (pass_gap s.core) drop_far_key (gap_holds s.core n)
    (λ d g. by d g (drop_far_key d) (drop_still d))))
    (λ t g. goes_still c t.core (unroll (Some t.core.cursor.mark.col) t.core.cursor.mark t).core
    (unrolled_still (Some t.core.cursor.mark.col) t.core.cursor.mark t) g)
  where
    by : (d : Core) → Goes s.core.cursor d → (r : Result Core Refusal) → HoldsOrRefuses (Still d) d.cursor r
        → HoldsOrRefuses (Goes s.core.cursor) s.core.cursor r
    by d g (Ok e) h = goes_still s.core.cursor d e h g
    by d g (Err e) h = at_further s.core.cursor d.cursor e.mark g.0 h

pub fetch_holds : TextLaws → RefusalLaws → (s : State) → NotedState s
    → HoldsOrRefuses NotedState s.core.cursor (fetch s)
unfolding fetch
fetch_holds texts laws s n = grind (arith, by_test, holds_then, arrive_holds, holds_further, here_holds)
