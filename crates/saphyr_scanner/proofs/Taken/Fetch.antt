-- Each token that is fetched is taken from the text.
use Rattle.saphyr_scanner.proofs.Common.{◌≡◌, ℕ, ◌^◌, ◌<◌, true, false, List, [], length, None, Result, Ok, Err, refl, ◌∙◌, inl, inr, arith, ◌&&◌, ◌==◌, slice_index, not, nat_lt, nat_le, is_z, is_bom, is_document_start, is_document_end, Marker, Refusal, Cursor, start_cursor, ◌>>=◌, by_test, and_false, Given, given_bind, given_of, and_parts, not-true, eqb-true, ltb-false}
use Rattle.saphyr_scanner.specs.Grammar.Tokens as tokens
use Rattle.saphyr_scanner.specs.Steps.Queue.{Queue, with_piece, next, empty_piece}
use Rattle.saphyr_scanner.specs.Steps.Core.{StepResult, in_block, is_too_far, forget_key, drop_far_key, least_column}
use Rattle.saphyr_scanner.specs.Steps.State.{State, on_core, after_step}
use Rattle.saphyr_scanner.specs.Steps.Document as document
use Rattle.saphyr_scanner.specs.Steps.Fetch.{step, state_behind_content, fetch_here, arrive, fetch, begin, check_limit, fetch_within, without_far_key}
use Rattle.saphyr_scanner.specs.TokensTaken as taken
use Rattle.saphyr_scanner.specs.TokensTaken.{AreTokens}
use Rattle.saphyr_scanner.proofs.Effects.Readers.{TextLaws}
use Rattle.saphyr_scanner.proofs.Leads.{flat}
use Rattle.saphyr_scanner.proofs.Effects.States.{FetchesTokens, after_step_fetches}
use Rattle.saphyr_scanner.proofs.Effects.Fetch.{some_character_left, deep_here, step_does, step_effect, arrive_advances}
use Rattle.saphyr_scanner.proofs.Taken.Later.{LaterThan, later_later}
use Rattle.saphyr_scanner.proofs.Taken.Parts.{tokens_part}
use Rattle.saphyr_scanner.proofs.Taken.Bare.{plain_fronts}
use Rattle.saphyr_scanner.proofs.Taken.Held.{enclosures_of, Setting, unbound_parted, taken_put}
use Rattle.saphyr_scanner.proofs.Taken.Indented.{no_node_fits, indented_put}
use Rattle.saphyr_scanner.proofs.Taken.Cores.{no_keys, quiet_put, HoldsTaken}
use Rattle.saphyr_scanner.proofs.Effects.Walked.{Premises, Walked, walked_given, Stepped}
use Rattle.saphyr_scanner.proofs.Effects.Documents.{Documented, start_walked, end_marker_walked, mark_walked, directive_walked, documents_advance, documents_hold}
use Rattle.saphyr_scanner.proofs.Taken.States.{line_small, taken_later, unrolled_required, Live, Fetched, holds_fetched, FetchedStep, TakenState}
use Rattle.saphyr_scanner.proofs.Taken.Documents.{HoldsState, end_fetched}
use Rattle.saphyr_scanner.proofs.Queues.{flat_append}
use Rattle.saphyr_scanner.proofs.Taken.Arrivals.{key_column, far_block, forgotten_live, forgotten_taken, Arrived, arrived}

-- ## The end of the stream is the last token

abbrev pub OverAt : Setting → Cursor → Queue → Type 0
OverAt opened from q = (u : Cursor) → AreTokens opened.collections (flat q.places) from u → u.rest ≡ []

over_put : (opened : Setting) (from : Cursor) (m : Marker) (q : Queue)
    → OverAt opened from (with_piece (empty_piece m tokens.StreamEnd) q)
over_put opened from m q u h = grind (arith, tokens_part, flat, flat_append)

end_over : (opened : Setting) (from : Cursor) (s : State)
    → Given (λ (t : State). OverAt opened from t.queue × (t.core.ended ≡ true) × (t.core.required ≡ false))
    (document.state_behind_end s)
unfolding document.state_behind_end document.end_at
end_over opened from s = grind (arith, by_test, over_put, unrolled_required)

-- ## A token is fetched

-- before the first token none may be a key, and nothing was passed
abbrev pub IsFresh : State → Type 0
IsFresh t = t.core.ended ≡ false → t.core.started ≡ false
    → (t.core.level.key ≡ None) × (t.core.cursor.mark.index ≡ 0)

pub record Read (opened : Setting) (from : Cursor) (t : State) : Type 0 where
  pub fetched : Fetched opened from t.core t.queue
  pub over : t.core.ended ≡ true → OverAt opened from t.queue
  pub settled : t.core.ended ≡ true → t.core.required ≡ false
  pub fresh : IsFresh t

both_given : (opened : Setting) (from : Cursor) (s : State) (r : Result State Refusal) → s.core.ended ≡ false
    → s.core.started ≡ true → Given (λ (t : State). Fetched opened from t.core t.queue) r
    → Given (FetchesTokens 1 s) r → Given (Read opened from) r
both_given opened from s u0 going begun a b = grind arith

end_given : (opened : Setting) (from : Cursor) (r : Result State Refusal)
    → Given (λ (t : State). Fetched opened from t.core t.queue) r
    → Given (λ (t : State). OverAt opened from t.queue × (t.core.ended ≡ true) × (t.core.required ≡ false)) r
    → Given (Read opened from) r
end_given opened from u0 a b = grind arith

held : (opened : Setting) (from : Cursor) (r : Result State Refusal) → Given (HoldsState opened from) r
    → Given (λ (t : State). Fetched opened from t.core t.queue) r
held opened from (Ok t) h = holds_fetched opened from t.core t.queue h
held opened from (Err e) h = tt

after_step_fetched : (opened : Setting) (from : Cursor) (q : Queue) (r : StepResult)
    → Given (FetchedStep opened from q) r → Given (λ (t : State). Fetched opened from t.core t.queue) (after_step r q)
after_step_fetched opened from q (Ok x) h = h
after_step_fetched opened from q (Err e) h = tt

-- One fetch at a place where no gap is left. The cases are those of `fetch_here`, in its order: the text's end, a
-- byte order mark, a directive, the two markers, a line too far left, and then a step by the first two characters.
-- Each gives the tokens that it adds (`Fetched`) and that it went on (`both_given`).
here_read : TextLaws → (text : List ℕ) → length text < 2 ^ 63 → (opened : Setting) (from : Cursor) (s : State)
    → LaterThan (start_cursor text) from → s.core.ended ≡ false → s.core.started ≡ true → Arrived opened from s
    → Given (Read opened from) (fetch_here s)
unfolding fetch_here state_behind_content
here_read laws text small opened from s l going begun a =
    let t = s.core.cursor.rest in
    let P = Given (Read opened from) in
    by_test (is_z (slice_index t 0)) _ _ P
    (λ _. end_given opened from (document.state_behind_end s) (end_fetched opened from s a.taken)
    (end_over opened from s)) (λ z. let some : 0 < length t = some_character_left t z in
    let h : HoldsState opened from s = record { taken = a.taken; keys = a.live z } in
    let behind : (r : Result State Refusal) → Walked (Premises s.core) (Documented s) s.core.cursor r → P r =
    λ r w. both_given opened from s r going begun (held opened from r (documents_hold laws opened from s r h w))
    (documents_advance s r w) in
    by_test (is_bom (slice_index t 0)) _ _ P
    (λ e. behind (document.state_behind_byte_order_mark s) (mark_walked s e))
    (λ _. by_test ((s.core.cursor.mark.col == 0) && (slice_index t 0 == 37)) _ _ P
    (λ e. let w = and_parts (s.core.cursor.mark.col == 0) (slice_index t 0 == 37) e in
    behind (document.state_behind_directive s)
    (directive_walked s (eqb-true s.core.cursor.mark.col 0 w.0) (eqb-true (slice_index t 0) 37 w.1)))
    (λ _. by_test ((s.core.cursor.mark.col == 0) && is_document_start t) _ _ P
    (λ e. let w = and_parts (s.core.cursor.mark.col == 0) (is_document_start t) e in
    behind (document.state_behind_marker tokens.DocumentStart s)
    (start_walked s (eqb-true s.core.cursor.mark.col 0 w.0) w.1))
    (λ _. by_test ((s.core.cursor.mark.col == 0) && is_document_end t) _ _ P
    (λ e. let w = and_parts (s.core.cursor.mark.col == 0) (is_document_end t) e in
    behind (document.state_behind_document_end s) (end_marker_walked s (eqb-true s.core.cursor.mark.col 0 w.0) w.1))
    (λ _. by_test (nat_lt s.core.cursor.mark.col (least_column s.core)) _ _ P (λ _. tt)
    (λ e. let deep = deep_here s.core e in
    let r = step (slice_index t 0) (slice_index t 1) (next s.queue) s.core in
    both_given opened from s (after_step r s.queue) going begun (after_step_fetched opened from s.queue r
    (walked_given (Premises s.core) (Stepped (next s.queue) s.core) (FetchedStep opened from s.queue) s.core.cursor r
    (λ x k. k.fetched laws text small opened from s.queue l refl (
      deep,
      a.near,
      line_small text s.core.cursor small
          (later_later (start_cursor text).mark text from.mark from.rest s.core.cursor.mark s.core.cursor.rest l
          (taken_later opened from s.core s.queue a.taken)),
      ltb-false s.core.cursor.mark.col (least_column s.core) e,
      key_column text small opened from s.queue s.core l a.taken h.keys a.near,
      z,
    ) h)
    (step_does (slice_index t 0) (slice_index t 1) (next s.queue) s.core some refl refl deep)))
    (after_step_fetches _ s r (step_effect (slice_index t 0) (slice_index t 1) (next s.queue) s.core some refl refl
    deep))))))))

begin_live : (opened : Setting) (from : Cursor) (s : State) → s.core.level.key ≡ None → s.core.cursor.mark.index ≡ 0
    → TakenState opened from s
    → Live opened.enclosures s.core s.queue
    → Live opened.enclosures (record s.core { started = true })
    (with_piece (empty_piece s.core.cursor.mark tokens.StreamStart) s.queue)
begin_live opened from s none at h l nz =
    let held : HoldsTaken opened from s.core s.queue = record { taken = h; keys = l nz } in
    (quiet_put s.core (record s.core { started = true }) (empty_piece s.core.cursor.mark tokens.StreamStart)
    (record { quiet = refl; brackets = λ x. refl; depth = λ d. refl; no_node = refl }) none
    (s.core.cursor, (λ _ _. (at, (refl, inl refl, refl))), taken.nothing _ _) refl
    (unbound_parted (empty_piece s.core.cursor.mark tokens.StreamStart) s.core (record s.core { started = true }) refl
    (plain_fronts _ s.core (record s.core { started = true }) refl)) h.right
    (record {
      block = refl;
      key = refl;
      outer = refl;
      indent = refl;
      outer_indents = refl;
      adjacent = refl;
      required = refl;
    }) held).keys

begin_read : (opened : Setting) (from : Cursor) (s : State) → s.core.ended ≡ false → s.core.level.key ≡ None
    → s.core.cursor.mark.index ≡ 0 → TakenState opened from s → Live opened.enclosures s.core s.queue
    → Read opened from (begin s)
begin_read opened from s going none at h l = record {
  fetched = record {
    taken = taken_put (enclosures_of s.core) opened from s.core (record s.core { started = true }) s.queue
        (empty_piece s.core.cursor.mark tokens.StreamStart) s.core.cursor
        (λ _ _. (at, (refl, inl refl, refl))) (taken.nothing _ _) (λ cs k. (k.0, k.1)) (inl refl) refl
        (unbound_parted (empty_piece s.core.cursor.mark tokens.StreamStart) s.core (record s.core { started = true })
        refl (plain_fronts _ s.core (record s.core { started = true }) refl)) h.right
        (indented_put opened.enclosures s.core (record s.core { started = true }) s.queue
        (empty_piece s.core.cursor.mark tokens.StreamStart)
        (no_node_fits opened.enclosures s.queue (empty_piece s.core.cursor.mark tokens.StreamStart) refl)
        (record { required = refl; root = λ _. refl; block = refl }) (λ w. w.past)) h;
    live = λ _. inl (begin_live opened from s none at h l);
  };
  over = λ e. absurd (let f : s.core.ended ≡ true = e in cc);
  settled = λ e. absurd (let f : s.core.ended ≡ true = e in cc);
  fresh = λ _ e. absurd (cc);
}

pub fetch_read : TextLaws → (text : List ℕ) → length text < 2 ^ 63
    → (opened : Setting) (from : Cursor) (s : State) → LaterThan (start_cursor text) from → s.core.ended ≡ false
    → IsFresh s → TakenState opened from s → Live opened.enclosures s.core s.queue → Given (Read opened from) (fetch s)
unfolding fetch
fetch_read laws text small opened from s l going fresh h k = by_test s.core.started _ _ (Given (Read opened from))
    (λ begun. given_bind (Read opened from) (arrive s) fetch_here (λ t e.
    let a = given_of (Arrived opened from) (arrive s) t (arrived text small opened from s l h k) e in
    let kept = given_of (FetchesTokens 0 s) (arrive s) t (arrive_advances s) e in
    here_read laws text small opened from t l (kept.ended ∙ going) (kept.started ∙ begun) a))
    (λ first. let new = fresh going first in begin_read opened from s going new.0 new.1 h k)

-- ## Where a candidate that is too far is dropped

pub record Ready (opened : Setting) (from : Cursor) (t : State) : Type 0 where
  pub taken : TakenState opened from t
  pub live : t.core.ended ≡ false → Live opened.enclosures t.core t.queue
  pub over : t.core.ended ≡ true → OverAt opened from t.queue
  pub settled : t.core.ended ≡ true → t.core.required ≡ false
  pub fresh : IsFresh t

-- What was read may be handed out once a candidate that is too far is dropped. If it is required, that is a fault.
-- Else the tokens are as they were (`forgotten_taken`), and of the candidates only the others are left.
pub settled_ready : (opened : Setting) (from : Cursor) (s : State) → Read opened from s
    → Given (Ready opened from) (without_far_key s)
unfolding drop_far_key
settled_ready opened from s h =
    let c = s.core in
    by_test (not (in_block c && is_too_far c.level.key c.cursor.mark)) _ _
    (λ r. Given (Ready opened from) (on_core r s.queue))
    (λ e. record {
      taken = h.fetched.taken;
      live = λ g. elim (h.fetched.live g) [
        | inl k ↦ k
        | inr w ↦ absurd (let n = not-true (in_block c && is_too_far c.level.key c.cursor.mark) e in cc)
      ];
      over = h.over;
      settled = h.settled;
      fresh = h.fresh;
    })
    (λ far. by_test c.required _ _ (λ r. Given (Ready opened from) (on_core r s.queue)) (λ _. tt)
    (λ free. record {
      taken = forgotten_taken opened from c s.queue free
          (far_block (in_block c) (is_too_far c.level.key c.cursor.mark) far) h.fetched.taken;
      live = λ g. elim (h.fetched.live g) [
        | inl k ↦ forgotten_live opened.enclosures c s.queue k
        | inr w ↦
            (λ nz. no_keys opened.enclosures (next s.queue) s.queue c.indent (forget_key c).level c.outer refl w.1
            (and_parts (in_block c) (is_too_far c.level.key c.cursor.mark) w.0).0)
      ];
      over = h.over;
      settled = λ e. rw (h.settled e) (and_false (not (in_block c)));
      fresh = λ g b. (refl, (h.fresh g b).1);
    }))

pub read_ready : TextLaws → (text : List ℕ) → length text < 2 ^ 63
    → (limit : ℕ) (opened : Setting) (from : Cursor) (s : State) → LaterThan (start_cursor text) from
    → s.core.ended ≡ false → Ready opened from s → Given (Ready opened from) (fetch_within limit s >>= without_far_key)
unfolding fetch_within
read_ready laws text small limit opened from s l going h =
    by (fetch s) (fetch_read laws text small opened from s l going h.fresh h.taken (h.live going))
  where
    by : (r : Result State Refusal) → Given (Read opened from) r
        → Given (Ready opened from) ((r >>= check_limit limit) >>= without_far_key)
    by (Ok t) k = by_test (nat_le t.core.cursor.mark.index limit) _ _
        (λ r. Given (Ready opened from) (r >>= without_far_key)) (λ _. settled_ready opened from t k) (λ _. tt)
    by (Err e) k = tt
