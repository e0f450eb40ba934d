-- What is done where a token is fetched, in one statement.
use Rattle.saphyr_scanner.proofs.Common.{◌≡◌, ℕ, ◌+◌, ◌-◌, ◌≤◌, ◌<◌, Bool, true, false, List, [], ◌∷◌, ◌++◌, length, Result, Ok, Err, refl, sym, ap, ◌∙◌, arith, cond, subst, ◌⊎◌, inr, IsTrue, is_bom, is_z, is_flow, is_blank_or_breakz, is_document_start, is_document_end, Marker, Refusal, ◌>>=◌, Piece, by_test, Given, given_bind, given_of, and_parts, eqb-true}
use Rattle.std.specs.Prelude.{◌&&◌, ◌||◌, slice_index, not, ◌==◌, nat_lt, Some, None}
use Rattle.saphyr_scalar.specs.declared.values.BlockStyle.TheVariants as block_style
use Rattle.saphyr_scanner.specs.declared.engine.level.Context.TheVariants as context
use Rattle.saphyr_scanner.specs.Grammar.Tokens as tokens
use Rattle.saphyr_scanner.specs.Steps.Queue.{Place, empty_piece, bare_place, next}
use Rattle.saphyr_scanner.specs.Steps.Level.{ends_pair}
use Rattle.saphyr_scanner.specs.Steps.Core.{Core, StepResult, least_column, drop_far_key, in_block}
use Rattle.saphyr_scanner.specs.Steps.Passing.{pass_gap}
use Rattle.saphyr_scanner.specs.Steps.State.{State, on_core}
use Rattle.saphyr_scanner.specs.Steps.Unrolling.{unroll}
use Rattle.saphyr_scanner.specs.Steps.Document as document
use Rattle.saphyr_scanner.specs.Steps.Fetch.{size, step, state_behind_content, fetch_here, arrive, begin, fetch, fetch_within, without_far_key}
use Rattle.saphyr_scanner.specs.TokensTaken.{parts_colon}
use Rattle.saphyr_scanner.proofs.Steps.Choice.{cases}
use Rattle.saphyr_scanner.proofs.Blocks.{unrolled_cursor}
use Rattle.saphyr_scanner.proofs.Ordered.Queue.{GrowsInOrder, grows_grows, core_grows, put_grows}
use Rattle.saphyr_scanner.proofs.Added.Queue.{PlacesGoOn, place_goes_on, due, tokens_put}
use Rattle.saphyr_scanner.proofs.Effects.Readers.{Readers, ReaderEnds}
use Rattle.saphyr_scanner.proofs.Effects.Steps.{EffectAt, Goes, goes_none, gap_goes, drop_goes}
use Rattle.saphyr_scanner.proofs.Effects.Walked.{Premises, Walked, walked_given, Doing, Stepped, walked_step, unsaved_step}
use Rattle.saphyr_scanner.proofs.Effects.Flow.{open_sequence, open_mapping, close_sequence, close_mapping, sequence_enters, mapping_enters, sequence_leaves, mapping_leaves, pair_may_end, sequence_may_close, mapping_may_close, start_does, end_does, entry_does}
use Rattle.saphyr_scanner.proofs.Effects.Values.{value_does, flow_value_does}
use Rattle.saphyr_scanner.proofs.Effects.Blocks.{block_entry_does, key_does}
use Rattle.saphyr_scanner.proofs.Effects.Scalars.{plain_start, plain_does, block_does}
use Rattle.saphyr_scanner.proofs.Effects.QuotedScalars.{quoted_does}
use Rattle.saphyr_scanner.proofs.Effects.Properties.{an_alias, an_anchor, alias_keeps, anchor_keeps, name_does, tag_does}
use Rattle.saphyr_scanner.proofs.Taken.Keys.{IsDeep}
use Rattle.saphyr_scanner.proofs.Taken.Places.{at_here}
use Rattle.saphyr_scanner.proofs.Effects.States.{FetchesTokens, advances_advances, on_core_fetches, after_step_fetches, same_index, unroll_advances}
use Rattle.saphyr_scanner.proofs.Effects.Documents.{start_walked, end_marker_walked, mark_walked, directive_walked, documents_advance}

-- ## What begins at a place

deep_of : (deeper : Bool) (i col : ℕ) → nat_lt col (cond deeper i (i - 1)) ≡ false → i ≤ col + 1
deep_of deeper i col e = grind arith

-- no token is where the line is not indented enough
pub deep_here : (c : Core) → nat_lt c.cursor.mark.col (least_column c) ≡ false → IsDeep c
deep_here c e _ = deep_of c.deeper c.indent c.cursor.mark.col e

blank_parts : (x : ℕ) → is_blank_or_breakz x ≡ true → parts_colon x ≡ true
blank_parts x e = rw e refl

beside_parts : (second : ℕ) (c : Core) → slice_index c.cursor.rest 1 ≡ second
    → (is_flow second || (c.cursor.mark.index == c.adjacent)) ≡ true
    → (c.cursor.mark.index ≡ c.adjacent) ⊎ IsTrue (parts_colon (slice_index c.cursor.rest 1))
beside_parts second c g e = grind arith

-- The sum of all steps: each does what `Stepped` says. A row for each choice of `step` cites the lemma of that step:
-- with `does` where it may save a candidate key, and with `still` where it saves none.
pub step_does : (first second n : ℕ) (c : Core) → 0 < length c.cursor.rest → slice_index c.cursor.rest 0 ≡ first
    → slice_index c.cursor.rest 1 ≡ second → IsDeep c
    → Walked (Premises c) (Stepped n c) c.cursor (step first second n c)
step_does first second n c h f g deep =
    let does : (r : StepResult) → Walked (Premises c) (Doing (Some n) c) c.cursor r
    → Walked (Premises c) (Stepped n c) c.cursor r = λ r w. walked_step (Premises c) n c c.cursor r w in
    let still : (r : StepResult) → Walked (Premises c) (Doing None c) c.cursor r
    → Walked (Premises c) (Stepped n c) c.cursor r = λ r w. unsaved_step (Premises c) n c c.cursor r w in
    cases (Walked (Premises c) (Stepped n c) c.cursor) first second n c (record {
      sequence = λ e. does _ (start_does 91 tokens.FlowSequenceStart context.FlowSequence open_sequence
          sequence_enters refl n c (f ∙ e));
      mapping = λ e. does _ (start_does 123 tokens.FlowMappingStart context.FlowMapping open_mapping
          mapping_enters refl n c (f ∙ e));
      sequence_end = λ e. still _ (end_does 93 tokens.FlowSequenceEnd close_sequence sequence_leaves
          (ends_pair c.level.context) c (pair_may_end c.level.context) (sequence_may_close c.level.context) (f ∙ e));
      mapping_end = λ e. still _ (end_does 125 tokens.FlowMappingEnd close_mapping mapping_leaves false c
          (λ no. absurd (cc)) (mapping_may_close c.level.context) (f ∙ e));
      comma = λ e. still _ (entry_does c (f ∙ e));
      dash = λ e b. still _ (block_entry_does c deep (f ∙ e) (ap is_blank_or_breakz g ∙ b));
      question = λ e b. still _ (key_does c deep (f ∙ e) (ap is_blank_or_breakz g ∙ b));
      colon = λ e b.
          let blank = ap is_blank_or_breakz g ∙ b in
          still _ (value_does c (f ∙ e) ((λ _. blank), λ _. inr (blank_parts (slice_index c.cursor.rest 1) blank)));
      beside = λ e b.
          let w = and_parts (not (in_block c)) _ b in
          still _ (flow_value_does second c (f ∙ e) (
            (λ i. absurd (let no = w.0 in cc)),
            λ _. beside_parts second c g w.1,
          ));
      quoted = λ quote e. does _ (quoted_does quote n c (f ∙ e));
      alias = λ e. does _ (name_does tokens.Alias 42 an_alias alias_keeps n c h (f ∙ e));
      anchor = λ e. does _ (name_does tokens.Anchor 38 an_anchor anchor_keeps n c h (f ∙ e));
      tag = λ e. does _ (tag_does n c (f ∙ e));
      literal = λ e b. block_does block_style.Literal n c b h (f ∙ e);
      folded = λ e b. block_does block_style.Folded n c b h (f ∙ e);
      reserved = λ _. at_here c.cursor;
      plain = λ m. does _ (plain_does n c (plain_start first second c f g m));
    })

pub step_effect : (first second n : ℕ) (c : Core) → 0 < length c.cursor.rest → slice_index c.cursor.rest 0 ≡ first
    → slice_index c.cursor.rest 1 ≡ second → IsDeep c → Given (EffectAt n c) (step first second n c)
step_effect first second n c h f g deep = grind (arith, walked_given, step_does)

-- a place that shows no NUL is a character
pub some_character_left : (t : List ℕ) → is_z (slice_index t 0) ≡ false → 0 < length t
some_character_left [] e = absurd (cc)
some_character_left (c ∷ cs) e = omega arith

-- ## A token is fetched

-- where the stream has ended, its end is the last token of the queue alone; else it is none of them
abbrev pub EndStands : Bool → List Place → Type 0
EndStands false ps = PlacesGoOn ps
EndStands true ps = (front : List Place) × (end : Piece) × PlacesGoOn front × (end.kind ≡ tokens.StreamEnd)
    × (ps ≡ front ++ bare_place end ∷ [])

abbrev pub Standing : State → Type 0
Standing s = EndStands s.core.ended s.queue.places

-- from s, where the stream has not ended
pub record Fetched (s t : State) : Type 0 where
  pub smaller : Readers → size t.core < size s.core
  pub grows : ReaderEnds → GrowsInOrder s t
  pub stands : PlacesGoOn s.queue.places → Standing t
  pub few : due t ≤ due s + 5

abbrev flag : Bool → ℕ
flag b = cond b 0 1

flags : (b c : Bool) → b ≡ c → flag b ≡ flag c
flags b c e = ap flag e

of_advances : (s : State) (r : Result State Refusal) → s.core.ended ≡ false → Given (FetchesTokens 1 s) r
    → Given (Fetched s) r
of_advances s u0 going a = grind arith

-- the same, from another state
onward : (s t : State) (r : Result State Refusal) → FetchesTokens 0 s t → Given (Fetched t) r → Given (Fetched s) r
onward s t u0 a b = grind (arith, flags, grows_grows)

finish_fetched : (m : Marker) (s : State) → s.core.ended ≡ false → m.index ≡ s.core.cursor.mark.index
    → Fetched s (document.finish m s)
finish_fetched m s going i = record {
  smaller = λ _. let e = flags s.core.ended false going in omega (arith, e);
  grows = λ _. put_grows s m tokens.StreamEnd (document.core_at_end s.core) refl i;
  stands = λ h. (s.queue.places, empty_piece m tokens.StreamEnd, h, refl, refl);
  few = let x = tokens_put s.queue.places (empty_piece m tokens.StreamEnd) in omega (arith, x);
}

end_mark_index : (m : Marker) → (document.end_mark m).index ≡ m.index
end_mark_index m = by_test (m.col == 0) _ _ (λ (k : Marker). k.index ≡ m.index) (λ _. refl) (λ _. omega arith)

end_fetched : (s : State) → s.core.ended ≡ false → Given (Fetched s) (document.state_behind_end s)
unfolding document.state_behind_end document.end_at
end_fetched s going =
    let m : Marker = document.end_mark s.core.cursor.mark in
    let t : State = unroll None m s in
    let i : m.index ≡ s.core.cursor.mark.index = end_mark_index s.core.cursor.mark in
    let a = unroll_advances None m s i in
    by_test (length s.core.cursor.rest == 0) _ _ (Given (Fetched s))
    (λ _. by_test s.core.required _ _ (Given (Fetched s)) (λ _. tt)
    (λ _. onward s t (Ok (document.finish m t)) a (finish_fetched m t (a.ended ∙ going)
    (same_index m s.core.cursor t.core.cursor (unrolled_cursor None m s) i)))) (λ _. tt)

here_fetched : (s : State) → s.core.ended ≡ false → Given (Fetched s) (fetch_here s)
unfolding fetch_here state_behind_content
here_fetched s going =
    let t = s.core.cursor.rest in let P = Given (Fetched s) in
    by_test (is_z (slice_index t 0)) _ _ P (λ _. end_fetched s going) (λ z. let h = some_character_left t z in
    by_test (is_bom (slice_index t 0)) _ _ P (λ e. of_advances s _ going (documents_advance s _ (mark_walked s e)))
    (λ _. by_test ((s.core.cursor.mark.col == 0) && (slice_index t 0 == 37)) _ _ P
    (λ e. let w = and_parts (s.core.cursor.mark.col == 0) (slice_index t 0 == 37) e in
    of_advances s _ going (documents_advance s _ (directive_walked s (eqb-true s.core.cursor.mark.col 0 w.0)
    (eqb-true (slice_index t 0) 37 w.1))))
    (λ _. by_test ((s.core.cursor.mark.col == 0) && is_document_start t) _ _ P
    (λ e. let w = and_parts (s.core.cursor.mark.col == 0) (is_document_start t) e in
    of_advances s _ going (documents_advance s _ (start_walked s (eqb-true s.core.cursor.mark.col 0 w.0) w.1)))
    (λ _. by_test ((s.core.cursor.mark.col == 0) && is_document_end t) _ _ P
    (λ e. let w = and_parts (s.core.cursor.mark.col == 0) (is_document_end t) e in
    of_advances s _ going (documents_advance s _ (end_marker_walked s (eqb-true s.core.cursor.mark.col 0 w.0) w.1)))
    (λ _. by_test (nat_lt s.core.cursor.mark.col (least_column s.core)) _ _ P (λ _. tt)
    (λ e. of_advances s _ going (after_step_fetches _ s (step (slice_index t 0) (slice_index t 1) (next s.queue) s.core)
    (step_effect (slice_index t 0) (slice_index t 1) (next s.queue) s.core h refl refl (deep_here s.core e)))))))))

-- what comes before the next token is passed
pub arrival_goes : (c : Core) → Given (Goes 0 c.cursor c) (pass_gap c >>= drop_far_key)
arrival_goes c = given_bind (Goes 0 c.cursor c) (pass_gap c) drop_far_key
    (λ d e. drop_goes 0 c.cursor c d
    (given_of (Goes 0 c.cursor c) (pass_gap c) d (gap_goes 0 c.cursor c c (goes_none c)) e))

pub arrive_advances : (s : State) → Given (FetchesTokens 0 s) (arrive s)
unfolding arrive
arrive_advances s = grind
    (arith, given_bind, advances_advances, given_of, on_core_fetches, arrival_goes, unroll_advances)

begin_fetched : (s : State) → s.core.started ≡ false → s.core.ended ≡ false → Given (Fetched s) (Ok (begin s))
begin_fetched s first going = record {
  smaller = λ _. let e = flags s.core.started false first in omega (arith, e);
  grows = λ _. put_grows s s.core.cursor.mark tokens.StreamStart (record s.core { started = true }) refl refl;
  stands = λ h. rw going (place_goes_on s.queue.places (empty_piece s.core.cursor.mark tokens.StreamStart) h
      (λ i. absurd (cc)));
  few = let x = tokens_put s.queue.places (empty_piece s.core.cursor.mark tokens.StreamStart) in omega (arith, x);
}

fetch_fetched : (s : State) → s.core.ended ≡ false → Given (Fetched s) (fetch s)
unfolding fetch
fetch_fetched s going = by_test s.core.started _ _ (Given (Fetched s))
    (λ _. given_bind (Fetched s) (arrive s) fetch_here (λ t e.
    let a = given_of (FetchesTokens 0 s) (arrive s) t (arrive_advances s) e in
    onward s t (fetch_here t) a (here_fetched t (a.ended ∙ going)))) (λ first. begin_fetched s first going)

within_fetched : (limit : ℕ) (s : State) → s.core.ended ≡ false → Given (Fetched s) (fetch_within limit s)
unfolding fetch_within
within_fetched limit s going = grind (arith, given_bind, by_test, given_of, fetch_fetched)

pub settled_advances : (s : State) → Given (FetchesTokens 0 s) (without_far_key s)
settled_advances s =
    on_core_fetches s (drop_far_key s.core) (drop_goes 0 s.core.cursor s.core s.core (goes_none s.core))

-- and a candidate that is too far is dropped
dropped : (s t : State) (r : Result Core Refusal) → Fetched s t → Given (Goes 0 t.core.cursor t.core) r
    → Given (Fetched s) (on_core r t.queue)
dropped s t (Ok d) a g = record {
  smaller = λ laws. let x = a.smaller laws in
      let b = flags d.started t.core.started g.1.0 in
      let e = flags d.ended t.core.ended g.1.1 in omega (arith, x, b, e, g.0.later, g.0.counted);
  grows = λ laws. grows_grows s t _ (a.grows laws) (core_grows t _ g.0 refl);
  stands = λ h. let P : Bool → Type 0 = λ b. EndStands b t.queue.places in subst P (sym g.1.1) (a.stands h);
  few = let x = a.few in let y = g.1.2 in omega (arith, x, y);
}
dropped s t (Err f) a g = tt

pub read_fetched : (limit : ℕ) (s : State) → s.core.ended ≡ false
    → Given (Fetched s) (fetch_within limit s >>= without_far_key)
read_fetched limit s going = given_bind (Fetched s) (fetch_within limit s) without_far_key (λ t e.
    dropped s t (drop_far_key t.core) (given_of (Fetched s) (fetch_within limit s) t (within_fetched limit s going) e)
    (drop_goes 0 t.core.cursor t.core t.core (goes_none t.core)))
