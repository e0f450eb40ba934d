-- A text and its normalized text have tokens of the same kinds.
use Rattle.yaml_laws.proofs.Common.{Err, List, Ok, Result, Some, [], ap, arith, false, length, map, refl, suc, sym, true, zero, ℕ, ◌+◌, ◌<◌, ◌∙◌, ◌∷◌, ◌≡◌, ◌≤◌, nat_lt, slice_index, ◌&&◌, ◌==◌, ◌||◌, normalized, Refusal, Kind, Piece, Remaining, Place, Queue, next, Core, drop_far_key, least_column, Level, ends_pair, is_place, State, start, is_blank_or_breakz, is_bom, is_break, is_flow, is_z, is_document_end, is_document_start, and_parts, eqb-true, left_brace, left_bracket, Opening, Readers, HaveSameKinds, Both, gives, refused, choose, choose_same, choose_first, both_cases}
use Rattle.saphyr_scanner.specs.Grammar.Tokens as tokens
use Rattle.saphyr_scanner.specs.Steps.Fetch.{size, without_far_key, needs_token, any_holds, step, is_value_adjacent, state_behind_content, fetch_here, arrive, fetch, check_limit, fetch_within}
use Rattle.saphyr_scanner.specs.Steps.Remaining.{before_place, hand_out, remaining_after, run, remaining, scan}
use Rattle.saphyr_scanner.proofs.Handing.Filling.{read, less_read}
use Rattle.yaml_laws.proofs.Breaks.Cores.{Indexes, near_core, near_key, near_levels, first, others, Anywhere, Twin, Laws, BeginsUnbroken, Unbroken, here, of_cores, and_core, drop_same, twin_alike}
use Rattle.yaml_laws.proofs.Breaks.Places.{reindexed, even_here, choose_by}
use Rattle.yaml_laws.proofs.Breaks.States.{SamePlaces, SameQueues, States, holding, same_next, put_same, SameSteps, Holds, AlikeStates, and_state, unroll_same, after_step_same, on_core_same}
use Rattle.saphyr_scalar.specs.declared.values.BlockStyle.TheVariants as block_style
use Rattle.saphyr_scanner.specs.declared.engine.level.Context.TheVariants as context
use Rattle.yaml_laws.proofs.Breaks.Documents.{stream_same, start_marker_same, end_marker_same, byte_order_mark_same, directive_same}
use Rattle.yaml_laws.proofs.Breaks.Indicators.{start_same, end_same, entry_same, value_same, flow_value_same, adjacent_same, block_entry_same, key_same}
use Rattle.yaml_laws.proofs.Breaks.Normal.{second_is, start_so, end_so, normal_shorter}
use Rattle.yaml_laws.proofs.Breaks.Gaps.{Rested, gap_rests}
use Rattle.yaml_laws.proofs.Breaks.Scalars.{quoted_same, plain_same, block_same, name_same, tag_same}

-- ## What begins at a place

first_same : (t : List ℕ) → BeginsUnbroken t → slice_index (normalized t) 0 ≡ slice_index t 0
first_same t k = grind arith

unbroken_of : (t : List ℕ) → is_z (slice_index t 0) ≡ false → is_break (slice_index t 0) ≡ false → BeginsUnbroken t
unbroken_of [] z k = absurd (cc)
unbroken_of (c ∷ t) z k = k

module _ {text : List ℕ} (laws : Laws text) where
  -- The sum of the steps: a row for each choice of `step` cites that step's lemma (`both_cases`). Both sides choose
  -- alike, since the first character is no break and so the same. Of the second, which may be a break, only what `step`
  -- asks of it has to be the same.
  step_same : (first second other n : ℕ) (c : Core) (x : Indexes) → Twin text c x → Unbroken c.cursor
      → slice_index c.cursor.rest 0 ≡ first → is_blank_or_breakz other ≡ is_blank_or_breakz second
      → is_flow other ≡ is_flow second
      → ((other == left_bracket) || (other == left_brace)) ≡ ((second == left_bracket) || (second == left_brace))
      → Both (SameSteps text) (step first second n c) (step first other n (near_core x c))
  step_same first second other n c x t unbroken f blank is_flow_too opens =
      let beside : is_value_adjacent other (near_core x c) ≡ is_value_adjacent second c = cc (adjacent_same c x t) in
      both_cases (Both (SameSteps text)) first second other n c (near_core x c) (sym blank) (sym beside) refl
      (record {
        sequence = λ _. start_same laws context.FlowSequence tokens.FlowSequenceStart n c x t unbroken;
        mapping = λ _. start_same laws context.FlowMapping tokens.FlowMappingStart n c x t unbroken;
        sequence_end = λ _. end_same laws (ends_pair c.level.context) tokens.FlowSequenceEnd c x t unbroken;
        mapping_end = λ _. end_same laws false tokens.FlowMappingEnd c x t unbroken;
        comma = λ _. entry_same laws c x t unbroken;
        dash = λ _ _. block_entry_same laws c x t unbroken;
        question = λ _ _. key_same laws c x t unbroken;
        colon = λ _ _. value_same laws c x t unbroken;
        beside = λ _ _. flow_value_same laws second other c x t unbroken opens;
        quoted = λ quote e. quoted_same laws quote n c x t (f ∙ e);
        alias = λ _. name_same laws tokens.Alias n c x t unbroken;
        anchor = λ _. name_same laws tokens.Anchor n c x t unbroken;
        tag = λ e. tag_same laws n c x t (f ∙ e);
        literal = λ e _. block_same laws block_style.Literal n c x t (f ∙ e);
        folded = λ e _. block_same laws block_style.Folded n c x t (f ∙ e);
        reserved = refused;
        plain = λ _. plain_same laws n c x t tt;
      })

  here_same : AlikeStates text Rested (States text Anywhere) fetch_here
  unfolding fetch_here state_behind_content
  here_same c x q r t e k =
      let s = c.cursor.rest in
      let n = normalized s in
      let at_start = c.cursor.mark.col == 0 in
      let alike = twin_alike c x t in
      choose_first is_z refl alike (λ _. stream_same c x q r t e tt) (λ z.
      let unbroken = unbroken_of s z k in
      choose_first is_bom refl alike (λ _. byte_order_mark_same c x q r t e unbroken)
      (λ _. choose_first (λ y. at_start && (y == 37)) refl alike
      (λ h. directive_same laws c x q r t e (eqb-true (slice_index s 0) 37 (and_parts at_start _ h).1))
      (λ _. choose_same (at_start && is_document_start s) (at_start && is_document_start n)
      (ap (λ b. at_start && b) (sym (start_so s))) (λ h. start_marker_same c x q r t e (and_parts at_start _ h).1)
      (λ _. choose_same (at_start && is_document_end s) (at_start && is_document_end n)
      (ap (λ b. at_start && b) (sym (end_so s))) (λ h. end_marker_same laws c x q r t e (and_parts at_start _ h).1)
      (λ _. choose (nat_lt c.cursor.mark.col (least_column c)) (λ _. refused)
      (λ _. rw (first_same s unbroken, ← (same_next q r e)) (after_step_same
      (step_same (slice_index s 0) (slice_index s 1) (slice_index n 1) (next q) c x t unbroken refl
      (second_is is_blank_or_breakz refl s k) (second_is is_flow refl s k)
      (second_is (λ y. (y == 91) || (y == 123)) refl s k)) e)))))))

  -- ## To where it begins

  arrive_same : AlikeStates text Anywhere (States text Rested) arrive
  unfolding arrive
  arrive_same c x q r t e _ = and_state {P = Rested} _ _
      (on_core_same (and_core {P = Rested} drop_far_key drop_far_key (gap_rests laws c x t tt) drop_same) e)
      (λ d y u v w f k. gives (unroll_same (Some d.cursor.mark.col) d.cursor.mark (reindexed y.at d.cursor.mark)
      d y u v w f k))

  fetch_same : AlikeStates text Anywhere (States text Anywhere) fetch
  unfolding fetch
  fetch_same c x q r t e _ = choose c.started
      (λ _. and_state fetch_here fetch_here (arrive_same c x q r t e tt) here_same)
      (λ _. gives (here (record c { started = true }) x t tt, put_same _ _ refl e))

within_same : (text : List ℕ) (limit other : ℕ) → length text ≤ limit → length text ≤ other
    → Holds text Anywhere (λ s t. Both (States text Anywhere) (check_limit limit s) (check_limit other t))
within_same text limit other short short_too c x q r t e _ = grind (arith, normal_shorter)

settled_same : (text : List ℕ) → AlikeStates text Anywhere (States text Anywhere) without_far_key
settled_same text c x q r t e p = on_core_same (drop_same c x t p) e

-- ## Whether a token has to be read

held_key : (place i : ℕ) (l : Level) → is_place place (near_key i l.key) ≡ is_place place l.key
held_key place i l = grind arith

held_levels : (place : ℕ) (is : List ℕ) (ls : List Level) → any_holds place (near_levels is ls) ≡ any_holds place ls
held_levels place is [] = refl
held_levels place is (l ∷ ls) = cc (held_key place (first is) l, held_levels place (others is) ls)

needs_same : (c : Core) (x : Indexes) (q r : Queue) → SameQueues q r
    → needs_token (holding (near_core x c) r) ≡ needs_token (holding c q)
needs_same c x q r e = grind (arith, near_key, near_levels, held_key, held_levels)

-- ## What comes

abbrev kinds : List Piece → List Kind
kinds ps = map (λ (t : Piece). t.kind) ps

before_same : (o p : Opening) (t u : Piece) (r q : Remaining) → o ≡ p → t.kind ≡ u.kind → HaveSameKinds r q
    → HaveSameKinds (before_place o t r) (before_place p u q)
before_same o p t u r q e k h = grind (arith)

hands_same : (text : List ℕ) (c : Core) (x : Indexes) (ps qs : List Place) (n m : ℕ) (go ho : State → Remaining)
    → SamePlaces ps qs → n ≡ m
    → ((q r : Queue) → SameQueues q r → HaveSameKinds (go (holding c q)) (ho (holding (near_core x c) r)))
    → HaveSameKinds (hand_out ps go (holding c (record { places = ps; handed = n })))
    (hand_out qs ho (holding (near_core x c) (record { places = qs; handed = m })))
hands_same text c x [] [] n m go ho e k h = h _ _ (record { places = tt; handed = k })
hands_same text c x (p ∷ ps) (q ∷ qs) n m go ho e k h =
    let u : Queue = record { places = p ∷ ps; handed = n } in
    let v : Queue = record { places = q ∷ qs; handed = m } in
    let same : SameQueues u v = record { places = e; handed = k } in
    choose_by HaveSameKinds (needs_token (holding c u)) (needs_token (holding (near_core x c) v)) _ _ _ _
    (sym (needs_same c x u v same)) (λ _. h u v same)
    (λ _. before_same p.opening q.opening p.piece q.piece _ _ e.0 e.1
    (hands_same text c x ps qs (n + 1) (m + 1) go ho e.2 (ap (λ i. i + 1) k) h))
hands_same text c x [] (q ∷ qs) n m go ho e k h = absurd e
hands_same text c x (p ∷ ps) [] n m go ho e k h = absurd e

remaining_after_same : {text : List ℕ} {a b : Result State Refusal} {go ho : State → Remaining}
    → Both (States text Anywhere) a b
    → ((s t : State) → a ≡ Ok s → b ≡ Ok t → States text Anywhere s t → HaveSameKinds (go s) (ho t))
    → HaveSameKinds (remaining_after a go) (remaining_after b ho)
remaining_after_same {a = Ok s} {b = Ok t} h k = k s t refl refl h.are
remaining_after_same {a = Err d} {b = Err e} h k = record { kinds = refl; refusals = ap (λ f. Some f) h.are }
remaining_after_same {a = Ok s} {b = Err e} h k = absurd h.are
remaining_after_same {a = Err d} {b = Ok t} h k = absurd h.are

module _ (text : List ℕ) (laws : Laws text) (readers : Readers) (limit other : ℕ) (short : length text ≤ limit)
    (short_too : length text ≤ other)
  where
    -- A token is read, and a candidate that is too far is dropped. Both limits are at or above the text's length.
    read_same : Holds text Anywhere (λ s t. Both (States text Anywhere) (read limit s) (read other t))
    unfolding fetch_within
    read_same c x q r t e _ = and_state {P = Anywhere} without_far_key without_far_key
        (and_state {P = Anywhere} (check_limit limit) (check_limit other) (fetch_same laws c x q r t e tt)
        (within_same text limit other short short_too)) (settled_same text)

    runs_same : (n m : ℕ) (c : Core) (x : Indexes) (q r : Queue) → size c < n → size (near_core x c) < m
        → Twin text c x → SameQueues q r
        → HaveSameKinds (run n limit (holding c q)) (run m other (holding (near_core x c) r))
    runs_same zero m c x q r a b t e = absurd (omega (arith, a))
    runs_same (suc n) zero c x q r a b t e = absurd (omega (arith, b))
    runs_same (suc n) (suc m) c x q r a b t e =
        hands_same text c x q.places r.places q.handed r.handed _ _ e.places e.handed
        (λ u v f. choose_by HaveSameKinds c.ended c.ended _ _ _ _ refl (λ _. record { kinds = refl; refusals = refl })
        (λ going. remaining_after_same (read_same c x u v t f tt) (λ s w i j h.
        let less = less_read readers limit (holding c u) s going i in
        let less_too = less_read readers other (holding (near_core x c) v) w going j in
        of_cores (λ d k. size d < n → size k < m
        → HaveSameKinds (run n limit (holding d s.queue)) (run m other (holding k w.queue))) h.0
        (λ d y z _ k l. runs_same n m d y s.queue w.queue k l z h.1) (omega (arith, less, a))
        (omega (arith, less_too, b)))))

    pub scans_same : HaveSameKinds (scan limit text) (scan other (normalized text))
    unfolding remaining
    scans_same =
        let s : State = start text in
        let start_indexes : Indexes = record { at = 0; key = 0; outer = []; adjacent = 0; comment = 0 } in
        let t : Twin text s.core start_indexes = record {
          ahead = record { even = even_here 1 0 0; counted = refl; counted_too = refl; here = refl; there = refl };
          key = tt;
          outer = tt;
          line = 1;
          adjacent = even_here 1 0 0;
        } in
        remaining_after_same
        (settled_same text s.core start_indexes s.queue s.queue t (record { places = tt; handed = refl }) tt)
        (λ u v _ _ h. of_cores (λ c d. HaveSameKinds (run (suc (size c)) limit (holding c u.queue))
        (run (suc (size d)) other (holding d v.queue))) h.0
        (λ c y z _. runs_same (suc (size c)) (suc (size (near_core y c))) c y u.queue v.queue (omega arith)
        (omega arith) z h.1))
