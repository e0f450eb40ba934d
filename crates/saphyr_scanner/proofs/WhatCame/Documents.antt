-- Documents and the end of the stream.
use Rattle.std.proofs.Common.{◌≡◌, ℕ, Bool, true, false, List, [], ◌∷◌, ◌++◌, length, drop, slice_index, Option, Some, None, Ok, refl, arith}
use Rattle.std.proofs.lemmas.Bool.Decides.{nat_tests}
use Rattle.std.specs.Prelude.{◌||◌, ◌==◌, not, nat_lt}
use Rattle.saphyr_input.specs.Classes.{is_breakz, is_bom}
use Rattle.saphyr_scalar.specs.declared.scalar.position.Marker.{Marker}
use Rattle.saphyr_scanner.specs.Grammar.Tokens as tokens
use Rattle.saphyr_scanner.specs.Grammar.Tokens.{Kind}
use Rattle.saphyr_scanner.specs.Steps.Core.{Core, in_block}
use Rattle.saphyr_scanner.specs.Steps.State.{State}
use Rattle.saphyr_scanner.specs.Steps.Unrolling.{is_right_of, with_outer_indent, end_block, end_blocks, unroll}
use Rattle.saphyr_scanner.specs.Steps.Document.{end_content, end_mark, end_at, state_behind_end, put_passed, state_behind_marker, end_line, state_behind_document_end, pass_mark, state_behind_byte_order_mark, read_directive, state_behind_directive, finish, remove_key_of}
use Rattle.saphyr_scalar.proofs.WhatCame.Rests.{is_nothing, shows, some_of_four, later_drop, drop_known}
use Rattle.saphyr_scalar.proofs.WhatCame.Steps.{CameAs, Sure, further, reports, refused, stays, leaves, choose, choose_first, choose_at, choose_given, and_then, on}
use Rattle.saphyr_scalar.proofs.WhatCame.Directives.{directive_came}
use Rattle.saphyr_scanner.specs.Longer.{extended_by}
use Rattle.saphyr_scanner.proofs.WhatCame.Cores.{longer_core, cores_at, cores, steps, states_at, states, remove_came, pass_came, separate_came, core_came, after_came, core_given}

module _ (more : List ℕ) where
  -- ## Block collections end

  module _ (n : ℕ) {asks says : Bool} where
    outer_came : (indents : List ℕ) (c : Core) → CameAs asks says (cores_at n) more (drop n c.cursor.rest)
        (Ok (with_outer_indent indents c)) (Ok (with_outer_indent indents (longer_core more c)))
    outer_came [] c = stays
    outer_came (i ∷ is) c = stays

  module _ (n : ℕ) {asks says : Bool} where
    end_came : (m : Marker) (s : State) → CameAs asks says (states_at n) more (drop n s.core.cursor.rest)
        (Ok (end_block m s)) (Ok (end_block m (extended_by more s)))
    end_came m s = on (λ c. Ok (record { core = c; queue = (end_block m s).queue }))
        (outer_came n s.core.outer_indents s.core) stays

  module _ (n : ℕ) {asks says : Bool} where
    ends_came : (column : Option ℕ) (m : Marker) (indents : List ℕ) (s : State)
        → CameAs asks says (states_at n) more (drop n s.core.cursor.rest)
        (Ok (end_blocks column m indents s)) (Ok (end_blocks column m indents (extended_by more s)))
    ends_came column m [] s =
        choose_given (is_right_of column s.core.indent) (λ _. end_came n m s) (λ _. stays)
    ends_came column m (i ∷ is) s = choose_given (is_right_of column s.core.indent)
        (λ _. on (λ t. Ok (end_blocks column m is t)) (end_came n m s) (ends_came column m is (end_block m s)))
        (λ _. stays)

    pub unroll_came : (column : Option ℕ) (m : Marker) (s : State)
        → CameAs asks says (states_at n) more (drop n s.core.cursor.rest)
        (Ok (unroll column m s)) (Ok (unroll column m (extended_by more s)))
    unfolding unroll
    unroll_came None m s = choose_given (in_block s.core) (λ _. ends_came None m s.core.outer_indents _)
        (λ _. stays)
    unroll_came (Some column) m s = choose_given (in_block s.core)
        (λ _. ends_came (Some column) m s.core.outer_indents _) (λ _. stays)

  content_came : (n : ℕ) (s : State) → ((r : List ℕ) → is_nothing (drop 3 r) ≡ false → is_nothing (drop n r) ≡ false)
      → Sure (states_at n) more (drop n s.core.cursor.rest) (end_content s) (end_content (extended_by more s))
  unfolding end_content
  content_came n s few = on remove_key_of (unroll_came n None s.core.cursor.mark s)
      (core_came more n _ _ _ (remove_came more n _ (few _)))

  -- ## The end of the stream

  end_at_came : (m : Marker) (s : State)
      → Sure states more s.core.cursor.rest (end_at m s) (end_at m (extended_by more s))
  unfolding end_at
  end_at_came m s = choose s.core.required (λ _. refused refl)
      (λ _. on (λ t. Ok (finish m t)) (unroll_came 0 None m s) stays)

  none_known : (r : List ℕ) → is_nothing r ≡ false → (length (r ++ more) == 0) ≡ (length r == 0)
  none_known [] known = absurd (cc)
  none_known (c ∷ cs) known = grind (arith, nat_tests)

  some_length : (r : List ℕ) → (length r == 0) ≡ false → is_nothing r ≡ false
  some_length [] left = absurd (cc)
  some_length (c ∷ cs) left = refl

  pub stream_end_came : (s : State)
      → Sure states more s.core.cursor.rest (state_behind_end s) (state_behind_end (extended_by more s))
  unfolding state_behind_end
  stream_end_came s = choose_at (λ t. length t == 0) (none_known s.core.cursor.rest)
      (λ _. end_at_came (end_mark s.core.cursor.mark) s) (λ left. reports (some_length s.core.cursor.rest left))

  -- ## Markers

  pub marker_came : (kind : Kind) (s : State) → Sure states more (drop 3 s.core.cursor.rest)
      (state_behind_marker kind s) (state_behind_marker kind (extended_by more s))
  unfolding state_behind_marker
  marker_came kind s = and_then _ (content_came 3 s (λ _ left. left))
      (λ t _. on (λ c. Ok (put_passed t.core.cursor.mark kind (record c { key_allowed = false }) t))
      (pass_came more 3 t.core) stays)

  pub document_end_came : (s : State) → Sure states more (drop 3 s.core.cursor.rest)
      (state_behind_document_end s) (state_behind_document_end (extended_by more s))
  unfolding state_behind_document_end end_line
  document_end_came s = and_then _ (marker_came tokens.DocumentEnd s)
      (λ t _. and_then _ (core_given more _ _ t (separate_came more t.core))
      (λ x _. choose_first is_breakz (λ _. stays)
      (λ no. reports (shows is_breakz false x.1.core.cursor.rest no (λ e. absurd (cc))))))

  mark_came : (c : Core) → Sure cores more c.cursor.rest (Ok (pass_mark c)) (Ok (pass_mark (longer_core more c)))
  mark_came c = leaves (later_drop 1 c.cursor.rest) (λ known. rw (drop_known more 1 c.cursor.rest known))

  pub byte_order_came : (s : State) → is_bom (slice_index s.core.cursor.rest 0) ≡ true → Sure states more
      s.core.cursor.rest (state_behind_byte_order_mark s) (state_behind_byte_order_mark (extended_by more s))
  unfolding state_behind_byte_order_mark
  byte_order_came s mark = choose (nat_lt 0 s.core.cursor.mark.col || not (in_block s.core))
      (λ _. reports (shows is_bom true s.core.cursor.rest mark (λ e. absurd (cc))))
      (λ _. and_then _ (content_came 0 s some_of_four) (λ t _.
      on (λ c. Ok (put_passed s.core.cursor.mark tokens.ByteOrderMark c t)) (mark_came t.core) stays))

  -- ## Directives

  read_came : (c : Core)
      → Sure steps more (drop 1 c.cursor.rest) (read_directive c) (read_directive (longer_core more c))
  unfolding read_directive
  read_came c = and_then _ (directive_came more c.cursor) (λ x _. stays)

  pub directive_state_came : (s : State)
      → Sure states more s.core.cursor.rest (state_behind_directive s) (state_behind_directive (extended_by more s))
  unfolding state_behind_directive
  directive_state_came s = and_then _ (content_came 0 s some_of_four) (λ t _. further (later_drop 1 _)
      (after_came more _ _ t.queue (read_came t.core)))
