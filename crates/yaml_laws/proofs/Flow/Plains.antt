-- The plain scalars of a text in flow style are passed.
use Rattle.std.proofs.Common.{◌≡◌, ◌≢◌, ℕ, ◌<◌, ◌≤◌, Bool, true, false, List, [], ◌∷◌, ◌++◌, length, slice_index, Ok, refl, ap, ◌∙◌, arith, append_assoc, IsTrue, ◌⊎◌, inl, inr, encode_utf8_all}
use Rattle.yaml_laws.proofs.Common.{◌||◌, ◌&&◌, ◌==◌, not, nat_lt, Option, None, nat_tests, normalized, is_blank, is_blank_or_breakz, is_flow, Marker, Cursor, ◌>>=◌, plain_value, AreIn, is_tabbed, past_white, EndsPlain, is_plain_safe, ArePlainSafe, IsPlainText, Kind, scalar_token, Plain, Core, from_to, completed_step, Candidate, State, is_block, along, begins_plain, IsPlain, IsPlainKey, other_than, and_false, cursor_at, ne_eqb, hyphen, question_mark, number_sign, StepResult}
use Rattle.saphyr_scalar.specs.Steps.Plain.{PlainScalarRead, comment_of}
use Rattle.saphyr_scanner.specs.Grammar.Tokens as tokens
use Rattle.saphyr_scanner.specs.Steps.Scalar as scalar
use Rattle.saphyr_scanner.specs.Steps.Scalar.{read_plain, disallow_key, behind_plain}
use Rattle.saphyr_scanner.specs.Steps.Fetch.{step, is_value_adjacent}
use Rattle.yaml_laws.proofs.InFlow.States.{Around, core_at, Placed, plain_placed, saves_key, FlowMoment, Ready, noted_core, right_at, with_key_saved}
use Rattle.yaml_laws.proofs.InFlow.OnLine.{plain_lowers, plain_key_lowers}
use Rattle.yaml_laws.proofs.Flow.States.{moved, past, IsClear, IsContentStart, ReaderPromises, Fits, PassesNoting, keeping}
use Rattle.yaml_laws.proofs.Flow.KeyPieces.{fits_clear, fits_reach}
use Rattle.yaml_laws.proofs.Flow.Fillers.{blanks_past, white_past}
use Rattle.yaml_laws.proofs.Flow.Tokens.{adjacent_at, passed, token_passes, after_token}
use Rattle.yaml_laws.proofs.Flow.ContentStarts.{Begins}
use Rattle.yaml_laws.proofs.Flow.WordGaps.{passed_moved, normalized_same}
use Rattle.yaml_laws.proofs.Flow.Words.{safe_other, no_breakz_no_break, colon_is_safe, plain_text, key_text, plain_right, key_right}
use Rattle.yaml_laws.proofs.InBlock.Crossings.{white_crosses}

-- ## The first two characters

-- the first word of a plain scalar begins a text, before what comes after it
pub record BeginsWord (f : Bool) (t o : List ℕ) : Type 0 where
  pub first : ℕ
  pub others : List ℕ
  pub is : t ≡ first ∷ others
  pub begins : IsTrue (begins_plain first)
  pub safe : IsTrue (is_plain_safe f first)
  pub no_comment : first ≢ number_sign
  pub further : (first ≡ hyphen) ⊎ ((first ≡ question_mark) ⊎ (first ≡ 58))
      → IsTrue (is_plain_safe f (slice_index (others ++ o) 0))

pub word_begins : (f : Bool) (indent : ℕ) (t o : List ℕ) → IsPlain f indent t → BeginsWord f t o
word_begins f indent t o (word, others, (is_word, begins, no_dash, no_mark, no_colon), many, is) =
    by_word word is_word.some is_word.safe is_word.no_comment begins no_dash no_mark no_colon is
  where
    lone : (c d : ℕ) → c ≡ d → (c ∷ []) ≢ (d ∷ []) → ⊥
    lone c d e other = other (ap (λ (z : ℕ). z ∷ []) e)

    by_word : (w : List ℕ) → w ≢ [] → ArePlainSafe f w → slice_index w 0 ≢ number_sign
        → IsTrue (begins_plain (slice_index w 0))
        → w ≢ hyphen ∷ [] → w ≢ question_mark ∷ [] → w ≢ 58 ∷ [] → t ≡ w ++ others → BeginsWord f t o
    by_word [] some safe sign b dash mark colon e = absurd (some refl)
    by_word (c ∷ []) some safe sign b dash mark colon e =
        record { first = c; others = others; is = e; begins = b; safe = safe.0; no_comment = sign; further = alone }
      where
        alone : (c ≡ hyphen) ⊎ ((c ≡ question_mark) ⊎ (c ≡ 58)) → IsTrue (is_plain_safe f (slice_index (others ++ o) 0))
        alone h = grind arith
    by_word (c ∷ d ∷ ds) some safe sign b dash mark colon e =
        record {
          first = c;
          others = d ∷ (ds ++ others);
          is = e;
          begins = b;
          safe = safe.0;
          no_comment = sign;
          further = λ _. safe.2.0;
        }

-- The first word of a key, which comes before the key's colon. A key on its own is one word: if it is one character
-- that could be an indicator, the colon behind it is what makes it safe. Otherwise words and gaps come behind the first
-- one.
pub key_begins : (f : Bool) (indent : ℕ) (t r : List ℕ) → IsPlainKey f indent t → BeginsWord f t (58 ∷ r)
key_begins f indent t r (inl ((some, safe, sign), begins)) = by_word t some safe sign begins
  where
    by_word : (w : List ℕ) → w ≢ [] → AreIn (is_plain_safe f) w → slice_index w 0 ≢ number_sign
        → IsTrue (begins_plain (slice_index w 0)) → BeginsWord f w (58 ∷ r)
    by_word [] some safe sign b = absurd (some refl)
    by_word (c ∷ []) some safe sign b = record {
      first = c;
      others = [];
      is = refl;
      begins = b;
      safe = safe.0;
      no_comment = sign;
      further = λ _. colon_is_safe f;
    }
    by_word (c ∷ d ∷ ds) some safe sign b = record {
      first = c;
      others = d ∷ ds;
      is = refl;
      begins = b;
      safe = safe.0;
      no_comment = sign;
      further = λ _. safe.1.0;
    }
key_begins f indent t r (inr (plain, dashes, gap, word, h, lone, gapped, last, e)) =
    let end = dashes ++ (gap ++ word) in
    let b = word_begins f indent plain (end ++ (58 ∷ r)) h in
    record {
      first = b.first;
      others = b.others ++ end;
      is = e ∙ ap (λ (y : List ℕ). y ++ end) b.is;
      begins = b.begins;
      safe = b.safe;
      no_comment = b.no_comment;
      further = λ k. rw (append_assoc b.others end (58 ∷ r)) (b.further k);
    }

no_blank : (c : ℕ) → is_blank_or_breakz c ≡ false → is_blank c ≡ false
no_blank c h = grind (arith, nat_tests)

pub token_begins : (f : Bool) (t o : List ℕ) → BeginsWord f t o → Begins t
token_begins f t o b = grind (arith, safe_other, no_blank, no_breakz_no_break, ne_eqb, other_than, nat_tests)

-- a character before a word's second one
pub lone_test : (f : Bool) (first d second : ℕ) → (first ≡ d → IsTrue (is_plain_safe f second))
    → ((first == d) && is_blank_or_breakz second) ≡ false
lone_test f first d second h = grind arith

-- no value is where a colon is part of a word
value_test : (block : Bool) (first second i ad : ℕ) → (first ≡ 58 → IsTrue (is_plain_safe (not block) second))
    → (block ≡ true) ⊎ (ad < i) → ((first == 58) && (not block && (is_flow second || (i == ad)))) ≡ false
value_test true first second i ad h low = and_false (first == 58)
value_test false first second i ad h (inl e) = absurd (cc)
value_test false first second i ad h (inr low) = grind arith

-- The step of a plain scalar is the last choice of `step`. The four tests that read the second character or the core
-- are premises; of the others each asks for a character that begins no plain scalar.
pub plain_begins : (first second n : ℕ) (c : Core) → IsTrue (begins_plain first)
    → ((first == hyphen) && is_blank_or_breakz second) ≡ false
    → ((first == question_mark) && is_blank_or_breakz second) ≡ false
    → ((first == 58) && is_blank_or_breakz second) ≡ false
    → ((first == 58) && is_value_adjacent second c) ≡ false → step first second n c ≡ scalar.plain_steps n c
unfolding step
plain_begins first second n c h dash mark colon value =
    let other : (d : ℕ) → begins_plain d ≡ false → (first == d) ≡ false = λ d e. other_than begins_plain d first e h in
    rw (
      other 91 refl,
      other 123 refl,
      other 93 refl,
      other 125 refl,
      other 44 refl,
      dash,
      mark,
      colon,
      value,
      other 34 refl,
      other 39 refl,
      other 42 refl,
      other 38 refl,
      other 33 refl,
      other 124 refl,
      other 62 refl,
      other 37 refl,
      other 64 refl,
      other 96 refl,
    ) refl

-- ## The scalar is read

-- the value of a plain scalar as a token
abbrev pub plain_token : List ℕ → Kind
plain_token t = scalar_token Plain (plain_value t)

-- what is read of a text that ends at a place
abbrev found : ℕ → Bool → List ℕ → Marker → List ℕ → PlainScalarRead
found indent f o end v = Ok (
  encode_utf8_all (plain_value v),
  end,
  comment_of f (is_tabbed indent o) (past_white end false o),
  past_white end
      false o,
)

-- what a plain scalar t at m, which is at a moment, gives before o
abbrev pub plain_gives : Around → FlowMoment → Marker → List ℕ → List ℕ → StepResult
plain_gives around here m t o =
    let u = past_white (moved m t) false o in
    completed_step (from_to m (moved m t) (plain_token t) ∷ []) (noted_core
    (comment_of (not (is_block here.context)) (is_tabbed around.column o) u)
    (core_at around false (passed here u u.blank_so_far here.adjacent)))

plain_read : ReaderPromises → (around : Around) (d : Bool) (m : Marker) (b : Bool) (t o : List ℕ)
    (now : FlowMoment) (k : Option Candidate) (a : Bool) → IsPlainText (not (is_block now.context)) around.column m t o
    → IsClear m t o → Placed around now.context a m → let here = right_at now (t ++ o) m b k a in
    scalar.plain_steps (length now.places) (core_at around d here) ≡ plain_gives around here m t o
unfolding scalar.plain_steps read_plain
plain_read reads around d m b t o now k a h clear placed =
    let here = right_at now (t ++ o) m b k a in
    let s = here.cursor in
    let f = not (is_block now.context) in
    let c = core_at around false (record (with_key_saved (length now.places) here) { allowed = false }) in
    let token = λ (z : List ℕ × Marker × Option Marker × Cursor). completed_step
    (from_to m z.1 (tokens.Scalar Plain z.0) ∷ []) (behind_plain z.2 z.3 c) in
    let refused : (f && nat_lt m.col around.column) ≡ false = plain_placed around now.context a m placed in
    let got = reads.plain f around.column s t o refl h
    ∙ ap (λ (end : Marker). found around.column f o end (normalized t)) (passed_moved m t clear.no_return)
    ∙ ap (found around.column f o (moved m t)) (normalized_same t clear.no_return) in
    ap (λ (q : Core). read_plain (record (disallow_key q) { deeper = false }))
    (saves_key (length now.places) around d here placed) ∙ rw refused (ap (λ q. q >>= token) got)

-- ## The step

-- no other token begins where a plain scalar does
pub plain_dispatches : (around : Around) (d : Bool) (n : ℕ) (t o : List ℕ) (now : FlowMoment)
    → BeginsWord (not (is_block now.context)) t o
    → (is_block now.context ≡ true) ⊎ (now.adjacent < now.cursor.mark.index)
    → step (slice_index (t ++ o) 0) (slice_index (t ++ o) 1) n (core_at around d now)
    ≡ scalar.plain_steps n (core_at around d now)
plain_dispatches around d n t o now w low =
    let f = not (is_block now.context) in
    let first = slice_index (t ++ o) 0 in
    let second = slice_index (t ++ o) 1 in
    let at_first : first ≡ w.first = cc in
    let at_second : (first ≡ 45) ⊎ ((first ≡ 63) ⊎ (first ≡ 58)) → IsTrue (is_plain_safe f second) =
    λ e. second_safe f t o w (rw at_first at e) in
    plain_begins first second n (core_at around d now) (rw at_first w.begins)
    (lone_test f first 45 second (λ e. at_second (inl e))) (lone_test f first 63 second (λ e. at_second (inr (inl e))))
    (lone_test f first 58 second (λ e. at_second (inr (inr e))))
    (value_test (is_block now.context) first second now.cursor.mark.index now.adjacent (λ e. at_second (inr (inr e)))
    low)
  where
    second_safe : (f : Bool) (t o : List ℕ) (w : BeginsWord f t o)
        → (w.first ≡ hyphen) ⊎ ((w.first ≡ question_mark) ⊎ (w.first ≡ 58))
        → IsTrue (is_plain_safe f (slice_index (t ++ o) 1))
    second_safe f t o w e = rw w.is (w.further e)

-- The premises of a step over a plain scalar: outside flow, or where no colon may come at once.
pub plain_step : ReaderPromises → (around : Around) (d : Bool) (m : Marker) (b : Bool) (t o : List ℕ)
    (now : FlowMoment) (k : Option Candidate) (a : Bool) → BeginsWord (not (is_block now.context)) t o
    → IsPlainText (not (is_block now.context)) around.column m t o → IsClear m t o
    → (is_block now.context ≡ true) ⊎ (now.adjacent < m.index) → Placed around now.context a m
    → let here = right_at now (t ++ o) m b k a in
    step (slice_index (t ++ o) 0) (slice_index (t ++ o) 1) (length now.places) (core_at around d here)
    ≡ plain_gives around here m t o
plain_step reads around d m b t o now k a begins text clear low placed =
    let here = right_at now (t ++ o) m b k a in
    plain_dispatches around d (length now.places) t o here begins low
    ∙ plain_read reads around d m b t o now k a text clear placed

-- ## The scalar is passed

pub no_comment : (f t : Bool) (u : Cursor) → f ≡ true → comment_of f t u ≡ None
unfolding comment_of
no_comment f t u e = rw e refl

pub content_comment : (f t : Bool) (u : Cursor) (c : ℕ) (cs : List ℕ) → u.rest ≡ c ∷ cs → IsContentStart c
    → comment_of f t u ≡ None
unfolding comment_of
content_comment f t u c cs is content = grind arith

-- the comment that ends a plain scalar which is at m, outside flow
abbrev pub plain_comment : Around → FlowMoment → Marker → List ℕ → List ℕ → Option Marker
plain_comment around now m t o =
    comment_of (not (is_block now.context)) (is_tabbed around.column o) (past_white (moved m t) false o)

-- a text that is read as a plain scalar is passed, where that is a word's beginning
abbrev pub PassesPlain : Around → FlowMoment → Marker → List ℕ → List ℕ → Type 0
PassesPlain around now m t o =
    Fits around now.context m t o → EndsPlain (not (is_block now.context)) around.column (moved m t) o
    → is_blank (slice_index (past around.indent (moved m t) o).1 0) ≡ false
    → (is_block now.context ≡ true) ⊎ (now.adjacent < m.index) → (from : Bool → State)
    → Ready around from now m (t ++ o)
    → PassesNoting (plain_comment around now m t o) around from
    (after_token (adjacent_at now.adjacent) now.context (keeping now m t)) now.context now.outer now.places (moved m t)
    o (plain_token t ∷ [])

-- blanks before a token are passed with the scalar
pub white_blanks : (m : Marker) (w : List ℕ) (c : ℕ) (cs : List ℕ) → AreIn is_blank w → IsContentStart c
    → past_white m false (w ++ (c ∷ cs)) ≡ cursor_at (c ∷ cs) (moved m w) false
white_blanks m [] c cs are content = rw (content.blank, content.break) refl
white_blanks m (x ∷ xs) c cs are content = grind (arith, white_blanks (along m 1) xs c cs are.1 content)

-- The scalar is one token (`token_passes`), which the step ends behind the blanks and the break that follow it
-- (`past_white`). So a key may begin if a break was passed. On a key's line only blanks are.
text_passes : ReaderPromises → (around : Around) (t o : List ℕ) (m : Marker) (now : FlowMoment)
    → BeginsWord (not (is_block now.context)) t o
    → (IsClear m t o → EndsPlain (not (is_block now.context)) around.column (moved m t) o
    → IsPlainText (not (is_block now.context)) around.column m t o
    × (around.indent ≤ m.col → around.indent ≤ (moved m t).col))
    → PassesPlain around now m t o
text_passes reads around t o m now begins plain fits ends past_blanks low from ready =
    let f = not (is_block now.context) in
    let u = past_white (moved m t) false o in
    let is = plain (fits_clear fits) ends in
    let clear = fits_clear fits in
    token_passes around (plain_comment around now m t o) (adjacent_at now.adjacent) (plain_token t) t o m now fits
    (fits_reach m t o (token_begins f t o begins) is.1 fits) from ready (λ b j e placed. record {
      there = u;
      end = moved m t;
      allowed = u.blank_so_far;
      adjacent = now.adjacent;
      to = λ d. false;
      is = λ d. plain_step reads around d m b t o now j e begins is.0 clear low placed;
      fits = white_past around.indent (moved m t) false o past_blanks;
      fresh = λ _ e. white_crosses (moved m t) false o e;
      line = λ _ white c cs is are content right. let there = ap (past_white (moved m t) false) is
          ∙ white_blanks (moved m t) white c cs are content in (
            ap (λ (z : Cursor). z.blank_so_far) there,
            record {
              white = [];
              are = tt;
              rest = ap (λ (z : Cursor). z.rest) there;
              mark = ap (λ (z : Cursor). z.mark) there;
              right = rw there (blanks_past around.indent white are (moved m t) right).right;
            },
          );
      holds = refl;
    })

pub plain_passes : ReaderPromises → (around : Around) (t o : List ℕ) (m : Marker) (now : FlowMoment)
    → IsPlain (not (is_block now.context)) around.indent t → PassesPlain around now m t o
plain_passes reads around t o m now h =
    let f = not (is_block now.context) in
    text_passes reads around t o m now (word_begins f around.indent t o h) (λ clear ends. (
      plain_text f around.column m t o (plain_lowers around.indent around.column around.low f t h) clear ends,
      plain_right f around.indent m t o h clear,
    ))

-- a key is passed, up to its colon
pub plain_key_passes : ReaderPromises → (around : Around) (t r : List ℕ) (m : Marker) (now : FlowMoment)
    → IsPlainKey (not (is_block now.context)) around.indent t → PassesPlain around now m t (58 ∷ r)
plain_key_passes reads around t r m now h =
    let f = not (is_block now.context) in
    text_passes reads around t (58 ∷ r) m now (key_begins f around.indent t r h) (λ clear ends. (
      key_text f around.column m t r (plain_key_lowers around.indent around.column around.low f t h) clear ends,
      key_right f around.indent m t r h clear,
    ))
