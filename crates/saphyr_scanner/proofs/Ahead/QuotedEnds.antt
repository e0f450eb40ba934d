-- After a quoted scalar an indicator most often comes at once, and nothing is passed before it.
use Rattle.std.proofs.Common.{◌≡◌, ℕ, Ok, Err, Bool, true, false, List, [], ◌∷◌, slice_index, refl, ap, arith, ◌∙◌}
use Rattle.std.specs.Prelude.{◌==◌, ◌||◌, Result, if◌then◌else◌}
use Rattle.std.proofs.lemmas.Bool.Decides.{nat_tests}
use Rattle.saphyr_input.specs.Classes.{is_blank, is_bom, is_break, is_breakz}
use Rattle.saphyr_input.specs.Indicators.{colon, comma, right_brace, right_bracket, number_sign}
use Rattle.saphyr_input.specs.Separation.{is_skipped}
use Rattle.saphyr_input.specs.declared.input.SkipTabs.{SkipTabs}
use Rattle.saphyr_input.specs.declared.input.SkipTabs.TheVariants as tabs
use Rattle.saphyr_scalar.specs.declared.scalar.fault.FaultText.TheVariants as fault
use Rattle.saphyr_scalar.specs.declared.scalar.fault.Refusal.{Refusal}
use Rattle.saphyr_scalar.specs.declared.scalar.position.Marker.{Marker}
use Rattle.saphyr_scalar.specs.declared.scalar.style.ScalarStyle.{ScalarStyle}
use Rattle.saphyr_scalar.specs.declared.values.Quote.{Quote}
use Rattle.saphyr_scalar.specs.Steps.Quoted.{TextRead, quoted}
use Rattle.saphyr_scalar.specs.Views.Cursor.{Cursor, ◌>>=◌, refuse, separation}
use Rattle.saphyr_scalar.proofs.NoSeparation.{nothing_separates}
use Rattle.saphyr_scanner.specs.Grammar.Tokens as tokens
use Rattle.saphyr_scanner.specs.Steps.Core.{Core, StepResult, completed_step, from_to, in_block, least_column}
use Rattle.saphyr_scanner.specs.Steps.Passing.{check_comment, pass_gap, with_cursor}
use Rattle.saphyr_scanner.specs.Steps.Queue.{Queue, with_piece}
use Rattle.saphyr_scanner.specs.Steps.Scalar.{adjacent_here, behind_quoted_line, behind_quotes, goes_on_behind_quotes, quote_style, read_quoted}
use Rattle.saphyr_scanner.specs.Steps.State.{after_step}
use Rattle.saphyr_scanner.specs.Views.Reads.{TokenRead, behind_quoted, ends_at_indicator, is_entry_end, queue_with_token, quote_kind, quoted_whole, read_piece}
use Rattle.saphyr_scanner.proofs.Gaps.{nothing_passed}

last_character : (x : ℕ) → is_entry_end x ≡ true → (is_blank x ≡ false) × (is_break x ≡ false)
    × (is_skipped tabs.Yes x ≡ false) × ((x == number_sign) ≡ false) × (is_bom x ≡ false)
last_character x e = grind (arith, nat_tests)

-- where an indicator comes right after the scalar
pub separated_at_end : (b : Bool) (line : ℕ) (s : Cursor) → ends_at_indicator b line s ≡ true
    → behind_quoted b line s ≡ Ok (true, s)
unfolding behind_quoted
separated_at_end b line s sign = grind (arith, last_character, nothing_separates)

-- Nothing is passed then.
pub gap_at_indicator : (c : Core) → is_entry_end (slice_index c.cursor.rest 0) ≡ true → pass_gap c ≡ check_comment c
unfolding pass_gap
gap_at_indicator c sign = grind (arith, last_character, nothing_passed)

-- ## Scalars that the queue keeps

abbrev found_by : Bool → Bool → Cursor → Result (Bool × Cursor) Refusal
found_by e b s = if e then Ok (true, s) else if b then Ok (false, s) else refuse fault.ContentAfterQuotes s.mark

abbrev found_of : Bool → ℕ → Cursor → Result (Bool × Cursor) Refusal
found_of b line s = found_by (ends_at_indicator b line s) (is_breakz (slice_index s.rest 0)) s

abbrev scalar_found : List ℕ → Bool × Cursor → List ℕ × Marker × Bool × Cursor
scalar_found text d = (text, d.1.mark, d.0, d.1)

-- An indicator that was told ends an entry.
pub found_end : (b : Bool) (quote : Quote) (indent : ℕ) (s : Cursor) (q r : Queue) (start : Marker) (found : Bool)
    (t : Cursor)
    → queue_with_token (quote_kind quote) q start (quoted_whole b quote indent s) ≡ Ok (r, found, t)
    → found ≡ true → is_entry_end (slice_index t.rest 0) ≡ true
unfolding quoted_whole behind_quoted
found_end b quote indent s q r start found t is = grind arith

-- what is told of a scalar that was read with what separates it
abbrev found_step : ScalarStyle → Marker → Core → List ℕ × Marker × Bool × Cursor → StepResult
found_step style start c x =
    pass_gap (with_cursor x.3 c) >>= λ d.
    completed_step (from_to start x.1 (tokens.Scalar style x.0) ∷ []) (adjacent_here d)

line_found : (e b : Bool) (s : Cursor) (g : Cursor → StepResult)
    → (if b || e then g s else refuse fault.ContentAfterQuotes s.mark) ≡ (found_by e b s >>= λ d. g d.1)
line_found e b s g = grind arith

one_apart : (z a b d e : Bool) → (z || a || b || d || e) ≡ (z || (a || b || d || e))
one_apart z a b d e = grind arith

goes_on : (b : Bool) (start : Marker) (c : Core) → in_block c ≡ b
    → goes_on_behind_quotes start c
    ≡ (is_breakz (slice_index c.cursor.rest 0) || ends_at_indicator b start.line c.cursor)
unfolding goes_on_behind_quotes
goes_on true start c is = rw is refl
goes_on false start c is =
    let x = slice_index c.cursor.rest 0 in
    rw is (one_apart (is_breakz x) (x == colon) (x == comma) (x == right_bracket) (x == right_brace))

abbrev core_behind : Core → SkipTabs × Cursor → SkipTabs × Core
core_behind c x = (x.0, with_cursor x.1 c)

step_found : (b : Bool) (style : ScalarStyle) (start : Marker) (text : List ℕ) (c : Core) (s : Cursor) → in_block c ≡ b
    → behind_quotes start style text (with_cursor s c)
    ≡ ((behind_quoted b start.line s >>= λ d. Ok (scalar_found text d)) >>= found_step style start c)
unfolding behind_quotes behind_quoted
step_found b style start text c s is = separated (separation tabs.Yes s)
  where
    found : (f : Result (Bool × Cursor) Refusal)
        → (f >>= λ d. found_step style start c (scalar_found text d))
        ≡ ((f >>= λ d. Ok (scalar_found text d)) >>= found_step style start c)
    found (Ok d) = refl
    found (Err e) = refl

    separated : (f : Result (SkipTabs × Cursor) Refusal)
        → ((f >>= λ x. Ok (core_behind c x)) >>= λ d. behind_quoted_line start style text d.1)
        ≡ (((f >>= λ x. found_of b start.line x.1) >>= λ d. Ok (scalar_found text d)) >>= found_step style start c)
    separated (Err e) = refl
    separated (Ok x) =
        let step : Cursor → StepResult = λ s. found_step style start c (scalar_found text (true, s)) in
        ap (λ w. if w then step x.1 else refuse fault.ContentAfterQuotes x.1.mark)
        (goes_on b start (with_cursor x.1 c) is)
        ∙ line_found (ends_at_indicator b start.line x.1) (is_breakz (slice_index x.1.rest 0)) x.1 step
        ∙ found (found_of b start.line x.1)

-- A quoted scalar that the queue keeps is told so.
pub quoted_read : (b : Bool) (quote : Quote) (c : Core) (q : Queue) → in_block c ≡ b
    → after_step (read_quoted quote c) q
    ≡ (queue_with_token (quote_kind quote) q c.cursor.mark (quoted_whole b quote (least_column c) c.cursor) >>= λ x.
    (pass_gap (with_cursor x.2 c) >>= λ d. Ok (record { core = adjacent_here d; queue = x.0 })))
unfolding quoted_whole
quoted_read b quote c q is =
    let start = c.cursor.mark in
    ap (λ r. after_step r q) (read (quoted quote (least_column c) c.cursor))
    ∙ queued (quoted_whole b quote (least_column c) c.cursor)
  where
    read : (f : TextRead)
        → (f >>= λ x. behind_quotes c.cursor.mark (quote_style quote) x.0 (with_cursor x.1 c))
        ≡ ((f >>= λ x. (behind_quoted b c.cursor.mark.line x.1 >>= λ d. Ok (scalar_found x.0 d)))
        >>= found_step (quote_style quote) c.cursor.mark c)
    read (Err e) = refl
    read (Ok x) = step_found b (quote_style quote) c.cursor.mark x.0 c x.1 is

    passed : (x : List ℕ × Marker × Bool × Cursor) (f : Result Core Refusal)
        → after_step (f >>= λ d. completed_step (from_to c.cursor.mark x.1 (tokens.Scalar (quote_style quote) x.0) ∷ [])
        (adjacent_here d)) q
        ≡ (f >>= λ d. Ok (record
        { core = adjacent_here d; queue = with_piece (read_piece (quote_kind quote) c.cursor.mark x) q }))
    passed x (Err e) = refl
    passed x (Ok d) = refl

    queued : (f : TokenRead (List ℕ) Bool)
        → after_step (f >>= found_step (quote_style quote) c.cursor.mark c) q
        ≡ (queue_with_token (quote_kind quote) q c.cursor.mark f >>= λ x.
        (pass_gap (with_cursor x.2 c) >>= λ d. Ok (record { core = adjacent_here d; queue = x.0 })))
    queued (Err e) = refl
    queued (Ok x) = passed x (pass_gap (with_cursor x.3 c))
