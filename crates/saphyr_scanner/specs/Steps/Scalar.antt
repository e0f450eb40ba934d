-- Scalars as tokens (YAML 1.2.2, chapters 7 and 8).
use Rattle.std.specs.Prelude.{ℕ, Bool, true, false, ◌||◌, ◌&&◌, ◌==◌, not, nat_lt, List, [], ◌∷◌, Option, slice_index, if◌then◌else◌}
use Rattle.saphyr_input.specs.Classes.{is_breakz}
use Rattle.saphyr_input.specs.Indicators.{colon, comma, right_brace, right_bracket}
use Rattle.saphyr_scalar.specs.declared.scalar.position.Marker.{Marker}
use Rattle.saphyr_scalar.specs.declared.scalar.fault.FaultText.TheVariants as fault
use Rattle.saphyr_scalar.specs.declared.scalar.style.ScalarStyle.{ScalarStyle}
use Rattle.saphyr_scalar.specs.declared.scalar.style.ScalarStyle.TheVariants.{Plain, SingleQuoted, DoubleQuoted, Literal, Folded}
use Rattle.saphyr_scalar.specs.Known.{may_be_open}
use Rattle.saphyr_scalar.specs.Views.Cursor.{Cursor, ◌>>=◌, refuse, refuse_open}
use Rattle.saphyr_scalar.specs.Steps.Quoted as quoted
use Rattle.saphyr_scalar.specs.Steps.Plain as words
use Rattle.saphyr_scalar.specs.Steps.Block as blocks
use Rattle.saphyr_scalar.specs.declared.values.Quote.{Quote}
use Rattle.saphyr_scalar.specs.declared.values.Quote.TheVariants.{Single, Double}
use Rattle.saphyr_scalar.specs.declared.values.BlockStyle.{BlockStyle}
use Rattle.saphyr_scalar.specs.declared.values.BlockStyle.TheVariants as block_style
use Rattle.saphyr_scanner.specs.Grammar.Tokens as tokens
use Rattle.saphyr_scanner.specs.Steps.Core.{Core, StepResult, completed_step, from_to, in_block, least_column, save_key}
use Rattle.saphyr_scanner.specs.Steps.Passing.{separate, pass_gap, with_cursor}

-- no key may begin at the next token
abbrev pub disallow_key : Core → Core
disallow_key c = record c { key_allowed = false }

-- What may come after a quoted scalar that began at a place: the line's end, a colon (outside flow on the scalar's
-- own line), and what ends an entry in flow.
unfoldable pub goes_on_behind_quotes : Marker → Core → Bool
goes_on_behind_quotes start c =
    let x = slice_index c.cursor.rest 0 in
    if in_block c then is_breakz x || ((x == colon) && (start.line == c.cursor.mark.line))
    else is_breakz x || (x == colon) || (x == comma) || (x == right_bracket) || (x == right_brace)

-- Where a colon may come right after a quoted scalar, even on a later line.
abbrev pub adjacent_here : Core → Core
adjacent_here c = record c { adjacent = c.cursor.mark.index }

abbrev pub behind_quoted_line : Marker → ScalarStyle → List ℕ → Core → StepResult
behind_quoted_line start style text c =
    if goes_on_behind_quotes start c
    then (pass_gap c >>= λ d. completed_step (from_to start c.cursor.mark (tokens.Scalar style text) ∷ [])
    (adjacent_here d))
    else refuse fault.ContentAfterQuotes c.cursor.mark

-- what comes after a quoted scalar
unfoldable pub behind_quotes : Marker → ScalarStyle → List ℕ → Core → StepResult
behind_quotes start style text c = separate c >>= λ d. behind_quoted_line start style text d.1

abbrev pub quote_style : Quote → ScalarStyle
quote_style Single = SingleQuoted
quote_style Double = DoubleQuoted

abbrev pub read_quoted : Quote → Core → StepResult
read_quoted quote c = quoted.quoted quote (least_column c) c.cursor >>= λ x. behind_quotes c.cursor.mark
    (quote_style quote) x.0 (with_cursor x.1 c)

-- a quoted scalar
unfoldable pub quoted_steps : Quote → ℕ → Core → StepResult
quoted_steps quote n c = read_quoted quote (disallow_key (save_key n c))

-- after a plain scalar: a key may begin where its line has ended, and a comment may have ended it
abbrev pub behind_plain : Option Marker → Cursor → Core → Core
behind_plain comment s c = record c { cursor = s; key_allowed = s.blank_so_far; comment = comment }

unfoldable pub read_plain : Core → StepResult
read_plain c =
    if not (in_block c) && nat_lt c.cursor.mark.col c.indent then
    refuse_open (may_be_open c.cursor.rest) fault.FlowIndentation c.cursor.mark
    else (words.plain (not (in_block c)) c.indent c.cursor >>= λ x. completed_step
    (from_to c.cursor.mark x.1 (tokens.Scalar Plain x.0) ∷ []) (behind_plain x.2 x.3 c))

-- a plain scalar
unfoldable pub plain_steps : ℕ → Core → StepResult
plain_steps n c = read_plain (record (disallow_key (save_key n c)) { deeper = false })

abbrev pub style_of : BlockStyle → ScalarStyle
style_of block_style.Literal = Literal
style_of block_style.Folded = Folded

unfoldable pub read_block : BlockStyle → Core → StepResult
read_block style c =
    blocks.block_scalar style c.indent c.cursor >>= λ x. completed_step
    (from_to x.1.start x.1.end (tokens.Scalar (style_of style) x.0) ∷ []) (with_cursor x.2 c)

-- a block scalar, after which a key may begin
unfoldable pub block_scalar_steps : BlockStyle → ℕ → Core → StepResult
block_scalar_steps style n c = read_block style (record (save_key n c) { key_allowed = true; deeper = false })
