-- What contracts see of the way to the next token.
use Rattle.std.specs.Prelude.{ℕ, ◌≡◌, ◌-◌, ◌^◌, ◌<◌, ◌==◌, ◌&&◌, ◌||◌, Bool, true, false, nat_lt, length, slice_index, Result, Ok, Err}
use Rattle.saphyr_input.specs.declared.input.Input.{Ghosts}
use Rattle.saphyr_input.specs.Classes.{is_from}
use Rattle.saphyr_input.specs.Indicators.{full_stop, hyphen, number_sign, percent_sign, quotation_mark}
use Rattle.saphyr_scalar.specs.declared.scalar.fault.Refusal.{Refusal}
use Rattle.saphyr_scalar.specs.Views.Cursor.{◌>>=◌, pass_break, pass_spaces}
use Rattle.saphyr_scalar.specs.Views.Reader.{Fails}
use Rattle.saphyr_scanner.specs.declared.engine.Engine.{Engine}
use Rattle.saphyr_scanner.specs.declared.stopped.Stopped.{Stopped}
use Rattle.saphyr_scanner.specs.Steps.Core.{Core, in_block}
use Rattle.saphyr_scanner.specs.Steps.State.{State}
use Rattle.saphyr_scanner.specs.Steps.Fetch.{arrive, fetch_here, state_behind_content}
use Rattle.saphyr_scanner.specs.Views.Engine.{state}

-- what a character begins, with the second of the rest at hand
abbrev pub with_second : ℕ → State → Result State Refusal
with_second c s = state_behind_content c (slice_index s.core.cursor.rest 1) s

-- what the first character of the rest begins, with the second at hand
abbrev pub with_content : State → Result State Refusal
with_content s = with_second (slice_index s.core.cursor.rest 0) s

-- What was to be reached is reached, or it is what the first character begins, unless memory ran out.
abbrev pub LeadsOn
    : {T : Type 0} {g : Ghosts T} → Result Bool Stopped → Result State Refusal → Engine T g → Type 0
LeadsOn (Ok true) whole e = (whole ≡ with_content (state e)) × (0 < length (state e).core.cursor.rest)
LeadsOn (Ok false) whole e = whole ≡ Ok (state e)
LeadsOn (Err _) whole e = Fails e.stop whole

-- the next token, once the stream has begun
abbrev pub fetched : State → Result State Refusal
fetched s = arrive s >>= fetch_here

-- a character that most tokens begin with, and no blank, break or `#`
abbrev pub may_begin : ℕ → Bool
may_begin c = (c == quotation_mark) || nat_lt number_sign c

-- whether a directive or the marker of a document may begin with these characters, at the start of a line
abbrev pub may_begin_mark : ℕ → ℕ → Bool
may_begin_mark first second =
    (first == percent_sign) || (first == full_stop) || ((first == hyphen) && (second == hyphen))

-- a character that most entries begin with, and no blank, break, `#`, flow indicator or byte order mark: `"`, others
-- from `$` to `z`, and most that are not ASCII
abbrev pub may_begin_entry : ℕ → Bool
may_begin_entry c = (c == quotation_mark) || is_from 36 43 c || is_from 45 90 c || is_from 94 122 c
    || is_from 160 55295 c

-- behind a line feed and the spaces after it, outside flow where a key may be
abbrev pub behind_feed : Core → Core
behind_feed c =
    record c {
      cursor = pass_spaces (2 ^ 64 - 1) (pass_break c.cursor);
      key_allowed = in_block c || c.key_allowed;
    }
