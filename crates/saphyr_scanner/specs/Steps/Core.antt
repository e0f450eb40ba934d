-- What a scanner knows besides the tokens that it holds, and what its steps do.
use Rattle.std.specs.Prelude.{ℕ, ◌+◌, ◌-◌, Bool, true, false, ◌&&◌, ◌||◌, ◌==◌, not, nat_le, nat_lt, List, [], ◌∷◌, Option, Some, None, Result, Ok, if◌then◌else◌}
use Rattle.saphyr_scalar.specs.declared.scalar.position.Marker.{Marker}
use Rattle.saphyr_scalar.specs.declared.scalar.fault.Refusal.{Refusal}
use Rattle.saphyr_scalar.specs.declared.scalar.fault.FaultText.TheVariants as fault
use Rattle.saphyr_scalar.specs.Known.{may_be_open}
use Rattle.saphyr_scalar.specs.Views.Cursor.{Cursor, start_cursor, refuse_open, is_missing}
use Rattle.saphyr_scanner.specs.declared.engine.level.Context.{Context}
use Rattle.saphyr_scanner.specs.declared.queue.Opening.{Opening}
use Rattle.saphyr_scanner.specs.Grammar.Tokens.{Kind}
use Rattle.saphyr_scanner.specs.Views.Tokens.{Piece}
use Rattle.saphyr_scanner.specs.Steps.Level.{Candidate, Level, at_root, is_block}
use Rattle.saphyr_scanner.specs.Steps.Queue.{Queue, with_piece, with_opening, empty_piece}

-- `indent` is the first column to the right of the innermost block collection, 0 where there is none. `deeper` tells
-- that content has to be one column further right.
pub record Core : Type 0 where
  pub cursor : Cursor
  pub level : Level
  pub outer : List Level
  pub required : Bool
  pub key_allowed : Bool
  pub adjacent : ℕ
  pub indent : ℕ
  pub deeper : Bool
  pub outer_indents : List ℕ
  pub comment : Option Marker
  pub started : Bool
  pub ended : Bool

-- at the start of a text
abbrev pub core_at_start : List ℕ → Core
core_at_start text =
    record {
      cursor = start_cursor text;
      level = at_root;
      outer = [];
      required = false;
      key_allowed = true;
      adjacent = 0;
      indent = 0;
      deeper = false;
      outer_indents = [];
      comment = None;
      started = false;
      ended = false;
    }

-- ## What a step does to the queue

pub data Action : Type 0 where
  Put : Piece → Action
  Open : ℕ → Opening → Action

abbrev pub act : Action → Queue → Queue
act (Put t) q = with_piece t q
act (Open n o) q = with_opening n o q

abbrev pub perform : List Action → Queue → Queue
perform [] q = q
perform (a ∷ others) q = perform others (act a q)

pub record Step : Type 0 where
  pub core : Core
  pub actions : List Action

abbrev pub StepResult : Type 0
StepResult = Result Step Refusal

abbrev pub completed_step : List Action → Core → StepResult
completed_step actions c = Ok (record { core = c; actions = actions })

-- ## Tokens

abbrev pub from_to : Marker → Marker → Kind → Action
from_to a b kind = Put (record { span = record { start = a; end = b }; kind = kind })

abbrev pub at_mark : Marker → Kind → Action
at_mark m kind = Put (empty_piece m kind)

-- a token from a place to the one that is reached
abbrev pub up_to_here : Marker → Kind → Core → Action
up_to_here m kind c = from_to m c.cursor.mark kind

-- ## What is open

abbrev pub in_block : Core → Bool
in_block c = is_block c.level.context

abbrev pub with_context : Context → Core → Core
with_context x c = record c { level = record { context = x; key = c.level.key } }

abbrev pub with_key : Option Candidate → Core → Core
with_key k c = record c { level = record { context = c.level.context; key = k } }

-- ## Keys (7.4.2, 8.2.2)

-- The token that comes next may be a key. It has to be one where it is at the column of the block mapping.
abbrev pub save_key : ℕ → Core → Core
save_key n c =
    if c.key_allowed then
    record (with_key (Some (record { mark = c.cursor.mark; place = n })) c) {
      required = (if in_block c then not c.deeper && (c.indent == c.cursor.mark.col + 1) else c.required);
    }
    else c

-- no token of the level may be a key any more
abbrev pub forget_key : Core → Core
forget_key c = record (with_key None c) { required = not (in_block c) && c.required }

-- a key that has to be one is refused where it can't be one any more
unfoldable pub remove_key : Core → Result Core Refusal
remove_key c =
    if in_block c && c.required then refuse_open (is_missing 3 c.cursor.rest) fault.KeyExpected c.cursor.mark
    else Ok (forget_key c)

-- A key outside flow is followed by its colon on its line, within 1,024 characters.
abbrev pub is_too_far : Option Candidate → Marker → Bool
is_too_far None m = false
is_too_far (Some k) m = if nat_lt k.mark.line m.line then true else nat_lt 1024 (m.index - k.mark.index)

unfoldable pub drop_far_key : Core → Result Core Refusal
drop_far_key c =
    if not (in_block c && is_too_far c.level.key c.cursor.mark) then Ok c
    else if c.required then refuse_open (may_be_open c.cursor.rest) fault.KeyWithoutColon c.cursor.mark
    else Ok (forget_key c)

-- ## Indentation (6.1)

-- the column left of which nothing belongs to what is open
abbrev pub least_column : Core → ℕ
least_column c = if c.deeper then c.indent else c.indent - 1

-- content has to be one column further right than the block collection
abbrev pub go_deeper : Core → Core
go_deeper c = record c { deeper = (in_block c && nat_lt 0 c.indent) || c.deeper }

-- whether a block collection begins at a column
abbrev pub is_further : ℕ → Core → Bool
is_further column c = in_block c && nat_le c.indent column

-- a block collection begins at a column
abbrev pub enter_block : ℕ → Core → Core
enter_block column c = record c { indent = column + 1; deeper = false; outer_indents = c.indent ∷ c.outer_indents }

abbrev pub roll : ℕ → Core → Core
roll column c = if is_further column c then enter_block column c else c
