-- What contracts see of the engine.
use Rattle.std.specs.Prelude.{◌≡◌, map, reverse, Bool, true, false, Option, Some, None, Result, Ok, Err, IsErrAnd}
use Rattle.saphyr_input.specs.declared.input.Input.{Ghosts}
use Rattle.saphyr_scalar.specs.declared.scalar.fault.Refusal.{Refusal}
use Rattle.saphyr_scalar.specs.declared.scalar.fault.Stop.{Stop}
use Rattle.saphyr_scalar.specs.Views.Reader as reader
use Rattle.saphyr_scanner.specs.declared.engine.Engine.{Engine}
use Rattle.saphyr_scanner.specs.declared.engine.level.Candidate as declared_candidate
use Rattle.saphyr_scanner.specs.declared.engine.level.Level as declared_level
use Rattle.saphyr_scanner.specs.declared.stopped.Stopped.{Stopped}
use Rattle.saphyr_scanner.specs.Views.Queue.{queue}
use Rattle.saphyr_scanner.specs.Steps.Core.{Core, Action, StepResult}
use Rattle.saphyr_scanner.specs.Steps.Level.{Candidate, Level}
use Rattle.saphyr_scanner.specs.Steps.State.{State, after_step, on_core, with_action}

abbrev pub candidate : declared_candidate.Candidate → Candidate
candidate k = record { mark = k.mark; place = k.place }

-- the token that may be a key, if there is one
abbrev pub key : Bool → declared_candidate.Candidate → Option Candidate
key true k = Some (candidate k)
key false k = None

abbrev pub level : declared_level.Level → Level
level l = record { context = l.context; key = key l.has_key l.key }

abbrev pub core : {T : Type 0} {g : Ghosts T} → Engine T g → Core
core {T} {g} e =
    record {
      cursor = reader.cursor_of e.reader;
      level = level e.level;
      outer = map level (reverse e.outer.items);
      required = e.required;
      key_allowed = e.key_allowed;
      adjacent = e.adjacent;
      indent = e.indent;
      deeper = e.deeper;
      outer_indents = reverse e.outer_indents.items;
      comment = e.comment;
      started = e.started;
      ended = e.ended;
    }

abbrev pub state : {T : Type 0} {g : Ghosts T} → Engine T g → State
state {T} {g} e = record { core = core e; queue = queue e.queue }

-- what a call returned, with what ended the reading, if it was stopped
abbrev pub stopped_by : {A : Type 0} → Result A Stopped → Stop → Result A Stop
stopped_by (Ok x) stop = Ok x
stopped_by (Err e) stop = Err stop

-- What a call returned, and the engine that it left, are what the function gives, unless memory ran out.
abbrev pub MovesBy
    : {T : Type 0} {g : Ghosts T}
    → (State → Result State Refusal) → Engine T g → Result Unit Stopped → Engine T g → Type 0
MovesBy f old result new = reader.Moves (λ _. state new) (stopped_by result new.stop) (f (state old))

-- the same of a function that changes nothing but the core
abbrev pub CarriesBy
    : {T : Type 0} {g : Ghosts T}
    → (Core → Result Core Refusal) → Engine T g → Result Unit Stopped → Engine T g → Type 0
CarriesBy f = MovesBy (λ s. on_core (f s.core) s.queue)

-- the same of a function on the core that tells what it does to the queue
abbrev pub ActsBy
    : {T : Type 0} {g : Ghosts T}
    → (Core → StepResult) → Engine T g → Result Unit Stopped → Engine T g → Type 0
ActsBy f = MovesBy (λ s. after_step (f s.core) s.queue)

-- the same of one action
abbrev pub Performs : {T : Type 0} {g : Ghosts T} → Action → Engine T g → Result Unit Stopped → Engine T g → Type 0
Performs a = MovesBy (λ s. Ok (with_action a s))

-- What a call returned is passed on, but of its error only that it is kept.
abbrev pub Keeps
    : {A E : Type 0} → (E → Stop → Type 0) → Result A E → Result A Stopped → Stop → Type 0
Keeps converts read (Ok x) stop = read ≡ Ok x
Keeps converts read (Err e) stop = IsErrAnd read (λ reason. converts reason stop)
