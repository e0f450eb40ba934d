-- The scanner as functions on what it knows and the tokens that it holds.
use Rattle.std.specs.Prelude.{ℕ, List, Result, Ok, Err}
use Rattle.saphyr_scalar.specs.declared.scalar.fault.Refusal.{Refusal}
use Rattle.saphyr_scanner.specs.Steps.Queue as queue
use Rattle.saphyr_scanner.specs.Steps.Queue.{Queue}
use Rattle.saphyr_scanner.specs.Steps.Core as core
use Rattle.saphyr_scanner.specs.Steps.Core.{Core, Action, StepResult, act, perform}

pub record State : Type 0 where
  pub core : Core
  pub queue : Queue

-- at the start of a text
abbrev pub start : List ℕ → State
start text = record { core = core.core_at_start text; queue = queue.empty }

abbrev pub with_core : Core → State → State
with_core c s = record { core = c; queue = s.queue }

-- the same scanner, with these characters to come
abbrev pub with_rest : List ℕ → State → State
with_rest r s = with_core (record s.core { cursor = record s.core.cursor { rest = r } }) s

abbrev pub with_action : Action → State → State
with_action a s = record { core = s.core; queue = act a s.queue }

-- what a change of the core gives, with the queue as it was
abbrev pub on_core : Result Core Refusal → Queue → Result State Refusal
on_core (Ok c) q = Ok (record { core = c; queue = q })
on_core (Err e) q = Err e

-- the same, of a change that tells something
abbrev pub on_core_with : {X : Type 0} → Result (X × Core) Refusal → State → Result (X × State) Refusal
on_core_with (Ok x) s = Ok (x.0, with_core x.1 s)
on_core_with (Err e) s = Err e

-- what a step gives, with what it does to the queue
abbrev pub after_step : StepResult → Queue → Result State Refusal
after_step (Ok x) q = Ok (record { core = x.core; queue = perform x.actions q })
after_step (Err e) q = Err e
