-- What is open at a place of the text, and which token there may be a key.
use Rattle.std.specs.Prelude.{ℕ, Bool, true, false, ◌==◌, Option, Some, None}
use Rattle.saphyr_scalar.specs.declared.scalar.position.Marker.{Marker}
use Rattle.saphyr_scanner.specs.declared.engine.level.Context.{Context}
use Rattle.saphyr_scanner.specs.declared.engine.level.Context.TheVariants as context

-- a token that may be a key: where it begins, and the number of its place in the queue
pub record Candidate : Type 0 where
  pub mark : Marker
  pub place : ℕ

-- what is open, and the token in it that may be a key
pub record Level : Type 0 where
  pub context : Context
  pub key : Option Candidate

abbrev pub at_root : Level
at_root = record { context = context.Block; key = None }

-- ## What is open

abbrev pub is_block : Context → Bool
is_block context.Block = true
is_block _ = false

-- whether a pair is open that ends with its entry
abbrev pub ends_pair : Context → Bool
ends_pair context.FlowPair = true
ends_pair context.MarkedFlowPair = true
ends_pair _ = false

-- what is open after a comma
abbrev pub behind_entry : Context → Context
behind_entry context.Block = context.Block
behind_entry context.FlowMapping = context.FlowMapping
behind_entry _ = context.FlowSequence

-- what is open after `?`
abbrev pub behind_question : Context → Context
behind_question context.FlowSequence = context.ExplicitFlowPair
behind_question context.FlowPair = context.MarkedFlowPair
behind_question x = x

-- whether a colon begins a pair that has no bracket of its own
abbrev pub begins_pair : Context → Bool
begins_pair context.FlowSequence = true
begins_pair context.FlowPair = true
begins_pair _ = false

-- what is open after a colon
abbrev pub behind_colon : Context → Context
behind_colon context.FlowSequence = context.FlowPair
behind_colon x = x

-- ## What may be a key

abbrev pub is_place : ℕ → Option Candidate → Bool
is_place place None = false
is_place place (Some k) = k.place == place

-- the token at a place may be a key of the level
abbrev pub holds : ℕ → Level → Bool
holds place l = is_place place l.key
