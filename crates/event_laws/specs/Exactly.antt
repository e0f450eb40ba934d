-- Which events a list of tokens gives.
use Rattle.std.specs.Prelude.{◌≡◌, Bool, List, map, None, is_some}
use Rattle.saphyr_scalar.specs.declared.scalar.position.Span.{Span}
use Rattle.saphyr_scanner.specs.Grammar.Tokens.{Kind}
use Rattle.saphyr_scanner.specs.Views.Tokens.{Piece}
use Rattle.saphyr_machine.specs.Events.{Happening}
use Rattle.saphyr_machine.specs.Steps.Machine.{fresh_machine}
use Rattle.saphyr_machine.specs.Answer.{Answer, remaining_answer}

-- these events, whatever their spans, and no fault
abbrev pub GivesExactly : List Happening → Answer → Type 0
GivesExactly es a = (a.fault ≡ None) × (map (λ (e : Happening × Span). e.0) a.events ≡ es)

-- the same events, whatever their spans, and a fault after both or none
pub record EmitTheSame (a b : Answer) : Type 0 where
  pub emitted : map (λ (e : Happening × Span). e.0) a.events ≡ map (λ (e : Happening × Span). e.0) b.events
  pub fault : is_some a.fault ≡ is_some b.fault

-- tokens without their spans
abbrev pub kinds : List Piece → List Kind
kinds ts = map (λ (t : Piece). t.kind) ts

-- the events of tokens that no refusal ends, `keep` telling whether prefixes of tags are kept for later documents
abbrev pub answer_of_tokens : Bool → List Piece → Answer
answer_of_tokens keep ts =
    remaining_answer (record (fresh_machine (record { pieces = ts; refusal = None })) { keep_tags = keep })
