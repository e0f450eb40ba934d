use Rattle.std.proofs.Common.{◌≡◌, ℕ, List, subst}
use Rattle.saphyr_scanner.specs.Steps.Remaining.{scan}
use Rattle.saphyr_machine.specs.Cursor.{at_start}
use Rattle.event_laws.specs.Promises.{KeepsSpans, ReadsClosedYaml, ReadsJson, ReadsYaml, TakesEvents}
use Rattle.saphyr_parser.proofs.cursor.Parser+StrInput.new_from_str.Goals as goal

pub returns-clause-taken : goal.returns-clause-taken
returns-clause-taken c = subst (λ (cs : List ℕ). TakesEvents cs c.new-2.result) c.new.ensures.rest c.new-2.ensures.taken

pub returns-clause-yaml : goal.returns-clause-yaml
returns-clause-yaml c =
    subst (λ (cs : List ℕ). ReadsYaml 4294967295 cs c.new-2.result) c.new.ensures.rest c.new-2.ensures.yaml

pub returns-clause-spans : goal.returns-clause-spans
returns-clause-spans c = subst (λ (cs : List ℕ). KeepsSpans cs c.new-2.result) c.new.ensures.rest c.new-2.ensures.spans

pub returns-clause-closed : goal.returns-clause-closed
returns-clause-closed c =
    subst (λ (cs : List ℕ). ReadsClosedYaml 4294967295 cs c.new-2.result) c.new.ensures.rest c.new-2.ensures.closed

pub returns-clause-json : goal.returns-clause-json
returns-clause-json c =
    subst (λ (cs : List ℕ). ReadsJson 4294967295 cs c.new-2.result) c.new.ensures.rest c.new-2.ensures.json

pub returns-clause-decided : goal.returns-clause-decided
returns-clause-decided c =
    subst (λ (cs : List ℕ). c.new-2.result ≡ at_start (scan 4294967295 cs)) c.new.ensures.rest
    c.new-2.ensures.decided
