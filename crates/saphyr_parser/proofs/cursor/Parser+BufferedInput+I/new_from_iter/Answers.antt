use Rattle.std.proofs.Common.{ℕ, List, subst, arith}
use Rattle.saphyr_scanner.specs.Limits.{most_open}
use Rattle.yaml_laws.specs.Grammar.Yaml.{IsYamlText}
use Rattle.event_laws.specs.Promises.{IsShallowJson, KeepsSpans, ReadsClosedYaml, ReadsJson, ReadsYaml, TakesEvents}
use Rattle.event_laws.proofs.Promises.WithinLimit.{reads_whole, reads_whole_closed}
use Rattle.saphyr_parser.proofs.cursor.Parser+BufferedInput+I.new_from_iter.Goals as goal

pub returns-clause-json : goal.returns-clause-json
returns-clause-json g c =
    λ text lists. reads_whole (IsShallowJson most_open) 4294967295 4294967296 text c.new-2.result (omega arith)
    (subst (λ (cs : List ℕ). ReadsJson 4294967295 cs c.new-2.result) (c.in_ok-new.ensures.rest text lists)
    c.new-2.ensures.json)

pub returns-clause-spans : goal.returns-clause-spans
returns-clause-spans g c =
    λ text lists. subst (λ (cs : List ℕ). KeepsSpans cs c.new-2.result) (c.in_ok-new.ensures.rest text lists)
    c.new-2.ensures.spans

pub returns-clause-taken : goal.returns-clause-taken
returns-clause-taken g c =
    λ text lists. subst (λ (cs : List ℕ). TakesEvents cs c.new-2.result) (c.in_ok-new.ensures.rest text lists)
    c.new-2.ensures.taken

pub returns-clause-yaml : goal.returns-clause-yaml
returns-clause-yaml g c =
    λ text lists. reads_whole (IsYamlText most_open) 4294967295 4294967296 text c.new-2.result (omega arith)
    (subst (λ (cs : List ℕ). ReadsYaml 4294967295 cs c.new-2.result) (c.in_ok-new.ensures.rest text lists)
    c.new-2.ensures.yaml)

pub returns-clause-closed : goal.returns-clause-closed
returns-clause-closed g c =
    λ text lists. reads_whole_closed 4294967295 4294967296 text c.new-2.result (omega arith)
    (subst (λ (cs : List ℕ). ReadsClosedYaml 4294967295 cs c.new-2.result) (c.in_ok-new.ensures.rest text lists)
    c.new-2.ensures.closed)
