use Rattle.std.proofs.Common.{ap, ◌≡◌, ◌∙◌, arith, List, [], ℕ, refl, rules, subst, sym}
use Rattle.saphyr_scanner.specs.Steps.Remaining.{scan}
use Rattle.saphyr_machine.specs.Calls.{IsSound}
use Rattle.saphyr_machine.specs.Cursor.{at_start}
use Rattle.saphyr_machine.specs.Views.Readers.{cursor}
use Rattle.event_laws.specs.Promises.{KeepsSpans, ReadsClosedYaml, ReadsJson, ReadsYaml, TakesEvents}
use Rattle.event_laws.proofs.Promises.KeepsSpans.{parser_keeps_spans}
use Rattle.event_laws.proofs.Promises.ReadsClosedYaml.{reads_closed_yaml}
use Rattle.event_laws.proofs.Promises.ReadsJson.{reads_each_json}
use Rattle.event_laws.proofs.Promises.ReadsYaml.{reads_yaml}
use Rattle.event_laws.proofs.Promises.TakesEvents.{parser_takes}
use Rattle.saphyr_parser.proofs.cursor.Parser.with_limit.Goals as goal

pub returns-clause-json : goal.returns-clause-json
returns-clause-json g c =
    subst (λ (cs : List ℕ). ReadsJson c.args.limit cs (cursor c.new-2.result)) c.counted-src.ensures.same
    (reads_each_json c.is_yaml_text.ensures c.scans_each_yaml_text.ensures _ _ c.counted-src.ensures.countable _
    (c.new-2.ensures.cursor [] ∙ ap at_start (c.new.ensures.tokens [])))

pub returns-clause-spans : goal.returns-clause-spans
returns-clause-spans g c =
    subst (λ (cs : List ℕ). KeepsSpans cs (cursor c.new-2.result)) c.counted-src.ensures.same
    (parser_keeps_spans _ _ _ (c.new-2.ensures.cursor [] ∙ ap at_start (c.new.ensures.tokens [])) c.new.ensures.spans
    (let t = c.new.ensures.taken in c.places_taken_tokens.ensures _ _ t.0 t.1))

pub returns-clause-taken : goal.returns-clause-taken
returns-clause-taken g c =
    λ few. subst (λ (cs : List ℕ). TakesEvents cs (cursor c.new-2.result)) c.counted-src.ensures.same
    (parser_takes c.takes_all_events.ensures _ _ _ _
    (c.new-2.ensures.cursor [] ∙ ap at_start (c.new.ensures.tokens [])) refl c.new.ensures.taken
    (c.ends_with_the_stream.ensures _ _) (c.bounds_tokens.ensures _ _) few)

pub returns-clause-yaml : goal.returns-clause-yaml
returns-clause-yaml g c = λ few.
    subst (λ (cs : List ℕ). ReadsYaml c.args.limit cs (cursor c.new-2.result)) c.counted-src.ensures.same
    (reads_yaml c.scans_each_yaml_text.ensures _ _ few (c.bounds_tokens.ensures _ _) _
    (c.new-2.ensures.cursor [] ∙ ap at_start (c.new.ensures.tokens [])))

pub returns-clause-closed : goal.returns-clause-closed
returns-clause-closed g c = λ few.
    subst (λ (cs : List ℕ). ReadsClosedYaml c.args.limit cs (cursor c.new-2.result)) c.counted-src.ensures.same
    (reads_closed_yaml _ few (λ text. c.bounds_tokens.ensures _ text)
    (λ marker forest text others yaml ends apart short. c.hands_out_markers.ensures _ marker forest text others
    yaml ends apart short (omega (arith, few))) _ _
    (c.new-2.ensures.cursor [] ∙ ap at_start (c.new.ensures.tokens [])))

pub returns-clause-decided : goal.returns-clause-decided
returns-clause-decided g c =
    subst (λ (cs : List ℕ). cursor c.new-2.result ≡ at_start (scan c.args.limit cs)) c.counted-src.ensures.same
    (c.new-2.ensures.cursor [] ∙ ap at_start (c.new.ensures.tokens []))

pub invariant_of-result : goal.invariant_of-result
invariant_of-result g c =
    subst IsSound (sym (c.new-2.ensures.cursor [])) (record { ahead = search rules; finished = search rules })
