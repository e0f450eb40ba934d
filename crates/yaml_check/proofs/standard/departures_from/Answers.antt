use Rattle.std.proofs.Common.{◌≡◌, ◌∙◌, List, ℕ, ap, get_or, map, refl}
use Rattle.std.specs.Prelude.{All}
use Rattle.std.specs.Str.{chars}
use Rattle.std.proofs.lemmas.List.Elements.{All-map}
use Rattle.saphyr_parser.specs.Words.TokensTaken.{IsPlaceOf}
use Rattle.yaml_standard.specs.declared.verdict.Deviation.{Deviation}
use Rattle.yaml_check.specs.declared.finding.Finding.{Finding}
use Rattle.yaml_check.specs.Found.{IsDeparture, departed}
use Rattle.yaml_check.proofs.standard.departures_from.Goals as goal

each : (text : List ℕ) (told : List Deviation) (found : List Finding) → found ≡ map departed told
    → All (λ (d : Deviation). IsPlaceOf text d.place) told → All (IsDeparture text) found
each text told found is places =
    rw is (All-map (IsDeparture text) departed told (λ k d within. (get_or told k d, refl, places k d within)))

pub returns-clause-all : goal.returns-clause-all
returns-clause-all c = each (chars c.args.text.now) c.in_ok-told.told.items c.in_ok-found.found.items
    (c.in_ok-found.ensures ∙ ap (λ (ds : List Deviation). map departed ds) c.deref.ensures.value)
    c.in_ok-told.ensures.places
