use Rattle.std.proofs.Common.{◌≡◌, drop}
use Rattle.yaml_check.specs.PlacesSeen.{few_of, many_of, with_all}
use Rattle.yaml_check.proofs.first_places.add_all.Given as goal

abbrev pub invariant-loop-entry : goal.invariant-loop-entry
invariant-loop-entry l = with_all (few_of (drop l.entry-index l.few)) (many_of l.places.entries)
    ≡ with_all (few_of l.few) (many_of l.fn.places.entries)
