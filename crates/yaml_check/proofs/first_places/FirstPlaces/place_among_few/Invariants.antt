use Rattle.std.proofs.Common.{◌≡◌, ◌≤◌, length, take}
use Rattle.yaml_check.specs.Keys.{first_among}
use Rattle.yaml_check.specs.PlacesSeen.{few_of, many_of, places_of, short_key, with_all}
use Rattle.yaml_check.proofs.first_places.FirstPlaces.place_among_few.Given as goal

abbrev pub invariant-loop-count : goal.invariant-loop-count
invariant-loop-count l = record {
  within : l.count ≤ length l.self.few.items;
  same : first_among (short_key l.text)
      (with_all (few_of (take l.count l.self.few.items)) (many_of l.self.many.entries))
      ≡ first_among (short_key l.text) (places_of l.self);
}

abbrev pub decreases-loop-count : goal.decreases-loop-count
decreases-loop-count l = l.count
