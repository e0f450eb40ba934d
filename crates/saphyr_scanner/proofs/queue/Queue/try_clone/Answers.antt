-- Copies of places are the same places.
use Rattle.std.proofs.Common.{drop}
use Rattle.std.specs.List.{each_same}
use Rattle.saphyr_scanner.specs.Views.Places.{places_at}
use Rattle.saphyr_scanner.specs.Views.Queue.{first_number, queue_places}
use Rattle.saphyr_scanner.proofs.queue.Queue.try_clone.Goals as goal

pub returns : goal.returns
unfolding queue_places
returns c =
    let old = c.args.self.now in
    let places = each_same old.places.items c.in_ok-clone.field-0.items c.in_ok-clone.ensures.cases.0 in
    λ i. record {
      places = places_at (drop old.spent (places i)) (c.in_ok-try_clone.ensures i);
      handed = first_number old;
    }
