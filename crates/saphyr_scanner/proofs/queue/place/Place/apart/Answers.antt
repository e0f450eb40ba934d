-- The extent of the token comes behind the others, and so do its texts.
use Rattle.std.proofs.Common.{refl}
use Rattle.saphyr_scanner.proofs.QueuedPlaces.{adds_apart}
use Rattle.saphyr_scanner.proofs.queue.place.Place.apart.Goals as goal

pub returns : goal.returns
returns c e handle text s h k = adds_apart _ e handle text s refl refl h k
