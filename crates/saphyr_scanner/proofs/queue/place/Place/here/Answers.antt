-- The texts of the token come behind the others.
use Rattle.saphyr_scanner.proofs.QueuedPlaces.{adds_here}
use Rattle.saphyr_scanner.proofs.queue.place.Place.here.Goals as goal

pub returns : goal.returns
returns c front text s h k = adds_here _ front text s c.requires.count c.requires.handle c.requires.most h k
