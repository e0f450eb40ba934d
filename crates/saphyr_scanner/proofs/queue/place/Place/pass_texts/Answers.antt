-- The texts of a token on one line come first.
use Rattle.saphyr_scanner.specs.Views.Places.{handle_length}
use Rattle.saphyr_scanner.proofs.QueuedPlaces.{all_within, has_texts}
use Rattle.saphyr_scanner.proofs.queue.place.Place.pass_texts.Goals as goal

pub pass_text-requires : goal.pass_text-requires
pass_text-requires c =
    let has = has_texts c.args.self c.args.texts.now c.if-self-eq-APART.false c.requires in
    rw (c.from.ensures) (all_within (handle_length c.args.self.front) c.args.self.count c.args.texts.now has.0 has.1)
