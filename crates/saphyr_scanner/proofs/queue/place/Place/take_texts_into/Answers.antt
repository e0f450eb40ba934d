-- The texts of a token on one line come first.
use Rattle.std.proofs.Common.{arith, subst, ◌≡◌, ◌-◌}
use Rattle.saphyr_scanner.specs.Views.Places.{handle_length}
use Rattle.saphyr_scanner.specs.Views.Texts.{BeginsWithTexts}
use Rattle.saphyr_scanner.proofs.QueuedPlaces.{has_texts}
use Rattle.saphyr_scanner.proofs.queue.place.Place.take_texts_into.Goals as goal

pub take_behind_into-requires-clause-there : goal.take_behind_into-requires-clause-there
take_behind_into-requires-clause-there c =
    let has = has_texts c.args.self c.args.texts.now c.if-self-eq-APART.false c.requires.there in
    rw (c.handle-handle.ensures, c.from-count.ensures) has.1

pub take_second_into-requires-clause-there : goal.take_second_into-requires-clause-there
take_second_into-requires-clause-there c =
    let p = c.args.self in
    let s = c.args.texts.now in
    let has = has_texts p s c.if-self-eq-APART.false c.requires.there in
    let handle : c.handle-handle.result ≡ handle_length p.front = c.handle-handle.ensures in
    let count : c.from-count.result ≡ p.count = c.from-count.ensures in
    let alone = c.if-handle-gt0.false in
    let none : handle_length p.front ≡ 0 = omega (arith, handle, alone) in
    let whole : p.count - handle_length p.front ≡ c.from-count.result = omega (arith, none, count) in
    subst (λ n. BeginsWithTexts n c.from-count.result s) none
    (subst (λ m. BeginsWithTexts (handle_length p.front) m s) whole has.1)
