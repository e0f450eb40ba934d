use Rattle.std.proofs.Common.{List, ℕ, ap, ◌++◌, ◌∙◌}
use Rattle.std.specs.Prelude.{string_bytes}
use Rattle.std.specs.Str.{chars}
use Rattle.std.proofs.lemmas.Str.{IsUtf8-string_bytes, chars-append}
use Rattle.saphyr_pieces.proofs.Places.{carried}
use Rattle.saphyr_pieces.proofs.pieces.PieceReader.extend_copy.Goals as goal

pub returns-in-Ok-clause-copied : goal.returns-in-Ok-clause-copied
returns-in-Ok-clause-copied c from to reached on =
    let old = c.args.self.now in
    let since = chars (string_bytes old.since) in
    let more = c.deref.result.now in
    carried old.copy since (chars (string_bytes c.push_str.new.self)) (chars (string_bytes old.more)) old.events
    c.args.growth from to c.in-Growing.is
    (ap chars c.in-Ok.ensures.bytes ∙ chars-append (string_bytes old.since) more (IsUtf8-string_bytes old.since)
    ∙ ap (λ (bs : List ℕ). since ++ chars bs) c.deref.ensures) reached on
