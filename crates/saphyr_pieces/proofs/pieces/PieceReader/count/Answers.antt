use Rattle.std.specs.Prelude.{string_bytes}
use Rattle.std.specs.Str.{chars}
use Rattle.saphyr_pieces.proofs.Places.{one_more}
use Rattle.saphyr_pieces.proofs.pieces.PieceReader.count.Goals as goal

pub returns-in-Some-clause-copied : goal.returns-in-Some-clause-copied
returns-in-Some-clause-copied c from to reached steps =
    one_more c.args.self.now.copy (chars (string_bytes c.args.self.now.since)) c.args.self.now.events c.in-Some.events
    from to c.in-Some.ensures.1 reached steps
