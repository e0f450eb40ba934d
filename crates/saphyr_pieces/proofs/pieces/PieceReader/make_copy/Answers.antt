use Rattle.std.proofs.Common.{ap, ◌∙◌}
use Rattle.std.specs.Str.{chars}
use Rattle.std.proofs.lemmas.Str.{chars-nil}
use Rattle.saphyr_pieces.proofs.Places.{copied}
use Rattle.saphyr_pieces.proofs.pieces.PieceReader.make_copy.Goals as goal

pub returns-in-Ok-clause-copied : goal.returns-in-Ok-clause-copied
returns-in-Ok-clause-copied c =
    copied _ _ c.in-Ok.copy c.share_names.new.self c.replace.ensures.after
    (ap chars c.clear.ensures.bytes ∙ chars-nil) c.in-Ok.ensures.cursor
