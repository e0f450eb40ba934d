use Rattle.saphyr_parser_c.proofs.OfPieces.{made_of_pieces}
use Rattle.saphyr_parser_c.proofs.inner.Inner.of_pieces.Goals as goal

pub returns : goal.returns
returns c =
    made_of_pieces c.args.keep_tags c.args.most_characters c.args.most_waiting c.in_ok-coming.coming _ _
    c.in_ok-coming.ensures c.in_ok-of_pieces.ensures c.in_ok-inner.ensures.0 c.in_ok-inner.ensures.1
