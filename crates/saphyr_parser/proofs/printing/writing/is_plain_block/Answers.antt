use Rattle.std.proofs.Common.{eqb-true}
use Rattle.saphyr_parser.proofs.Printed.Blocks.{plain_block}
use Rattle.saphyr_parser.proofs.printing.writing.is_plain_block.Goals as goal

pub returns-then-block-eq0 : goal.returns-then-block-eq0
returns-then-block-eq0 g c e =
    plain_block c.args.text.now c.args.start g.row.N c.requires.0 c.requires.1 c.if-block-eq0.true (eqb-true _ _ e)
