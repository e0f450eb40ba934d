use Rattle.std.proofs.Common.{refl}
use Rattle.saphyr_parser_c.proofs.TreeEntries.{writes_none, writes_some}
use Rattle.saphyr_parser_c.proofs.inner.Inner.write_node.Goals as goal

pub returns-in-Some : goal.returns-in-Some
returns-in-Some c = writes_some c.args.self.now.table c.args.number c.in-Some.entry.now c.write_entry.new.out
    c.in-Some.ensures c.write_entry.ensures

pub returns-in-None : goal.returns-in-None
returns-in-None c =
    writes_none c.args.self.now.table c.args.number _ c.blank.result c.in-None.ensures (refl, c.blank.ensures)
