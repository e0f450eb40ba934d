use Rattle.std.proofs.Common.{◌≢◌, arith}
use Rattle.yaml_check.proofs.columns.stray_line.Goals as goal

pub returns-then-column-clause-other : goal.returns-then-column-clause-other
returns-then-column-clause-other c =
    let other : c.column-2.result ≢ c.column.result = grind (arith, c.if-column.true) in
    record {
      line = c.in_ok-line.line;
      begins = c.in_ok-line.ensures.begins;
      here = c.column-2.result;
      there = c.column.result;
      is_here = c.column-2.ensures;
      is_there = c.column.ensures;
      other = other;
    }
