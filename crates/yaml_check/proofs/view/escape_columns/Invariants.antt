use Rattle.std.proofs.Common.{◌≡◌, ◌+◌, ◌≤◌, length}
use Rattle.std.specs.Char.Iter.{escape_left, escape_rest}
use Rattle.std.specs.Char.Escape.{escape_default}
use Rattle.yaml_check.proofs.view.escape_columns.Given as goal

abbrev pub invariant-loop-part : goal.invariant-loop-part
invariant-loop-part l = record {
  can_next : (goal.iterator-loop-part).can_next l._part-iterator;
  bound : l.count + escape_left l._part-iterator ≤ 10;
  rest : l.count + length (escape_rest l._part-iterator) ≡ length (escape_default l.fn.c);
}
