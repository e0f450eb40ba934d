use Rattle.std.proofs.Common.{◌≡◌, ◌++◌, encode_utf8_all, string_bytes}
use Rattle.std.specs.Char.Iter.{escape_rest}
use Rattle.yaml_check.specs.Shown.{escaped}
use Rattle.yaml_check.proofs.view.push_escape.Given as goal

abbrev pub invariant-loop-part : goal.invariant-loop-part
invariant-loop-part l = record {
  can_next : (goal.iterator-loop-part).can_next l.part-iterator;
  rest : string_bytes l.out ++ encode_utf8_all (escape_rest l.part-iterator) ≡ string_bytes l.fn.out ++ escaped l.fn.c;
}
