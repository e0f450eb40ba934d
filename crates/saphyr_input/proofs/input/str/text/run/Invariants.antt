use Rattle.std.proofs.Common.{drop, false, ◌+◌, ◌≡◌}
use Rattle.std.specs.Prelude.{slice_index}
use Rattle.std.specs.List.{prefix_len}
use Rattle.saphyr_input.specs.Fronts.{ascii_in}
use Rattle.std.specs.Str.{chars}
use denote.Shadow.{shadow}
use denote.Text.{Utf8}
use Rattle.saphyr_input.proofs.input.str.text.run.Given as goal

abbrev pub invariant-loop-wide : goal.invariant-loop-wide
invariant-loop-wide g l = record {
  text : shadow (Utf8 l.rest);
  run : l.count + prefix_len g.C.CharSet.test (chars l.rest) ≡ prefix_len g.C.CharSet.test (chars l.fn.text);
  stops : ascii_in g.C.CharSet.test (slice_index l.rest 0) ≡ false;
  behind : chars l.rest ≡ drop l.count (chars l.fn.text);
}

abbrev pub decreases-loop-wide : goal.decreases-loop-wide
decreases-loop-wide g l = prefix_len g.C.CharSet.test (chars l.rest)
