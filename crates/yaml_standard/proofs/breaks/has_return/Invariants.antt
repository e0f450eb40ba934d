use Rattle.std.proofs.Common.{◌≡◌, length}
use Rattle.std.specs.Str.{chars}
use denote.Shadow.{shadow}
use denote.Text.{Utf8}
use Rattle.saphyr_input.specs.Breaks.{normalized}
use Rattle.yaml_standard.proofs.breaks.has_return.Given as goal

abbrev pub invariant-loop-c : goal.invariant-loop-c
invariant-loop-c l = record {
  text : shadow (Utf8 l.rest);
  passed : normalized (chars l.rest) ≡ chars l.rest → normalized (chars l.fn.text) ≡ chars l.fn.text;
}

abbrev pub decreases-loop-c : goal.decreases-loop-c
decreases-loop-c l = length (chars l.rest)
