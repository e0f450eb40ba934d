use Rattle.std.proofs.Common.{◌≡◌, ◌++◌}
use Rattle.std.specs.Str.{chars}
use denote.Shadow.{shadow}
use denote.Text.{Utf8}
use Rattle.saphyr_scalar.specs.Reading.BlockLines.{spaces}
use Rattle.yaml_standard.proofs.spaces.behind_spaces.Given as goal

abbrev pub invariant-loop : goal.invariant-loop
invariant-loop l = record {
  text : shadow (Utf8 l.rest);
  passed : chars l.fn.text ≡ spaces l.counter ++ chars l.rest;
}
