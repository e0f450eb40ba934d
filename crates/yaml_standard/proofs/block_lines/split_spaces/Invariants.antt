use Rattle.std.proofs.Common.{◌≡◌, ◌++◌}
use Rattle.std.specs.Str.{chars}
use denote.Shadow.{shadow}
use denote.Text.{Utf8}
use Rattle.saphyr_scalar.specs.Reading.BlockLines.{spaces}
use Rattle.yaml_standard.proofs.block_lines.split_spaces.Given as goal

abbrev pub invariant-loop-count : goal.invariant-loop-count
invariant-loop-count l = record {
  text : shadow (Utf8 l.rest);
  passed : chars l.fn.text ≡ spaces l.count ++ chars l.rest;
}
