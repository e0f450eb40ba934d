use Rattle.std.proofs.Common.{take}
use Rattle.std.specs.Str.{chars}
use denote.Shadow.{shadow}
use denote.Text.{Utf8}
use Rattle.saphyr_scalar.specs.Spelling.Tag.{AreByteEscapes}
use Rattle.yaml_standard.specs.Takes.{TakesOff}
use Rattle.yaml_standard.proofs.percent.behind_bytes.Given as goal

abbrev pub invariant-loop-i : goal.invariant-loop-i
invariant-loop-i l = record {
  text : shadow (Utf8 l.rest);
  taken : TakesOff (AreByteEscapes (take l.i l.bytes)) (chars l.fn.text) (chars l.rest);
}
