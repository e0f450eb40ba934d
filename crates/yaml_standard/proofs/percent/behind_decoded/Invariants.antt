use Rattle.std.specs.Str.{chars}
use denote.Shadow.{shadow}
use denote.Text.{Utf8}
use Rattle.yaml_standard.specs.Percent.{AreOf}
use Rattle.yaml_standard.specs.Takes.{TakesOff}
use Rattle.yaml_standard.proofs.percent.behind_decoded.Given as goal

abbrev pub invariant-loop : goal.invariant-loop
invariant-loop g l = record {
  text : shadow (Utf8 l.rest);
  taken : TakesOff (AreOf g.C.CharSet.test) (chars l.fn.text) (chars l.rest);
}
