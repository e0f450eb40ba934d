use Rattle.std.proofs.Common.{length}
use Rattle.std.specs.Str.{chars}
use denote.Shadow.{shadow}
use denote.Text.{Utf8}
use Rattle.scalar_laws.specs.Spelling.Spaces.{AreMany}
use Rattle.yaml_laws.specs.Grammar.FlowScalars.{IsLoneDash}
use Rattle.yaml_standard.specs.Takes.{TakesOff}
use Rattle.yaml_standard.proofs.plain.behind_dashes.Given as goal

abbrev pub invariant-loop-dash : goal.invariant-loop-dash
invariant-loop-dash l = record {
  text : shadow (Utf8 l.rest);
  taken : TakesOff (AreMany (IsLoneDash l.indent)) (chars l.fn.text) (chars l.rest);
}

abbrev pub decreases-loop-dash : goal.decreases-loop-dash
decreases-loop-dash l = length (chars l.rest)
