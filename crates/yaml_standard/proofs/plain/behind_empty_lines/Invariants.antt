use Rattle.std.proofs.Common.{length}
use Rattle.std.specs.Str.{chars}
use denote.Shadow.{shadow}
use denote.Text.{Utf8}
use Rattle.scalar_laws.specs.Spelling.Spaces.{AreMany}
use Rattle.yaml_laws.specs.Grammar.FlowScalars.{IsEmptyLine}
use Rattle.yaml_standard.specs.Takes.{TakesOff}
use Rattle.yaml_standard.proofs.plain.behind_empty_lines.Given as goal

abbrev pub invariant-loop-line : goal.invariant-loop-line
invariant-loop-line l = record {
  text : shadow (Utf8 l.rest);
  taken : TakesOff (AreMany (IsEmptyLine l.indent)) (chars l.fn.text) (chars l.rest);
}

abbrev pub decreases-loop-line : goal.decreases-loop-line
decreases-loop-line l = length (chars l.rest)
