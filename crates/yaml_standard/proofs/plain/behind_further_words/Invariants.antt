use Rattle.std.proofs.Common.{length}
use Rattle.std.specs.Str.{chars}
use denote.Shadow.{shadow}
use denote.Text.{Utf8}
use Rattle.scalar_laws.specs.Spelling.Spaces.{AreMany}
use Rattle.yaml_laws.specs.Grammar.FlowScalars.{IsFurtherWord}
use Rattle.yaml_standard.specs.Takes.{TakesOff}
use Rattle.yaml_standard.proofs.plain.behind_further_words.Given as goal

abbrev pub invariant-loop-word : goal.invariant-loop-word
invariant-loop-word l = record {
  text : shadow (Utf8 l.rest);
  taken : TakesOff (AreMany (IsFurtherWord l.in_flow l.indent)) (chars l.fn.text) (chars l.rest);
}

abbrev pub decreases-loop-word : goal.decreases-loop-word
decreases-loop-word l = length (chars l.rest)
