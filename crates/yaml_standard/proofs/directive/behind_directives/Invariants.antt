use Rattle.std.proofs.Common.{length}
use Rattle.std.specs.Str.{chars}
use denote.Shadow.{shadow}
use denote.Text.{Utf8}
use Rattle.yaml_standard.specs.Declarations.{AreDeclaredDirectives}
use Rattle.yaml_standard.specs.Takes.{TakesOff}
use Rattle.yaml_standard.proofs.directive.behind_directives.Given as goal

abbrev pub invariant-loop-kind : goal.invariant-loop-kind
invariant-loop-kind l = record {
  text : shadow (Utf8 l.rest);
  taken : TakesOff (AreDeclaredDirectives l.declared) (chars l.fn.text) (chars l.rest);
}

abbrev pub decreases-loop-kind : goal.decreases-loop-kind
decreases-loop-kind l = length (chars l.rest)
