use Rattle.std.specs.Str.{chars}
use denote.Text.{Utf8}
use denote.Shadow.{shadow}
use Rattle.yaml_standard.specs.Takes.{TakesOff}
use Rattle.yaml_standard.proofs.Leaves.{IsLineOf}
use Rattle.yaml_standard.proofs.leaf.is_short.Given as goal

abbrev pub invariant-loop : goal.invariant-loop
invariant-loop l = record {
  text : shadow (Utf8 l.rest);
  passed : TakesOff (IsLineOf l.counter) (chars l.fn.text) (chars l.rest);
}
