use Rattle.std.specs.Str.{chars}
use denote.Shadow.{shadow}
use denote.Text.{Utf8}
use Rattle.yaml_standard.specs.Quotes.{SpellsDigits}
use Rattle.yaml_standard.proofs.quoted.behind_digits.Given as goal

abbrev pub invariant-loop : goal.invariant-loop
invariant-loop l = record {
  text : shadow (Utf8 l.rest);
  digits : SpellsDigits l.counter l.value (chars l.fn.text) (chars l.rest);
}
