use Rattle.std.proofs.Common.{◌≡◌, ◌∷◌, length}
use Rattle.std.specs.Prelude.{◌==◌}
use Rattle.std.specs.Str.{chars}
use denote.Shadow.{shadow}
use denote.Text.{Utf8}
use Rattle.saphyr_input.specs.Indicators.{colon}
use Rattle.saphyr_scalar.specs.Spelling.Tag.{AreIn}
use Rattle.yaml_standard.specs.Takes.{TakesOff}
use Rattle.yaml_standard.proofs.plain.behind_other_colons.Given as goal

abbrev pub invariant-loop-next : goal.invariant-loop-next
invariant-loop-next l = record {
  last : shadow (Utf8 l.last);
  behind : shadow (Utf8 l.behind);
  taken : TakesOff (AreIn (λ c. c == colon)) (chars l.fn.text) (chars l.last);
  next : chars l.last ≡ colon ∷ chars l.behind;
}

abbrev pub decreases-loop-next : goal.decreases-loop-next
decreases-loop-next l = length (chars l.behind)
