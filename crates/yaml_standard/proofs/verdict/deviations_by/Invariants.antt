use Rattle.std.proofs.Common.{◌≤◌}
use Rattle.std.specs.Prelude.{All}
use Rattle.std.specs.Str.{chars}
use Rattle.yaml_standard.specs.declared.verdict.Deviation.{Deviation}
use Rattle.yaml_standard.specs.Places.{IsHere}
use Rattle.yaml_standard.specs.Verdicts.{AreDeviations}
use Rattle.yaml_standard.proofs.verdict.deviations_by.Given as goal

abbrev pub invariant-loop-i : goal.invariant-loop-i
invariant-loop-i l = record {
  here : IsHere (chars l.fn.text) l.here.mark (chars l.here.rest.now);
  found : AreDeviations (chars l.fn.text) l.i l.found.items;
  passed : All (λ (d : Deviation). d.place.index ≤ l.here.mark.index) l.found.items;
}
