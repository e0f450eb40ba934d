use Rattle.std.proofs.Common.{◌≤◌, ℕ, List}
use Rattle.std.specs.Str.{chars}
use Rattle.yaml_standard.specs.Places.{IsHere}
use Rattle.yaml_standard.proofs.place.Here.behind.Given as goal

abbrev pub invariant-loop : goal.invariant-loop
invariant-loop l = record {
  here : (text : List ℕ) → IsHere text l.fn.self.mark (chars l.fn.self.rest.now)
      → IsHere text l.here.mark (chars l.here.rest.now);
  later : l.fn.self.mark.index ≤ l.here.mark.index;
}
