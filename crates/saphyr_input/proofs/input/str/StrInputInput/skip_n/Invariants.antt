use Rattle.std.proofs.Common.{◌≡◌, ◌+◌, ◌≤◌, drop}
use Rattle.std.specs.Str.{chars}
use Rattle.saphyr_input.proofs.input.str.StrInputInput.skip_n.Given as goal

abbrev pub invariant-loop : goal.invariant-loop
invariant-loop l = record {
  rest : chars l.self.rest.now ≡ drop l.counter (chars l.fn.self.rest.now);
  loaded : l.fn.self.loaded ≤ l.self.loaded + l.counter;
}
