use Rattle.std.specs.Prelude.{IfSome}
use Rattle.yaml_standard.specs.Leads.{IsWhatComes}
use Rattle.std.proofs.Common.{ℕ, List}
use Rattle.std.specs.Str.{chars}
use denote.Text.{Utf8}
use denote.Shadow.{shadow}
use Rattle.yaml_standard.specs.Goals.{Close, Closes}
use Rattle.yaml_standard.proofs.walk.close.Given as goal

abbrev pub invariant-loop : goal.invariant-loop
invariant-loop l = record {
  text : shadow (Utf8 l.rest);
  ahead : IfSome l.ahead (λ a. IsWhatComes a (chars l.rest));
  closes : (end : List ℕ) → Close l.goals.items (chars l.rest) end → Closes l.fn.goal (chars l.fn.text) end;
}
