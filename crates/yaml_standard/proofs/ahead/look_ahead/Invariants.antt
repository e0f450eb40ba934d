use Rattle.std.proofs.Common.{◌≡◌, ℕ, false, length}
use Rattle.std.specs.Prelude.{IsFalse}
use Rattle.std.specs.Str.{chars}
use denote.Shadow.{shadow}
use denote.Text.{Utf8}
use Rattle.yaml_laws.specs.Grammar.BlockNodes.{has_tab_ahead, is_value_ahead}
use Rattle.yaml_laws.specs.Grammar.FlowNodes.{has_tab_outside}
use Rattle.yaml_standard.proofs.ahead.look_ahead.Given as goal

abbrev pub invariant-loop-c : goal.invariant-loop-c
invariant-loop-c l = record {
  text : shadow (Utf8 l.rest);
  no_tab : IsFalse l.has_tab → has_tab_ahead false (chars l.fn.text) ≡ has_tab_ahead l.in_comment (chars l.rest);
  no_tab_at_all : IsFalse l.has_tab
      → has_tab_outside false (chars l.fn.text) ≡ has_tab_outside l.in_comment (chars l.rest);
  value : (m : ℕ)
      → is_value_ahead false m 0 (chars l.fn.text) ≡ is_value_ahead l.in_comment m l.column (chars l.rest);
}

abbrev pub decreases-loop-c : goal.decreases-loop-c
decreases-loop-c l = length (chars l.rest)
