use Rattle.std.proofs.Common.{◌≡◌, length}
use Rattle.std.specs.Str.{chars}
use denote.Shadow.{shadow}
use denote.Text.{Utf8}
use Rattle.yaml_standard.specs.Leads.{is_word_behind_tabs}
use Rattle.yaml_standard.proofs.lead.is_word_behind_tabs.Given as goal

abbrev pub invariant-loop-c : goal.invariant-loop-c
invariant-loop-c l = record {
  text : shadow (Utf8 l.rest);
  same : is_word_behind_tabs (chars l.fn.text) ≡ is_word_behind_tabs (chars l.rest);
}

abbrev pub decreases-loop-c : goal.decreases-loop-c
decreases-loop-c l = length (chars l.rest)
