use Rattle.std.proofs.Common.{length}
use Rattle.std.specs.Str.{chars}
use denote.Shadow.{shadow}
use denote.Text.{Utf8}
use Rattle.yaml_standard.specs.Documents.{ContinuesPrefix}
use Rattle.yaml_standard.proofs.document.behind_document_prefix.Given as goal

abbrev pub invariant-loop-behind : goal.invariant-loop-behind
invariant-loop-behind l = record {
  text : shadow (Utf8 l.rest);
  passed : ContinuesPrefix (chars l.fn.text) (chars l.rest);
}

abbrev pub decreases-loop-behind : goal.decreases-loop-behind
decreases-loop-behind l = length (chars l.rest)
