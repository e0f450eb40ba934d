-- What is told of a file.
use Rattle.std.specs.Prelude.{ℕ, List, codes}
use Rattle.saphyr_parser.specs.Words.Span.{Span}
use Rattle.yaml_check.specs.declared.finding.Severity.{Severity}
use Rattle.yaml_check.specs.declared.finding.Severity.TheVariants as severity

-- a part of the text, how bad it is, the name of the rule, and a sentence
pub record ToldSeen : Type 0 where
  pub span : Span
  pub severity : Severity
  pub rule : List ℕ
  pub message : List ℕ

abbrev pub severity_word : Severity → List ℕ
severity_word severity.Error = codes "error"
severity_word severity.Warning = codes "warning"
severity_word severity.Note = codes "note"
