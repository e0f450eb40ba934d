use Rattle.std.specs.Str.{chars}
use denote.Shadow.{shadow}
use denote.Text.{Utf8}
use Rattle.yaml_standard.specs.Documents.{ContinuesDocuments}
use Rattle.yaml_standard.proofs.stream.read_documents.Given as goal

abbrev pub invariant-loop : goal.invariant-loop
invariant-loop l = record {
  text : shadow (Utf8 l.rest);
  continues : ContinuesDocuments l.fn.is_free (chars l.fn.text) l.free (chars l.rest);
}
