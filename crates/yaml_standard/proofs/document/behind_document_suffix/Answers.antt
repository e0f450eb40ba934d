use Rattle.yaml_standard.proofs.Documents.{suffix_taken}
use Rattle.yaml_standard.proofs.document.behind_document_suffix.Goals as goal

pub returns : goal.returns
returns c = suffix_taken _ _ _ c.in_ok-rest.ensures c.behind_document_prefix.ensures
