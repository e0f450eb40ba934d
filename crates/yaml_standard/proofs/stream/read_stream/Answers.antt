use Rattle.std.proofs.lemmas.Result.{IfOk-weaker}
use Rattle.yaml_standard.proofs.Documents.{stream_begins}
use Rattle.yaml_standard.proofs.stream.read_stream.Goals as goal

pub returns : goal.returns
returns c =
    IfOk-weaker c.read_documents.result _ _
    (λ stuck further ended. stream_begins _ _ c.behind_document_prefix-first.ensures (further ended))
    c.read_documents.ensures
