use Rattle.std.proofs.Common.{rules}
use Rattle.std.specs.Str.{chars}
use Rattle.std.proofs.lemmas.Result.{IfOk-at_ok}
use Rattle.yaml_standard.specs.Documents.{IsSomeDocument}
use Rattle.yaml_standard.specs.Takes.{TakesBefore}
use Rattle.yaml_standard.proofs.Documents.{documents_begin, documents_continue, documents_end}
use Rattle.yaml_standard.proofs.stream.read_documents.Goals as goal

pub loop-init : goal.loop-init
loop-init c = record { text = search rules; continues = documents_begin _ _ }

pub loop-preserved : goal.loop-preserved
loop-preserved c =
    let document = IfOk-at_ok
    (λ x. TakesBefore (IsSomeDocument c.loop.free) (chars c.behind_filler-document.result.now) (chars x.now)) c.in-Ok.is
    c.in_ok-read.ensures in
    record {
      text = search rules;
      continues = documents_continue _ _ _ _ _ _ _ _ c.loop.invariant.continues
          c.behind_filler-document.ensures document
          c.next_place-place.ensures;
    }

pub returns-then-is_last_filler : goal.returns-then-is_last_filler
returns-then-is_last_filler c =
    λ _. documents_end _ _ _ _ c.loop.invariant.continues (c.is_last_filler.ensures c.if-is_last_filler.true)
