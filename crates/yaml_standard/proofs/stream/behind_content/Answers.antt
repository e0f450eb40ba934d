use Rattle.std.specs.Str.{chars}
use Rattle.std.proofs.lemmas.Result.{IfOk-at_ok}
use Rattle.yaml_standard.specs.declared.goal.Goal.TheVariants.{BlockNode}
use Rattle.yaml_standard.specs.Goals.{Closes}
use Rattle.yaml_standard.proofs.Documents.{content_taken}
use Rattle.yaml_standard.proofs.stream.behind_content.Goals as goal

pub returns-in-Ok : goal.returns-in-Ok
returns-in-Ok c =
    let closed = IfOk-at_ok (λ x. Closes (BlockNode c.place_of_content-place.result)
    (chars c.args.text.now) (chars x.now))
    c.in-Ok.is c.in_ok-read.ensures in
    content_taken _ _ _ _ c.place_of_content-place.ensures closed (c.is_one_document.ensures c.if-is_one_document.true)
