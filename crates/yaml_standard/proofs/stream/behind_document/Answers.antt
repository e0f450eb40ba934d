use Rattle.std.specs.Str.{chars}
use Rattle.std.proofs.lemmas.Option.{MatchOption-at_some}
use Rattle.yaml_standard.specs.Documents.{IsFront}
use Rattle.yaml_standard.specs.Takes.{TakesOff}
use Rattle.yaml_standard.proofs.Documents.{bare_taken, both_ok, explicit_taken}
use Rattle.yaml_standard.proofs.stream.behind_document.Goals as goal

pub returns-in-Some : goal.returns-in-Some
returns-in-Some c =
    let front = MatchOption-at_some (Unit {0})
    (λ x. TakesOff (IsFront c.args.free) (chars c.args.text.now) (chars x.now)) _ c.in-Some.is
    c.in_ok-found.ensures in
    both_ok c.behind_content.result _ _ (λ x h. explicit_taken _ _ _ _ front h) c.behind_content.ensures

pub returns-in-None : goal.returns-in-None
returns-in-None c =
    both_ok c.behind_content-in-None.result _ _ (λ x h. bare_taken _ _ _ c.if-free.true h)
    c.behind_content-in-None.ensures
