use Rattle.std.proofs.Common.{rules, codes}
use Rattle.std.proofs.lemmas.Str.Pattern.{ends_text}
use Rattle.yaml_check.proofs.folders.below.Goals as goal
use Rattle.yaml_check.proofs.folders.below.Goals.{then-not-ends_with+in_ok-push, else-not-ends_with}

pub returns : goal.returns
returns c =
    let slash = ends_text _ (codes "/") _ c.ends_with.ensures.cases in
    elim c.if-not-ends_with.branch [ then-not-ends_with+in_ok-push w ↦ search rules | else-not-ends_with w ↦ search rules ]
