use Rattle.std.proofs.Common.{rules, codes}
use Rattle.std.proofs.lemmas.Str.Pattern.{ends_text}
use Rattle.yaml_check.proofs.folders.is_taken.Goals as goal

pub returns-else-ends_with : goal.returns-else-ends_with
returns-else-ends_with c =
    let yaml = ends_text _ (codes ".yaml") _ c.ends_with.ensures.cases in
    let yml = ends_text _ (codes ".yml") _ c.ends_with-else-ends_with.ensures.cases in
    search rules
