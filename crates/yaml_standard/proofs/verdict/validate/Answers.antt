use Rattle.std.proofs.Common.{◌∙◌, ap, sym}
use Rattle.std.specs.Str.{chars}
use Rattle.yaml_standard.proofs.verdict.validate.Goals as goal

pub judge-requires : goal.judge-requires
judge-requires c = sym (c.has_return.ensures c.if-not-has_return.true)

pub judge-verdict-requires : goal.judge-verdict-requires
judge-verdict-requires c = ap chars c.as_str.ensures.value ∙ c.in_ok-lines.ensures
