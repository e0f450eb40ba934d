use Rattle.std.proofs.Common.{◌∙◌, sym}
use Rattle.std.proofs.lemmas.Option.{IfSome_then}
use Rattle.yaml_standard.proofs.Escapes.{escaped}
use Rattle.yaml_standard.proofs.percent.behind_escapes.Goals as goal

pub returns : goal.returns
returns c =
    IfSome_then c.behind_bytes.result c.behind_bytes.ensures
    (λ x t. escaped _ _ _ _ _ _ (sym c.is_scalar_value.ensures ∙ c.if-not-is_scalar_value.false) c.from.ensures
    c.as_bytes.ensures.value c.encode_utf8-encoded.ensures.value t)
