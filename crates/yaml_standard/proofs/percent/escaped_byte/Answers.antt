use Rattle.yaml_standard.proofs.Escapes.{byte_taken}
use Rattle.yaml_standard.proofs.percent.escaped_byte.Goals as goal

pub returns : goal.returns
returns c =
    byte_taken _ _ _ _ _ _ _ _ c.in_ok-digits.ensures c.in_ok-high.ensures.some c.in_ok-low.ensures.some
    (c.is_hex.ensures.set.0 c.if-not-is_hex.false) (c.is_hex-2.ensures.set.0 c.if-not-is_hex-2.false)
    c.as_hex.ensures.value
    c.as_hex-2.ensures.value
