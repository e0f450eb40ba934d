use Rattle.std.proofs.lemmas.Option.{IfSome_then}
use Rattle.yaml_standard.proofs.Leaves.{plain_key_and_colon}
use Rattle.yaml_standard.proofs.leaf.behind_plain_key_and_colon.Goals as goal

pub returns : goal.returns
returns c =
    IfSome_then c.strip.result c.strip.ensures
    (λ x e. plain_key_and_colon _ _ _ _ _ _ _ c.behind_front-content.ensures c.in_ok-key.ensures
    (c.fits.ensures c.if-not-fits.false) e)
