use Rattle.yaml_standard.proofs.Leaves.{key_and_colon}
use Rattle.yaml_standard.proofs.leaf.behind_key_and_colon.Goals as goal

pub returns : goal.returns
returns c =
    key_and_colon _ _ _ _ _ _ _ _ _ c.in_ok-class.ensures c.in_ok-colon.ensures
    (c.fits.ensures c.if-not-fits.false) c.in_ok-rest.ensures c.is_quoted.ensures
