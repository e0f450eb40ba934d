use Rattle.yaml_standard.proofs.LineDirectives.{other_name, reserved_name}
use Rattle.yaml_standard.proofs.directive.behind_reserved_name.Goals as goal

pub text_before-name-requires : goal.text_before-name-requires
text_before-name-requires c = (c.in_ok-rest.ensures.piece, c.in_ok-rest.ensures.cut)

pub returns : goal.returns
unfolding lib.Utf8.encode
returns c =
    let name = c.in_ok-rest.ensures in
    reserved_name _ _ _ name (c.text_before-name.ensures name.piece name.cut)
    (other_name _ _ _ c.eq.ensures c.if-eq.false) (other_name _ _ _ c.eq-2.ensures c.if-eq-2.false)
