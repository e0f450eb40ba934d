use Rattle.yaml_standard.proofs.TagDirectives.{tag_prefix_taken}
use Rattle.yaml_standard.proofs.directive.tag_prefix.Goals as goal

pub text_before-requires : goal.text_before-requires
text_before-requires c = (c.in_ok-second.ensures.piece, c.in_ok-second.ensures.cut)

pub returns : goal.returns
returns c =
    let handle = c.in_ok-second.ensures in
    tag_prefix_taken _ _ _ _ _ _ _ c.in_ok-blanks.ensures c.in_ok-handle.ensures handle
    (c.text_before.ensures handle.piece handle.cut) c.in_ok-prefix.ensures c.in_ok-rest.ensures
