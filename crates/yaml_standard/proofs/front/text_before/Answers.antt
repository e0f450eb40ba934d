use Rattle.std.proofs.Common.{◌∙◌}
use Rattle.yaml_standard.proofs.Fronts.{piece_front, from_start}
use Rattle.yaml_standard.proofs.front.text_before.Goals as goal

pub overflow_sub-text : goal.overflow_sub-text
overflow_sub-text c = (piece_front _ _ c.requires.0 c.utf8.text c.utf8.rest c.requires.1).fits

pub range-requires-clause-end_boundary : goal.range-requires-clause-end_boundary
range-requires-clause-end_boundary c = (piece_front _ _ c.requires.0 c.utf8.text c.utf8.rest c.requires.1).boundary

pub returns : goal.returns
returns c =
    λ piece e. c.range.ensures.value ∙ from_start _ _ ∙ (piece_front _ _ piece c.utf8.text c.utf8.rest e).front
