use Rattle.std.proofs.Common.{◌∙◌, ap}
use Rattle.saphyr_input.specs.Fronts as spec
use Rattle.saphyr_input.proofs.Ascii.{same_marker}
use Rattle.saphyr_input.proofs.input.str.text.is_marker.Goals as goal

pub returns : goal.returns
returns c =
    c.bytes_begin_with_marker.ensures ∙ ap (spec.is_marker c.args.mark) c.as_bytes.ensures.value
    ∙ same_marker c.args.mark c.args.text.now c.utf8.text c.requires.ascii c.requires.some
