use Rattle.saphyr_input.proofs.Ascii.{past_one}
use Rattle.saphyr_input.proofs.input.str.text.behind_ascii.Goals as goal

pub range_from-requires : goal.range_from-requires
range_from-requires c =
    let h = past_one c.args.text.now c.utf8.text c.requires.some c.requires.ascii in λ _. h.boundary

pub returns : goal.returns
returns c =
    let h = past_one c.args.text.now c.utf8.text c.requires.some c.requires.ascii in
    rw c.range_from.ensures.value h.rest
