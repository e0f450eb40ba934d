use Rattle.std.proofs.Common.{◌∙◌}
use Rattle.saphyr_input.proofs.Ring.{place_get}
use Rattle.saphyr_input.proofs.input.buffered.BufferedInputInput.peek_opt.Goals as goal

pub returns : goal.returns
returns g c =
    place_get c.copied.result c.args.self.now.ring.items _ 0 c.args.self.now.loaded (c.copied.ensures ∙ c.front.ensures)
    c.args.self.now.exhausted c.requires
