use Rattle.std.proofs.Common.{◌∙◌}
use Rattle.saphyr_input.proofs.Ring.{place_index}
use Rattle.saphyr_input.proofs.input.buffered.BufferedInputInput.peek_nth.Goals as goal

pub returns : goal.returns
returns g c =
    place_index c.copied.result c.args.self.now.ring.items _ c.args.n c.args.self.now.loaded _ c.unwrap_or.ensures
    (c.copied.ensures ∙ c.get.ensures) c.args.self.now.exhausted c.requires
