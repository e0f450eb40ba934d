use Rattle.saphyr_input.proofs.Listing.{skipped_more}
use Rattle.saphyr_input.proofs.Ring.{loaded_on}
use Rattle.saphyr_input.proofs.input.buffered.BufferedInputInput.skip_n.Goals as goal

pub loop-preserved : goal.loop-preserved
loop-preserved g c = record {
  rest = skipped_more _ _ _ c.loop.counter c.loop.invariant.rest c.skip.ensures.rest;
  loaded = loaded_on _ c.loop.self.loaded _ c.loop.counter c.loop.invariant.loaded c.skip.ensures.loaded;
}
