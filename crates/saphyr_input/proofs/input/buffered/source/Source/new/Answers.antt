use Rattle.saphyr_input.proofs.Listing.{pending_is}
use Rattle.saphyr_input.proofs.input.buffered.source.Source.new.Goals as goal

pub returns : goal.returns
returns g c = λ xs h. pending_is g.I.Iterator.can_next g.I.Iterator.next_gives _ _ _ xs h
