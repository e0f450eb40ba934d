use Rattle.saphyr_input.proofs.Listing.{pending_clone, pending_of_clone}
use Rattle.saphyr_input.proofs.input.buffered.source.SourceClone.clone.Goals as goal

pub returns : goal.returns
returns g c =
    record {
      cases = pending_clone g.I.Iterator.can_next g.I.Iterator.next_gives _ _ _ c.args.self.now.listed _
          (g.met.I.FaithfulClone.faithful _ _ c.in_ok-iter.ensures.cases);
    }

pub invariant_of-result : goal.invariant_of-result
invariant_of-result g c = record {
  bounded = c.args.self.now.bounded;
  listed = pending_of_clone g.I.Iterator.can_next g.I.Iterator.next_gives _ _ _ c.args.self.now.listed
      (g.met.I.FaithfulClone.faithful _ _ c.in_ok-iter.ensures.cases);
}
