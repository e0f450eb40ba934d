use Rattle.std.proofs.Common.{refl, arith}
use Rattle.saphyr_input.proofs.Listing.{pending_callable, pending_more, pending_first, pending_none}
use Rattle.saphyr_input.proofs.input.buffered.source.Source.next.Goals as goal

pub next-requires : goal.next-requires
next-requires g c = pending_callable g.I.Iterator.can_next g.I.Iterator.next_gives _ _ c.args.self.now.listed
    (omega arith)

pub invariant_of-self : goal.invariant_of-self
invariant_of-self g c = record {
  bounded = let h = c.args.self.now.bounded in omega arith;
  listed = pending_more g.I.Iterator.can_next g.I.Iterator.next_gives _ _ _ _ c.args.self.now.listed
      c.in-Some.ensures.steps;
}

pub returns-in-Some : goal.returns-in-Some
returns-in-Some g c = pending_first g.I.Iterator.can_next g.I.Iterator.next_gives _ _ _ _ c.args.self.now.listed _
    (omega arith) c.in-Some.ensures.steps

pub invariant_of-self-in-None : goal.invariant_of-self-in-None
invariant_of-self-in-None g c = record { bounded = omega arith; listed = tt }

pub returns-in-None : goal.returns-in-None
returns-in-None g c = (
  pending_none g.I.Iterator.can_next g.I.Iterator.next_gives _ _ _ c.args.self.now.listed c.in-None.ensures.steps,
  refl,
)
