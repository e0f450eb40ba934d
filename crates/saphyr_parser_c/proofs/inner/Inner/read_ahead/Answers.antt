use Rattle.std.proofs.Common.{refl}
use Rattle.saphyr_parser_c.proofs.Handing.{same_lent}
use Rattle.saphyr_parser_c.proofs.NextDocument.{kept_text, text_stays}
use Rattle.saphyr_parser_c.proofs.inner.Inner.read_ahead.Goals as goal

pub returns-then-self-clause-stays : goal.returns-then-self-clause-stays
returns-then-self-clause-stays c = record {
  text = text_stays c.args.self.now.source;
  trees = (refl, refl);
}

pub returns-in_default-next_into-clause-stays : goal.returns-in_default-next_into-clause-stays
returns-in_default-next_into-clause-stays c = record {
  text = kept_text c.args.self.now.source c.in-Pieces.coming _ c.in-Pieces.is
      (same_lent c.deref_mut.result.now c.in-Pieces.coming.value c.next_into.new.self c.deref_mut.ensures.value
      c.next_into.ensures.same);
  trees = (refl, refl);
}

pub returns-clause-stays : goal.returns-clause-stays
returns-clause-stays c = record {
  text = kept_text c.args.self.now.source c.in-Pieces.coming _ c.in-Pieces.is
      (same_lent c.deref_mut.result.now c.in-Pieces.coming.value c.next_into.new.self c.deref_mut.ensures.value
      c.next_into.ensures.same);
  trees = (refl, refl);
}
