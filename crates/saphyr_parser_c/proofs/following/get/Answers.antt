use Rattle.std.proofs.Common.{Bool, Some, subst}
use Rattle.saphyr_parser_c.specs.Followed.{IsKey}
use Rattle.saphyr_parser_c.proofs.Followed.{followed_there, gets_none, gets_value, none_more}
use Rattle.saphyr_parser_c.proofs.following.get.Goals as goal

pub returns : goal.returns
returns c = (
  Some c.in_ok-whole.whole,
  c.in_ok-whole.ensures,
  λ es t. gets_none c.args.table.now c.args.key.now c.in_ok-whole.whole c.count-index-end.result c.loop-index.index
      c.loop-index.invariant c.loop-index-test.false c.count-index-end.ensures.counts es t
      (followed_there es c.args.table.now c.args.number c.in_ok-whole.whole t c.in_ok-whole.ensures),
)

pub returns-then-has_key : goal.returns-then-has_key
returns-then-has_key c = (
  Some c.in_ok-whole.whole,
  c.in_ok-whole.ensures,
  λ es t. gets_value c.args.table.now c.args.key.now c.in_ok-whole.whole c.loop-index.index c.count-index-end.result
      c.part.result c.loop-index-test.true c.loop-index.invariant
      (λ es own t at. subst (λ (b : Bool). IsKey es c.args.key.now own c.in_ok-whole.whole c.loop-index.index b)
      c.if-has_key.true (c.has_key.ensures es own t at))
      c.count-index-end.ensures.counts c.part.ensures.leads es t
      (followed_there es c.args.table.now c.args.number c.in_ok-whole.whole t c.in_ok-whole.ensures),
)

pub loop-index-preserved : goal.loop-index-preserved
loop-index-preserved c = none_more c.args.table.now c.args.key.now c.in_ok-whole.whole c.loop-index.index
    c.loop-index.invariant
    (λ es own t at. subst (λ (b : Bool). IsKey es c.args.key.now own c.in_ok-whole.whole c.loop-index.index b)
    c.if-has_key.false (c.has_key.ensures es own t at))
