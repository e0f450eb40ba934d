use Rattle.std.proofs.Common.{ap, arith, length}
use Rattle.yaml_tree.specs.declared.walk.Visit.{Visit}
use Rattle.yaml_tree.proofs.Walks.{passes_end, visits_node, ends_without_spans, none_left}
use Rattle.yaml_tree.proofs.walk.WalkIterator.next.Goals as goal

pub loop-span-preserved : goal.loop-span-preserved
loop-span-preserved c =
    let given = ap (λ r. r.now) c.in-Ok-Leave.ensures.spans in (
      passes_end c.args.self.now c.loop-span.self c.turn.new.self c.in-Some.span.now c.in-Some.others.now
          c.loop-span.invariant.0 (rw c.in-Ok-Leave.field-0-is at c.in-Ok-Leave.ensures.turns)
          (rw c.in-Ok-Leave.field-0-is at c.in-Ok-Leave.ensures.within)
          c.in-Some.ensures.cases.0 given,
      omega (arith, ap length given, ap length c.in-Some.ensures.cases.0, c.loop-span.invariant.1),
    )

pub returns-clause-steps : goal.returns-clause-steps
returns-clause-steps c = (
  ends_without_spans c.args.self.now c.loop-span.self c.loop-span.invariant.0 c.in_default.ensures.cases,
  none_left c.loop-span.self.spans.now c.in_default.ensures.cases,
)

pub returns-in-Ok-Enter-clause-steps : goal.returns-in-Ok-Enter-clause-steps
returns-in-Ok-Enter-clause-steps c =
    let visit : Visit =
    record { node = c.in-Ok-Enter.node; span = c.in-Some.span.now; depth = c.in-Ok-Enter.depth } in
    visits_node c.args.self.now c.loop-span.self c.turn.new.self visit c.in-Some.others.now c.loop-span.invariant.0
    (rw c.in-Ok-Enter.field-0-is at c.in-Ok-Enter.ensures.turns)
    (rw c.in-Ok-Enter.field-0-is at c.in-Ok-Enter.ensures.within) c.in-Some.ensures.cases.0
    (ap (λ r. r.now) c.in-Ok-Enter.ensures.spans)
