-- Block collections end: they are left one after the other, and their ends are put into the queue together.
use Rattle.std.proofs.Common.{rules, sym, ap, arith, ◌∙◌, Ok}
use Rattle.std.proofs.lemmas.List.{length-reverse}
use Rattle.saphyr_scanner.specs.Steps.Unrolling.{unroll}
use Rattle.saphyr_scanner.specs.Views.Engine.{state, core}
use Rattle.saphyr_scanner.proofs.Blocks.{none_ends, others_end, few_ends, fewer_end, holds}
use Rattle.saphyr_scanner.proofs.engine.Engine.unroll.Goals as goal

pub returns-then-not-in_block : goal.returns-then-not-in_block
unfolding unroll
returns-then-not-in_block g c = search rules

pub loop-column-init : goal.loop-column-init
unfolding unroll
loop-column-init g c =
    let indents = c.go_less_deep.new.self.outer_indents in
    let few = few_ends c.args.column (state c.go_less_deep.new.self) in
    let same = length-reverse indents.items in
    let counted = indents.ok in
    let small = indents.small in
    (search rules, omega (arith, few, same, counted, small))

pub loop-column-smaller : goal.loop-column-smaller
loop-column-smaller g c =
    fewer_end c.args.column (state c.loop-column.self) (state c.leave_block.new.self)
    (sym c.is_right_of.ensures ∙ c.loop-column-test.true) c.leave_block.ensures

pub overflow_add-count : goal.overflow_add-count
overflow_add-count g c =
    let less = fewer_end c.args.column (state c.loop-column.self) (state c.leave_block.new.self)
    (sym c.is_right_of.ensures ∙ c.loop-column-test.true) c.leave_block.ensures in
    let few = c.loop-column.invariant.1 in
    omega (arith, less, few)

pub loop-column-preserved : goal.loop-column-preserved
loop-column-preserved g c =
    let right = sym c.is_right_of.ensures ∙ c.loop-column-test.true in
    let less = fewer_end c.args.column (state c.loop-column.self) (state c.leave_block.new.self) right
    c.leave_block.ensures in
    let few = c.loop-column.invariant.1 in (
      others_end c.args.column c.args.mark c.loop-column.count (state c.loop-column.self)
          (state c.leave_block.new.self) _ right c.leave_block.ensures c.loop-column.invariant.0,
      omega (arith, less, few),
    )

pub returns : goal.returns
returns g c =
    ap Ok (sym c.loop-column.invariant.0
    ∙ none_ends c.args.column c.args.mark _ _
    (sym c.is_right_of.ensures ∙ c.loop-column-test.false)
    ∙ ap (holds (core c.loop-column.self)) (sym (rw c.in_ok-keep.ensures at c.put_block_ends.ensures)))
