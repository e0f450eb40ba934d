use Rattle.std.proofs.Common.{ℕ, ◌∙◌, sym, ap, lit≤}
use Rattle.circular_buffer.specs.Buffer.{Buffer}
use Rattle.saphyr_input.specs.Classes.{is_yaml_non_break}
use Rattle.saphyr_input.proofs.Ring.{one_first, one_behind, put_back, put_back_rest, one_held, one_not_short, none_short}
use Rattle.saphyr_input.proofs.input.buffered.BufferedInputInput.raw_read_non_breakz_ch.Goals as goal

pub invariant_of-self : goal.invariant_of-self
invariant_of-self g c = record {
  capacity = c.args.self.now.capacity;
  within = c.args.self.now.within;
  held = c.args.self.now.held;
  exhausted = λ _. c.in_err-c.ensures.1;
}

pub invariant_of-self-then-is_yaml_non_break : goal.invariant_of-self-then-is_yaml_non_break
invariant_of-self-then-is_yaml_non_break g c = record {
  capacity = c.args.self.now.capacity;
  within = c.args.self.now.within;
  held = c.args.self.now.held;
  exhausted = λ less. absurd (none_short _ _ c.requires less);
}

pub returns-then-is_yaml_non_break-clause-taken : goal.returns-then-is_yaml_non_break-clause-taken
returns-then-is_yaml_non_break-clause-taken g c =
    sym c.if-is_yaml_non_break.true ∙ c.is_yaml_non_break.ensures.test
    ∙ ap is_yaml_non_break
    (one_first c.args.self.now.ring.items _ _ _ _ c.args.self.now.held c.requires c.in_ok-c.ensures)

pub returns-then-is_yaml_non_break-clause-some : goal.returns-then-is_yaml_non_break-clause-some
returns-then-is_yaml_non_break-clause-some g c = (
  one_first c.args.self.now.ring.items _ _ _ _ c.args.self.now.held c.requires c.in_ok-c.ensures,
  one_behind c.args.self.now.ring.items _ _ _ _ c.args.self.now.held c.requires c.in_ok-c.ensures,
  c.requires,
)

pub invariant_of-self-2 : goal.invariant_of-self-2
invariant_of-self-2 g c =
    let ring = c.args.self.now.ring in
    let held = put_back ring c.push_back.new.self _ c.in_ok-c.c c.args.self.now.held c.requires c.args.self.now.capacity
    c.push_back.ensures.items in
    record {
      capacity = ap (λ (b : Buffer ℕ). b.capacity) c.push_back.ensures.items ∙ c.args.self.now.capacity;
      within = lit≤ tt;
      held = one_held c.push_back.new.self.items c.in_ok-c.c held;
      exhausted = λ less. absurd (one_not_short c.push_back.new.self.items c.in_ok-c.c held less);
    }

pub returns-clause-none : goal.returns-clause-none
returns-clause-none g c =
    let held = put_back c.args.self.now.ring c.push_back.new.self _ c.in_ok-c.c c.args.self.now.held c.requires
    c.args.self.now.capacity c.push_back.ensures.items in (
      put_back_rest c.args.self.now.ring.items _ _ _ _ _ c.args.self.now.held c.requires c.in_ok-c.ensures held,
      lit≤ tt,
    )

pub returns-clause-taken : goal.returns-clause-taken
returns-clause-taken g c =
    sym c.if-is_yaml_non_break.false ∙ c.is_yaml_non_break.ensures.test
    ∙ ap is_yaml_non_break
    (one_first c.args.self.now.ring.items _ _ _ _ c.args.self.now.held c.requires c.in_ok-c.ensures)
