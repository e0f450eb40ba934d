-- Directives are taken, one after the other.
use Rattle.std.proofs.Common.{◌≡◌, List, [], ℕ, Ok, rules, sym, subst, ◌∙◌}
use Rattle.saphyr_scalar.specs.Views.Reader.{Fails}
use Rattle.saphyr_scanner.specs.Views.Tokens.{piece_with}
use Rattle.saphyr_machine.specs.Steps.Machine.{Names}
use Rattle.saphyr_machine.specs.Steps.Documents.{directive_at, none_declared}
use Rattle.saphyr_machine.specs.Views.Machines.{machine_in, machine_of}
use Rattle.saphyr_machine.specs.Views.Documents.{declared_of}
use Rattle.saphyr_machine.proofs.Passing.{next_in, directs, directs_at, directives_end, directives_fail, keeps_prefixes, shorter_behind}
use Rattle.saphyr_machine.proofs.machine.Machine.directives.Goals as goal

pub returns-in_err-kind : goal.returns-in_err-kind
returns-in_err-kind g c =
    let failed = λ (more : List ℕ).
    directives_fail none_declared (declared_of c.loop-declared.declared c.loop-declared.self.prefixes)
    (machine_in more c.args.self.now) (machine_in more c.loop-declared.self) c.peek.new.self.scanner.stop
    (c.loop-declared.invariant more) (c.in_err-kind.ensures more) in
    search (rules, failed)

pub returns-then-not-is_directive : goal.returns-then-not-is_directive
returns-then-not-is_directive g c =
    let shown = c.in_ok-kind.ensures in (
      shown.0,
      λ more.
          let next = next_in c.in_ok-kind.kind c.peek.new.self more shown.0 in
          directives_end none_declared (declared_of c.loop-declared.declared c.loop-declared.self.prefixes)
          (machine_in more c.args.self.now) (machine_in more c.loop-declared.self) next.2
          (piece_with next.0 c.in_ok-kind.kind next.1) _ (c.loop-declared.invariant more)
          (shown.1 more ∙ next.3) (c.is_directive.ensures next.1) c.if-not-is_directive.true
          ∙ sym next.3,
    )

pub loop-declared-preserved : goal.loop-declared-preserved
loop-declared-preserved g c more =
    let shown = c.in_ok-kind.ensures in
    let next = next_in c.in_ok-kind.kind c.peek.new.self more shown.0 in
    let t = piece_with next.0 c.in_ok-kind.kind next.1 in
    let is = sym (c.is_directive.ensures next.1) ∙ c.if-not-is_directive.false in
    let made = rw c.in_ok-directive.was at (c.directive.ensures more t next.2 next.3 is) in
    directs none_declared (declared_of c.loop-declared.declared c.loop-declared.self.prefixes)
    (declared_of c.directive.new.declared c.directive.new.self.prefixes)
    (machine_in more c.args.self.now) (machine_in more c.loop-declared.self) next.2
    (machine_in more c.directive.new.self) t _ (c.loop-declared.invariant more) (shown.1 more ∙ next.3)
    (c.is_directive.ensures next.1)
    c.if-not-is_directive.false
    (subst (λ (p : Names (List ℕ)). directive_at t.kind t (declared_of c.loop-declared.declared p) next.2
    ≡ Ok (declared_of c.directive.new.declared c.directive.new.self.prefixes, machine_in more c.directive.new.self))
    (keeps_prefixes (machine_in more c.loop-declared.self) (machine_in more c.peek.new.self) next.2 t (shown.1 more)
    next.3) made)

pub loop-declared-smaller : goal.loop-declared-smaller
loop-declared-smaller g c =
    let shown = c.in_ok-kind.ensures in
    let next = next_in c.in_ok-kind.kind c.peek.new.self [] shown.0 in
    let t = piece_with next.0 c.in_ok-kind.kind next.1 in
    let is = sym (c.is_directive.ensures next.1) ∙ c.if-not-is_directive.false in
    let made = rw c.in_ok-directive.was at (c.directive.ensures [] t next.2 next.3 is) in
    shorter_behind (machine_of c.loop-declared.self) next.2 (machine_of c.directive.new.self) t
    (declared_of c.loop-declared.declared c.peek.new.self.prefixes)
    (declared_of c.directive.new.declared c.directive.new.self.prefixes)
    (shown.1 [] ∙ next.3) made

pub returns-in_err-directive : goal.returns-in_err-directive
returns-in_err-directive g c =
    let shown = c.in_ok-kind.ensures in
    let failed = λ (more : List ℕ).
    let next = next_in c.in_ok-kind.kind c.peek.new.self more shown.0 in
    let t = piece_with next.0 c.in_ok-kind.kind next.1 in
    let is = sym (c.is_directive.ensures next.1) ∙ c.if-not-is_directive.false in
    let refused = rw c.in_err-directive.was at (c.directive.ensures more t next.2 next.3 is) in
    directs_at none_declared (declared_of c.loop-declared.declared c.loop-declared.self.prefixes)
    (machine_in more c.args.self.now) (machine_in more c.loop-declared.self) next.2 t _
    c.directive.new.self.scanner.stop (c.loop-declared.invariant more) (shown.1 more ∙ next.3)
    (c.is_directive.ensures next.1) c.if-not-is_directive.false
    (subst (λ (p : Names (List ℕ)). Fails c.directive.new.self.scanner.stop
    (directive_at t.kind t (declared_of c.loop-declared.declared p) next.2))
    (keeps_prefixes (machine_in more c.loop-declared.self) (machine_in more c.peek.new.self) next.2 t
    (shown.1 more) next.3) refused) in
    search (rules, failed)
