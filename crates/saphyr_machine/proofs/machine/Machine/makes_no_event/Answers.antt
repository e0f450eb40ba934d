use Rattle.std.proofs.Common.{[], ◌∷◌, refl, sym, subst, ◌∙◌}
use Rattle.saphyr_scanner.specs.declared.token.TokenKind.{TokenKind}
use Rattle.saphyr_scanner.specs.Views.Scanning.{tokens_in}
use Rattle.saphyr_scanner.specs.Views.Tokens.{piece_with}
use Rattle.saphyr_machine.specs.Passed.{MakeNoEvent}
use Rattle.saphyr_machine.specs.Views.Machines.{machine_in}
use Rattle.saphyr_machine.proofs.NoEvents.{directives_are_idle, marks_are_idle}
use Rattle.saphyr_machine.proofs.Passing.{next_in}
use Rattle.saphyr_machine.proofs.machine.Machine.makes_no_event.Goals as goal

pub returns-in_ok-peek-in-ReservedDirective-clause-none : goal.returns-in_ok-peek-in-ReservedDirective-clause-none
returns-in_ok-peek-in-ReservedDirective-clause-none g c = λ is more span x.
    let shown = c.in_ok-peek-in-ReservedDirective.ensures in
    let kind = c.in_ok-peek-in-ReservedDirective.field-0 in
    let next = next_in kind c.peek.new.self more shown.0 in
    subst (λ (k : TokenKind). MakeNoEvent (piece_with span k x ∷ []) (tokens_in more c.peek.new.self.scanner))
    (sym c.in-ReservedDirective.is)
    (directives_are_idle (machine_in more c.peek.new.self) next.2 (piece_with next.0 kind next.1) span x.text next.3
    (sym (c.is_directive.ensures next.1) ∙ is))

pub returns-in_default : goal.returns-in_default
returns-in_default g c = record {
  same = λ more. refl;
  none = λ is more span x.
      marks_are_idle (piece_with span c.args.kind x) (tokens_in more c.args.self.now.scanner)
      (sym (c.is_passable.ensures x) ∙ is);
}
