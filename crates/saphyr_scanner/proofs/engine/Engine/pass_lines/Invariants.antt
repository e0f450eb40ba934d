use Rattle.saphyr_scanner.specs.Views.Engine.{state}
use Rattle.saphyr_scanner.specs.Views.Lines.{PassesOn}
use Rattle.saphyr_scanner.proofs.engine.Engine.pass_lines.Given as goal

abbrev pub invariant-loop : goal.invariant-loop
invariant-loop g l = PassesOn (state l.fn.self) (state l.self)
