use Rattle.std.proofs.Common.{◌≡◌, true, rules, refl, ap, ◌∙◌}
use Rattle.saphyr_scanner.specs.Views.Engine.{state}
use Rattle.saphyr_scanner.specs.Views.Scanning.{Scanning, is_growing, tokens_in}
use Rattle.saphyr_scanner.proofs.Ahead.LinesPassed.{lines_passed}
use Rattle.saphyr_scanner.proofs.scanner.Scanner.pass_lines.Goals as goal

pub returns : goal.returns
returns g c = λ passed more.
    let grows : is_growing c.self.inside.growth ≡ true = search rules in
    let old : Scanning = record {
      state = state c.self.inside.engine;
      limit = c.self.inside.limit;
      growth = c.self.inside.growth;
      stop = c.self.inside.engine.stop;
    } in
    let new : Scanning = record old { state = state c.pass_lines.new.self; stop = c.pass_lines.new.self.stop } in
    let between = c.if-not-is_between.ensures in
    lines_passed c.takes_characters_off.ensures old new (state c.pass_lines.new.self) grows (between.free refl)
    (between.started refl) (between.needed refl) refl (c.pass_lines.ensures passed) more
    ∙ ap (tokens_in more) c.self.view_is
