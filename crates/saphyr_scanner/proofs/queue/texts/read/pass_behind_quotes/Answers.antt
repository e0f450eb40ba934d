-- Mostly an indicator comes right after the scalar.
use Rattle.std.proofs.Common.{ap, sym, ◌∙◌}
use Rattle.saphyr_scalar.specs.Views.Reader.{cursor_of}
use Rattle.saphyr_scanner.specs.Views.Reads.{behind_quoted}
use Rattle.saphyr_scanner.proofs.Ahead.QuotedEnds.{separated_at_end}
use Rattle.saphyr_scanner.proofs.queue.texts.read.pass_behind_quotes.Goals as goal

pub returns-then-is_at_end : goal.returns-then-is_at_end
returns-then-is_at_end g c =
    ap (behind_quoted c.args.in_block c.args.line) (sym c.look-c.ensures.same)
    ∙ separated_at_end c.args.in_block c.args.line (cursor_of c.look-c.new.self) (sym c.if-is_at_end.ensures)
