use Rattle.saphyr_scalar.proofs.Common.{string_bytes, rules, cursor_of}
use Rattle.saphyr_scalar.proofs.Plain.BehindGaps.{next_lines_with_feeds, next_lines_without_feed, lines_refused}
use Rattle.saphyr_scalar.proofs.Plain.Pieces.{moves_failed}
use Rattle.saphyr_scalar.proofs.scalar.reader.Reader.read_folded_lines.Goals as goal

pub returns-in_err-tabbed : goal.returns-in_err-tabbed
returns-in_err-tabbed g c =
    moves_failed _ _ _ _ _ c.from_residual.ensures.1 c.in_err-tabbed.ensures
    (λ r h. lines_refused c.args.indent c.args.start (string_bytes c.args.text.now) (cursor_of c.args.self.now) r h)

pub returns-then-len-before : goal.returns-then-len-before
returns-then-len-before g c =
    next_lines_with_feeds c.args.indent c.args.start (string_bytes c.args.text.now) _ _ (cursor_of c.args.self.now)
    (cursor_of c.skip_empty_lines.new.self) c.in_ok-tabbed.ensures (search rules)

pub returns : goal.returns
returns g c =
    next_lines_without_feed c.args.indent c.args.start (string_bytes c.args.text.now) _ _ _ (cursor_of c.args.self.now)
    (cursor_of c.skip_empty_lines.new.self) c.in_ok-tabbed.ensures (search rules) c.in_ok-push.ensures.bytes
