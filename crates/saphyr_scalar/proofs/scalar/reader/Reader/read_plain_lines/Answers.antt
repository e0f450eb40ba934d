use Rattle.saphyr_scalar.proofs.Common.{◌≡◌, length, string_bytes, ap, rules, subst, Result, Refusal, ◌>>=◌, cursor_of, Moves}
use Rattle.saphyr_scalar.specs.Steps.Plain as spec
use Rattle.saphyr_scalar.proofs.Plain.BehindGaps.{onto_refused, lines_cut, behind_gap_read}
use Rattle.saphyr_scalar.proofs.Plain.Pieces.{plain_behind_gap, moves_failed}
use Rattle.saphyr_scalar.proofs.scalar.reader.Reader.read_plain_lines.Goals as goal

pub returns-in_err-tabbed : goal.returns-in_err-tabbed
returns-in_err-tabbed g c =
    let text = string_bytes c.args.text.now in
    moves_failed _ _ _ _ _ c.from_residual.ensures.1 c.in_err-tabbed.ensures
    (λ r h. ap (λ (x : Result spec.PlainGap Refusal). spec.with_text text
    (x >>= plain_behind_gap c.args.in_flow c.args.indent c.args.start c.args.mark)) (onto_refused text _ r h))

pub read_plain_behind-requires : goal.read_plain_behind-requires
read_plain_behind-requires g c =
    let len : c.len-len.result ≡ length (string_bytes c.args.text.now) = search rules in
    lines_cut c.args.indent c.args.start (string_bytes c.args.text.now) _ (cursor_of c.args.self.now)
    (cursor_of c.read_folded_lines.new.self) _ _ c.in_ok-tabbed.ensures len

pub returns : goal.returns
returns g c =
    let len : c.len-len.result ≡ length (string_bytes c.args.text.now) = search rules in
    let f = c.args.in_flow in
    let i = c.args.indent in
    let start = c.args.start in
    let s = cursor_of c.args.self.now in
    let same = behind_gap_read f i start c.args.mark (string_bytes c.args.text.now) _ (spec.next_lines i start s) _
    (cursor_of c.read_folded_lines.new.self) _ c.in_ok-tabbed.ensures len in
    subst (λ (r : spec.PlainScalarRead). Moves (λ x. spec.seen_plain_end x
    (string_bytes c.read_plain_behind.new.text) (cursor_of c.read_plain_behind.new.self))
    c.read_plain_behind.result r) same c.read_plain_behind.ensures
