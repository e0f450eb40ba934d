use Rattle.saphyr_scalar.proofs.Common.{◌≡◌, length, string_bytes, sym, ◌∙◌, rules, subst, cursor_of, Moves}
use Rattle.saphyr_scalar.specs.Steps.Plain as spec
use Rattle.saphyr_scalar.proofs.Plain.BehindGaps.{onto_refused, gap_cuts, behind_gap_read}
use Rattle.saphyr_scalar.proofs.Plain.Pieces.{gap_refused, moved_behind_word, moves_failed}
use Rattle.saphyr_scalar.proofs.Plain.WordEnds.{none_moved}
use Rattle.saphyr_scalar.proofs.scalar.reader.Reader.read_plain_rest.Goals as goal

pub returns-in_err-tabbed : goal.returns-in_err-tabbed
returns-in_err-tabbed g c =
    let s = cursor_of c.args.self.now in
    let text = string_bytes c.args.text.now in
    moves_failed _ _ _ _ _ c.from_residual.ensures.1 c.in_err-tabbed.ensures
    (λ r h. gap_refused c.args.in_flow c.args.indent c.args.start text text s s r
    (none_moved c.args.in_flow text s c.requires.ended c.requires.on_line) (onto_refused text _ r h))

pub read_plain_behind-requires : goal.read_plain_behind-requires
read_plain_behind-requires g c =
    let len : c.len-len.result ≡ length (string_bytes c.args.text.now) = search rules in
    gap_cuts c.args.indent c.args.start (string_bytes c.args.text.now) _ (cursor_of c.args.self.now)
    (cursor_of c.read_word_gap.new.self) _ _ c.in_ok-tabbed.ensures len

pub returns : goal.returns
returns g c =
    let len : c.len-len.result ≡ length (string_bytes c.args.text.now) = search rules in
    let f = c.args.in_flow in
    let i = c.args.indent in
    let start = c.args.start in
    let s = cursor_of c.args.self.now in
    let text = string_bytes c.args.text.now in
    let same = behind_gap_read f i start s.mark text _ (spec.gap i start s) _ (cursor_of c.read_word_gap.new.self) _
    c.in_ok-tabbed.ensures len
    ∙ sym (moved_behind_word f i start text text s s (none_moved f text s c.requires.ended c.requires.on_line)) in
    subst (λ (r : spec.PlainScalarRead). Moves (λ x. spec.seen_plain_end x
    (string_bytes c.read_plain_behind.new.text) (cursor_of c.read_plain_behind.new.self))
    c.read_plain_behind.result r) same c.read_plain_behind.ensures
