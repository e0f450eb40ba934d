-- A suffix was read behind a handle.
use Rattle.saphyr_scalar.proofs.Common.{string_bytes, ap, sym, ◌∙◌, Suffix, refuse_open, cursor_of}
use Rattle.saphyr_scalar.specs.declared.scalar.fault.FaultText.TheVariants as fault
use Rattle.saphyr_scalar.specs.Steps.Tag as spec
use Rattle.saphyr_scalar.proofs.Plain.Pieces.{moves_failed}
use Rattle.saphyr_scalar.proofs.Properties.TagSteps.{named_alone, named_ended, step_refused}
use Rattle.saphyr_scalar.proofs.scalar.reader.Reader.read_named_suffix.Goals as goal

pub returns-in_err-read_uri_characters : goal.returns-in_err-read_uri_characters
unfolding spec.named_tail
returns-in_err-read_uri_characters g c before word is =
    moves_failed _ _ _ _ _ c.from_residual.ensures.1 c.in_err-read_uri_characters.ensures
    (λ r h. step_refused before (string_bytes c.args.text.now)
    (spec.decoded_at Suffix c.args.start (cursor_of c.args.self.now)) (spec.named_tag c.args.start word) r h)

pub returns-then-len-before : goal.returns-then-len-before
unfolding spec.named_tail
returns-then-len-before g c before word is =
    named_alone c.args.start before word (string_bytes c.args.text.now) (string_bytes c.read_uri_characters.new.text)
    (spec.decoded_at Suffix c.args.start (cursor_of c.args.self.now)) (cursor_of c.read_uri_characters.new.self)
    c.in_ok-read_uri_characters.ensures
    (sym (c.len.ensures ∙ c.read_uri_characters.new.text.bytes.ok.0) ∙ c.if-len-before.true
    ∙ c.len-before.ensures ∙ c.args.text.now.bytes.ok.0)
    ∙ ap (λ b. refuse_open b fault.TagSuffixExpected c.args.start) (sym c.is_missing.ensures.value)

pub returns : goal.returns
unfolding spec.named_tail
returns g c before word is =
    named_ended c.args.start before word (string_bytes c.args.text.now) (string_bytes c.read_uri_characters.new.text)
    (spec.decoded_at Suffix c.args.start (cursor_of c.args.self.now)) (cursor_of c.read_uri_characters.new.self) is
    c.in_ok-read_uri_characters.ensures
    (λ e. c.if-len-before.false (c.len.ensures ∙ c.read_uri_characters.new.text.bytes.ok.0 ∙ e
    ∙ sym (c.len-before.ensures ∙ c.args.text.now.bytes.ok.0)))
