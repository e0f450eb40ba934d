-- The run of a name was put behind the text.
use Rattle.saphyr_scalar.proofs.Common.{string_bytes, ap, sym, ◌∙◌, cursor_of, refuse_open}
use Rattle.saphyr_scalar.specs.declared.scalar.fault.FaultText.TheVariants as fault
use Rattle.saphyr_scalar.proofs.Properties.AnchorSteps.{anchor_behind, no_anchor_behind}
use Rattle.saphyr_scalar.proofs.scalar.reader.Reader.read_anchor_onto.Goals as goal

pub returns-then-len-before : goal.returns-then-len-before
returns-then-len-before g c =
    no_anchor_behind (cursor_of c.args.self.now) (cursor_of c.skip_non_blank.new.self) (cursor_of c.read_run.new.self)
    (string_bytes c.args.text.now) (string_bytes c.read_run.new.text) c.skip_non_blank.ensures c.in_ok-read_run.ensures
    (sym (c.len.ensures ∙ c.read_run.new.text.bytes.ok.0) ∙ c.if-len-before.true
    ∙ c.len-before.ensures ∙ c.args.text.now.bytes.ok.0)
    ∙ ap (λ b. refuse_open b fault.AnchorNameExpected c.args.self.now.mark) (sym c.is_missing.ensures.value)

pub returns : goal.returns
returns g c =
    anchor_behind (cursor_of c.args.self.now) (cursor_of c.skip_non_blank.new.self) (cursor_of c.read_run.new.self)
    (string_bytes c.args.text.now) (string_bytes c.read_run.new.text) c.skip_non_blank.ensures c.in_ok-read_run.ensures
    (λ e. c.if-len-before.false (c.len.ensures ∙ c.read_run.new.text.bytes.ok.0 ∙ e
    ∙ sym (c.len-before.ensures ∙ c.args.text.now.bytes.ok.0)))
