-- A tag was read behind the text, and ends here or not.
use Rattle.saphyr_scalar.proofs.Common.{string_bytes, ap, sym, ◌∙◌, cursor_of}
use Rattle.saphyr_scalar.specs.Steps.Tag as spec
use Rattle.saphyr_scalar.proofs.Properties.TagSteps.{tag_ended, tag_given, tag_open}
use Rattle.saphyr_scalar.proofs.scalar.reader.Reader.read_tag_onto.Goals as goal

pub returns-then-not-ends_tag : goal.returns-then-not-ends_tag
unfolding spec.tag
returns-then-not-ends_tag g c =
    let f = c.args.in_flow in
    tag_open f c.args.self.now.mark (string_bytes c.args.text.now) (string_bytes c.read_any_tag.new.text)
    c.in_ok-handle.handle (spec.any_tag (cursor_of c.args.self.now)) (cursor_of c.read_any_tag.new.self)
    c.in_ok-handle.ensures
    (ap (spec.is_behind_tag f) (sym c.look.ensures.value) ∙ sym c.ends_tag.ensures ∙ c.if-not-ends_tag.true)

pub returns : goal.returns
unfolding spec.tag
returns g c =
    let f = c.args.in_flow in
    let grown = string_bytes c.read_any_tag.new.text in
    tag_ended f c.args.self.now.mark (string_bytes c.args.text.now) grown
    c.in_ok-handle.handle (spec.any_tag (cursor_of c.args.self.now)) (cursor_of c.read_any_tag.new.self)
    c.in_ok-handle.ensures
    (ap (spec.is_behind_tag f) (sym c.look.ensures.value) ∙ sym c.ends_tag.ensures ∙ c.if-not-ends_tag.false)
    ∙ ap (tag_given c.in_ok-handle.handle grown) (sym c.look.ensures.same)
