-- The word of the handle is empty.
use Rattle.saphyr_scalar.proofs.Common.{string_bytes, [], ap, sym, ◌∙◌, cursor_of}
use Rattle.saphyr_scalar.specs.Steps.Tag as spec
use Rattle.saphyr_scalar.proofs.Plain.Pieces.{moves_failed}
use Rattle.saphyr_scalar.proofs.Properties.TagSteps.{without_word}
use Rattle.saphyr_scalar.proofs.scalar.reader.Reader.read_secondary_tag.Goals as goal

pub returns-in_err-read_named_suffix : goal.returns-in_err-read_named_suffix
returns-in_err-read_named_suffix g c =
    moves_failed _ _ _ _ _ c.from_residual-in_err-read_named_suffix.ensures.1
    (c.in_err-read_named_suffix.ensures (string_bytes c.args.text.now) [] c.in_ok-push_str.ensures.bytes)
    (λ r h. ap (spec.with_tag (string_bytes c.args.text.now)) (sym (without_word (cursor_of c.args.self.now)
    (cursor_of c.skip_n_non_blank.new.self) c.requires c.skip_n_non_blank.ensures)) ∙ h)

pub returns : goal.returns
returns g c =
    ap (spec.with_tag (string_bytes c.args.text.now)) (sym (without_word (cursor_of c.args.self.now)
    (cursor_of c.skip_n_non_blank.new.self) c.requires c.skip_n_non_blank.ensures))
    ∙ c.in_ok-read_named_suffix.ensures (string_bytes c.args.text.now) [] c.in_ok-push_str.ensures.bytes
