-- A uri was read behind the text.
use Rattle.saphyr_scalar.proofs.Common.{string_bytes, refl, ap, sym, ◌∙◌, Uri, Cursor, ◌>>=◌, pass, is_missing, refuse_open, cursor_of}
use Rattle.saphyr_scalar.specs.declared.scalar.fault.FaultText.TheVariants as fault
use Rattle.saphyr_scalar.specs.Steps.Tag as spec
use Rattle.saphyr_scalar.proofs.Lengths.{seen_left}
use Rattle.saphyr_scalar.proofs.Properties.TagSteps.{verbatim_ended, verbatim_open}
use Rattle.saphyr_scalar.proofs.scalar.reader.Reader.read_verbatim_tag.Goals as goal

pub skip_non_blank-requires : goal.skip_non_blank-requires
skip_non_blank-requires g c =
    seen_left _ (cursor_of c.look.new.self) c.look.result _ c.look.ensures.value
    c.look.ensures.same refl c.if-look-ne62.false

pub returns-then-look-ne62 : goal.returns-then-look-ne62
unfolding spec.verbatim_tag
returns-then-look-ne62 g c =
    let start = c.args.self.now.mark in
    let text = string_bytes c.args.text.now in
    ap (λ t. spec.with_tag text (spec.decoded_at Uri start t >>= spec.verbatim_end start))
    (sym c.skip_n_non_blank.ensures)
    ∙ verbatim_open start text (string_bytes c.read_uri_characters.new.text)
    (spec.decoded_at Uri start (cursor_of c.skip_n_non_blank.new.self)) (cursor_of c.read_uri_characters.new.self)
    c.in_ok-read_uri_characters.ensures (λ e. c.if-look-ne62.true (c.look.ensures.value ∙ e))
    ∙ ap (λ b. refuse_open b fault.VerbatimTagEndExpected start)
    (ap (λ (s : Cursor). is_missing 0 s.rest) (sym c.look.ensures.same) ∙ sym c.is_missing.ensures.value)

pub returns : goal.returns
unfolding spec.verbatim_tag
returns g c =
    let start = c.args.self.now.mark in
    let text = string_bytes c.args.text.now in
    ap (λ t. spec.with_tag text (spec.decoded_at Uri start t >>= spec.verbatim_end start))
    (sym c.skip_n_non_blank.ensures)
    ∙ verbatim_ended start text (string_bytes c.read_uri_characters.new.text)
    (spec.decoded_at Uri start (cursor_of c.skip_n_non_blank.new.self)) (cursor_of c.read_uri_characters.new.self)
    (cursor_of c.skip_non_blank.new.self) c.in_ok-read_uri_characters.ensures
    (sym c.look.ensures.value ∙ c.if-look-ne62.false) (c.skip_non_blank.ensures ∙ ap (pass 1) c.look.ensures.same)
