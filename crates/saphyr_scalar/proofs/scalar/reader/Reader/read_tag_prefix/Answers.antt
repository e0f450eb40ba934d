use Rattle.saphyr_scalar.proofs.Common.{length, sym, ap, ◌∙◌, arith, ◌||◌, ◌==◌, exclamation_mark, is_tag_char, Cursor, cursor_of}
use Rattle.saphyr_scalar.proofs.Directives.Numbers.{prefix_left}
use Rattle.saphyr_scalar.proofs.scalar.reader.Reader.read_tag_prefix.Goals as goal

pub read_uri_character-requires : goal.read_uri_character-requires
read_uri_character-requires g c =
    let begins = ap (λ x. (x == exclamation_mark) || is_tag_char x) (sym c.look.ensures.value)
    ∙ sym c.begins_prefix.ensures ∙ c.if-not-begins_prefix.false in
    omega (
      arith,
      prefix_left (cursor_of c.args.self.now).rest begins,
      ap (λ (s : Cursor). length s.rest) c.look.ensures.same,
    )
