use Rattle.std.proofs.Common.{◌∙◌, sym}
use Rattle.std.proofs.lemmas.Bool.{false≢true}
use Rattle.std.specs.Prelude.{codes}
use Rattle.saphyr_input.specs.Classes as spec
use Rattle.saphyr_input.proofs.Sets.{decided, or_first, or_else}
use Rattle.saphyr_input.proofs.char_traits.is_uri_char.Goals as goal

pub returns-then-is_word_char-clause-set : goal.returns-then-is_word_char-clause-set
returns-then-is_word_char-clause-set c =
    or_first c.is_word_char.result (spec.IsWordChar c.args.c) (spec.IsUriMark c.args.c) c.if-is_word_char.true
    (c.is_word_char.ensures.set.0 c.if-is_word_char.true)

pub returns-else-is_word_char-clause-set : goal.returns-else-is_word_char-clause-set
returns-else-is_word_char-clause-set c =
    or_else c.is_uri_mark.result (spec.IsWordChar c.args.c) (spec.IsUriMark c.args.c)
    (λ w. false≢true (sym c.if-is_word_char.false ∙ c.is_word_char.ensures.set.1 w))
    (decided c.is_uri_mark.result (codes "#;/?:@&=+$,_.!~*'()[]%") c.args.c c.is_uri_mark.ensures)
