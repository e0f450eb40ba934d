use Rattle.saphyr_scalar.proofs.Common.{slice_index, ap, ◌∙◌, Cursor, cursor_of}
use Rattle.saphyr_scalar.proofs.Plain.Words.{colon_in_word, plain_in_word}
use Rattle.saphyr_scalar.proofs.scalar.reader.Reader.is_in_plain_word.Goals as goal

pub returns-then-c-eq58-clause-value : goal.returns-then-c-eq58-clause-value
returns-then-c-eq58-clause-value g c =
    colon_in_word c.args.in_flow (cursor_of c.args.self.now).rest c.args.c c.peek_nth-next.result _ c.requires.first
    c.if-c-eq58.true (c.peek_nth-next.ensures ∙ ap (λ (s : Cursor). slice_index s.rest 1) c.load.ensures.same)
    c.is_colon_in_word.ensures

pub returns-clause-value : goal.returns-clause-value
returns-clause-value g c =
    plain_in_word c.args.in_flow (cursor_of c.args.self.now).rest c.args.c _ c.requires.first c.if-c-eq58.false
    c.is_plain_in_word.ensures
