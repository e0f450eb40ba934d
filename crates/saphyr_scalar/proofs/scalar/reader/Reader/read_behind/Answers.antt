use Rattle.saphyr_scalar.proofs.Common.{Cursor, IsTrue, Ok, string_bytes, subst, sym, ap, ◌∙◌, pass, cursor_of, Moves}
use Rattle.saphyr_scalar.specs.Views.Reader.{text_alone}
use Rattle.saphyr_scalar.specs.Steps.Quoted as spec
use Rattle.saphyr_scalar.proofs.Quoted.Gaps.{closing_closes}
use Rattle.saphyr_scalar.proofs.Quoted.Inside.{quoted_inside}
use Rattle.saphyr_scalar.proofs.scalar.reader.Reader.read_behind.Goals as goal

pub returns-then-is_at_closing_quote : goal.returns-then-is_at_closing_quote
returns-then-is_at_closing_quote g c =
    let a = c.args in
    let start = (cursor_of a.self.now).mark in
    let there = cursor_of c.take_literal_words.new.self in
    let text = string_bytes c.take_literal_words.new.text in
    let kind = c.quote-quote.ensures in
    let closes : IsTrue (spec.is_closing c.quote-quote.result there.rest) = sym c.is_at_closing_quote.ensures.value
    ∙ c.if-is_at_closing_quote.true in
    let closing = rw kind at closes in
    let moved = rw kind at (c.in_ok-c.ensures.moved.same a.indent start) in
    ap (spec.with_front (string_bytes a.text.now))
    (quoted_inside g.Q.Quotes.quote a.indent (cursor_of a.self.now) _ c.skip_non_blank.ensures)
    ∙ sym moved ∙ closing_closes g.Q.Quotes.quote a.indent start text there closing
    ∙ ap (λ s. let r : spec.TextRead = Ok (text, s) in r)
    (ap (pass 1) (sym c.is_at_closing_quote.ensures.same) ∙ sym c.skip_non_blank-then-is_at_closing_quote.ensures)

pub returns : goal.returns
returns g c =
    let a = c.args in
    let start = (cursor_of a.self.now).mark in
    let there = cursor_of c.take_literal_words.new.self in
    let moved = rw c.quote-quote.ensures at (c.in_ok-c.ensures.moved.same a.indent start) in
    let begun = ap (spec.with_front (string_bytes a.text.now))
    (quoted_inside g.Q.Quotes.quote a.indent (cursor_of a.self.now) _ c.skip_non_blank.ensures)
    ∙ sym moved ∙ ap (λ (s : Cursor). spec.with_front (string_bytes c.take_literal_words.new.text)
    (spec.inner_text_at g.Q.Quotes.quote a.indent start spec.no_gap s)) (sym c.is_at_closing_quote.ensures.same) in
    subst (λ (r : spec.TextRead). Moves (λ x. text_alone x (string_bytes c.read_quoted_rest.new.text)
    (cursor_of c.read_quoted_rest.new.self)) c.read_quoted_rest.result r) (sym begun) c.read_quoted_rest.ensures
