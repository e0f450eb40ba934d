use Rattle.saphyr_scalar.proofs.Common.{◌≡◌, ℕ, ◌<◌, false, Ok, length, slice_index, string_bytes, sym, ap, ◌∙◌, arith, ◌==◌, nat_tests, some_left, Quote, Cursor, cursor_of}
use Rattle.saphyr_scalar.specs.Values.Flow as flow
use Rattle.saphyr_scalar.specs.Steps.Quoted as spec
use Rattle.saphyr_scalar.proofs.NoBreaks.{mark_no_nul}
use Rattle.saphyr_scalar.proofs.Plain.Pieces.{moves_failed}
use Rattle.saphyr_scalar.proofs.Quoted.Gaps.{quote_closes}
use Rattle.saphyr_scalar.proofs.scalar.reader.Reader.read_quoted_rest.Goals as goal

pub returns : goal.returns
returns g c =
    let a = c.args in
    let here = cursor_of c.read_quoted_word.new.self in
    let text = string_bytes c.read_quoted_word.new.text in
    let kind = c.quote-quote.ensures in
    let quote : slice_index here.rest 0 ≡ flow.mark g.Q.Quotes.quote = sym c.in_ok-c.ensures.next ∙ c.if-c-mark.true
    ∙ c.mark.ensures ∙ ap flow.mark kind in
    let same = rw kind at (c.in_ok-c.ensures.same a.indent) in
    let ended = rw kind at c.in_ok-c.ensures.ended in
    sym (same ∙ c.loop-c.invariant.same) ∙ quote_closes g.Q.Quotes.quote a.indent a.start text here ended quote
    ∙ ap (λ s. let r : spec.TextRead = Ok (text, s) in r) (sym c.skip_non_blank.ensures)

other : (q : Quote) (x : ℕ) (s : Cursor) → x ≡ slice_index s.rest 0 → (x ≡ flow.mark q → ⊥)
    → (slice_index s.rest 0 == flow.mark q) ≡ false
other q x s read differs =
    let no : (x == flow.mark q) ≡ false = grind (arith, nat_tests) in
    rw (← read) no

quote_left : (q : Quote) (s : Cursor) → slice_index s.rest 0 ≡ flow.mark q → 0 < length s.rest
quote_left q s quote = some_left s.rest (λ nul. mark_no_nul q (sym nul ∙ quote))

pub read_quoted_gap-requires-clause-open : goal.read_quoted_gap-requires-clause-open
read_quoted_gap-requires-clause-open g c =
    other c.quote-quote.result c.in_ok-c.c (cursor_of c.read_quoted_word.new.self) c.in_ok-c.ensures.next
    (λ is. c.if-c-mark.false (is ∙ sym c.mark.ensures))

pub loop-c-smaller : goal.loop-c-smaller
loop-c-smaller g c = omega (arith, c.in_ok-next.ensures.shorter, c.in_ok-c.ensures.shorter)

pub loop-c-preserved : goal.loop-c-preserved
loop-c-preserved g c =
    let gap = rw c.quote-quote.ensures at c.in_ok-next.ensures.same in
    let word = rw c.quote-quote.ensures at (c.in_ok-c.ensures.same c.args.indent) in
    record {
      same = gap ∙ word ∙ c.loop-c.invariant.same;
      next = c.in_ok-next.ensures.next;
      loaded = c.in_ok-next.ensures.loaded;
    }

pub returns-in_err-c : goal.returns-in_err-c
returns-in_err-c g c =
    let word = rw c.quote-quote.ensures at (c.in_err-c.ensures.same c.args.indent) in
    moves_failed _ _ _ _ _ c.from_residual.ensures.1 word (λ r h. sym c.loop-c.invariant.same ∙ h)

pub skip_non_blank-requires : goal.skip_non_blank-requires
skip_non_blank-requires g c =
    quote_left c.quote-quote.result (cursor_of c.read_quoted_word.new.self)
    (sym c.in_ok-c.ensures.next ∙ c.if-c-mark.true ∙ c.mark.ensures)

pub loop-c-init : goal.loop-c-init
loop-c-init g c = record {
  same = ap (λ (s : Cursor). spec.with_front (string_bytes c.args.text.now)
      (spec.inner_text_at g.Q.Quotes.quote c.args.indent c.args.start spec.no_gap s)) c.look-next.ensures.same;
  next = c.look-next.ensures.value ∙ sym (ap (λ (s : Cursor). slice_index s.rest 0) c.look-next.ensures.same);
  loaded = c.look-next.ensures.loaded;
}
