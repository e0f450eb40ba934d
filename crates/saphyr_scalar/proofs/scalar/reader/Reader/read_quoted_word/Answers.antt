use Rattle.saphyr_scalar.proofs.Common.{length, slice_index, string_bytes, sym, ap, ◌∙◌, arith, Cursor, cursor_of}
use Rattle.saphyr_scalar.specs.Steps.Quoted as spec
use Rattle.saphyr_scalar.proofs.Quoted.Inside.{reads_refused}
use Rattle.saphyr_scalar.proofs.Quoted.Parts.{special_moved, special_shorter, special_refused, special_ends}
use Rattle.saphyr_scalar.proofs.scalar.reader.Reader.read_quoted_word.Goals as goal

pub returns-in_err-c-clause-same : goal.returns-in_err-c-clause-same
returns-in_err-c-clause-same g c = λ indent.
    let here = cursor_of c.read_literal_words.new.self in
    let text = string_bytes c.read_literal_words.new.text in
    let refusal = c.in_err-c.field-0.0 in
    let read = c.in_ok-next.ensures.moved.same indent c.args.start ∙ c.loop-next.invariant.same indent in
    reads_refused c.from_residual-in_err-c.result _ _ refusal c.from_residual-in_err-c.ensures.1
    (sym read ∙ special_refused c.args.quote indent c.args.start text here refusal c.in_err-c.ensures.special)

pub returns-in_default-clause-same : goal.returns-in_default-clause-same
returns-in_default-clause-same g c = λ indent.
    let ends = special_ends c.args.quote c.args.start _ _ _ c.in_ok-c.ensures.special c.in_default.is
    c.in_ok-next.ensures.moved.stops in
    ap (λ (x : Cursor). spec.with_front (string_bytes c.read_literal_words.new.text)
    (spec.inner_text_at c.args.quote indent c.args.start spec.no_gap x)) ends.0
    ∙ c.in_ok-next.ensures.moved.same indent c.args.start ∙ c.loop-next.invariant.same indent

pub returns-in_default-clause-ended : goal.returns-in_default-clause-ended
returns-in_default-clause-ended g c =
    let ends = special_ends c.args.quote c.args.start _ _ _ c.in_ok-c.ensures.special c.in_default.is
    c.in_ok-next.ensures.moved.stops in
    rw (ap (λ (x : Cursor). x.rest) ends.0) ends.1

pub returns-in_default-clause-shorter : goal.returns-in_default-clause-shorter
returns-in_default-clause-shorter g c =
    let ends = special_ends c.args.quote c.args.start _ _ _ c.in_ok-c.ensures.special c.in_default.is
    c.in_ok-next.ensures.moved.stops in
    omega (
      arith,
      ap (λ (x : Cursor). length x.rest) ends.0,
      c.in_ok-next.ensures.moved.shorter,
      c.loop-next.invariant.shorter,
    )

pub returns-in_default-clause-next : goal.returns-in_default-clause-next
returns-in_default-clause-next g c =
    let ends = special_ends c.args.quote c.args.start _ _ _ c.in_ok-c.ensures.special c.in_default.is
    c.in_ok-next.ensures.moved.stops in
    c.in_ok-next.ensures.next ∙ ap (λ (x : Cursor). slice_index x.rest 0) (sym ends.0)

pub loop-next-smaller : goal.loop-next-smaller
loop-next-smaller g c =
    omega (
      arith,
      special_shorter c.args.quote c.args.start _ _ _ c.in-Some.c c.in_ok-c.ensures.special c.in-Some.is,
      c.in_ok-next.ensures.moved.shorter,
      ap (λ (x : Cursor). length x.rest) c.look-first.ensures.same,
    )

pub loop-next-preserved : goal.loop-next-preserved
loop-next-preserved g c =
    let text = string_bytes c.read_literal_words.new.text in
    record {
      same = λ indent. ap (λ (x : Cursor). spec.with_front (string_bytes c.push.new.self)
          (spec.inner_text_at c.args.quote indent c.args.start spec.no_gap x)) c.look-first.ensures.same
          ∙ rw c.in_ok-push.ensures.bytes
          (special_moved c.args.quote indent c.args.start text _ _ _ c.in-Some.c c.in_ok-c.ensures.special c.in-Some.is)
          ∙ c.in_ok-next.ensures.moved.same indent c.args.start ∙ c.loop-next.invariant.same indent;
      shorter = omega (
        arith,
        special_shorter c.args.quote c.args.start _ _ _ c.in-Some.c c.in_ok-c.ensures.special c.in-Some.is,
        c.in_ok-next.ensures.moved.shorter,
        c.loop-next.invariant.shorter,
        ap (λ (x : Cursor). length x.rest) c.look-first.ensures.same,
      );
      first = c.look-first.ensures.value ∙ sym (ap (λ (x : Cursor). slice_index x.rest 0) c.look-first.ensures.same);
      loaded = c.look-first.ensures.loaded;
    }
