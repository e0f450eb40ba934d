-- A word was put behind `!`.
use Rattle.saphyr_scalar.proofs.Common.{◌≡◌, string_bytes, length, sym, ap, ◌∙◌, arith, cursor_of}
use Rattle.std.proofs.lemmas.List.{length-append}
use Rattle.saphyr_scalar.specs.Steps.Tag as spec
use Rattle.saphyr_scalar.proofs.Plain.Pieces.{moves_failed}
use Rattle.saphyr_scalar.proofs.Properties.TagSteps.{alone_read, behind_word, handle_text, left_inside, mark_left, named_from, primary_read, primary_refused, tag_given}
use Rattle.saphyr_scalar.proofs.scalar.reader.Reader.read_shorthand_tag.Goals as goal

pub skip_non_blank-requires : goal.skip_non_blank-requires
skip_non_blank-requires g c =
    let behind = behind_word (cursor_of c.args.self.now) _ _ _ _ c.in_ok-c.ensures.word c.in_ok-c.ensures.next in
    mark_left _ _ _ _ _ behind c.if-c-eq33.true

pub returns-in_err-read_named_suffix : goal.returns-in_err-read_named_suffix
returns-in_err-read_named_suffix g c =
    let behind = behind_word (cursor_of c.args.self.now) _ _ _ _ c.in_ok-c.ensures.word c.in_ok-c.ensures.next in
    let here = string_bytes c.args.text.now in
    let is = handle_text _ _ here _ (string_bytes c.push.new.self) _ behind c.in_ok-push.ensures.bytes in
    moves_failed _ _ _ _ _ c.from_residual-in_err-read_named_suffix.ensures.1
    (c.in_err-read_named_suffix.ensures here behind.word is)
    (λ r h. ap (spec.with_tag here) (sym (named_from _ _ _ _ _ _ behind c.if-c-eq33.true
    c.skip_non_blank.ensures)) ∙ h)

pub returns-then-c-eq33 : goal.returns-then-c-eq33
returns-then-c-eq33 g c =
    let behind = behind_word (cursor_of c.args.self.now) _ _ _ _ c.in_ok-c.ensures.word c.in_ok-c.ensures.next in
    let here = string_bytes c.args.text.now in
    let is = handle_text _ _ here _ (string_bytes c.push.new.self) _ behind c.in_ok-push.ensures.bytes in
    let handle = spec.handle_of behind.word in
    let whole = ap length is ∙ length-append here handle in
    let count : c.len.result ≡ length (string_bytes c.push.new.self) =
    c.len.ensures ∙ c.push.new.self.bytes.ok.0 in
    let before : c.len-before.result ≡ length here = c.len-before.ensures ∙ c.args.text.now.bytes.ok.0 in
    ap (spec.with_tag here)
    (sym (named_from _ _ _ _ _ _ behind c.if-c-eq33.true c.skip_non_blank.ensures))
    ∙ c.in_ok-read_named_suffix.ensures here behind.word is
    ∙ ap (λ n. tag_given n (string_bytes c.read_named_suffix.new.text) (cursor_of c.read_named_suffix.new.self))
    (omega (arith, count, before, whole))

pub read_rest_of_suffix-requires-clause-inside : goal.read_rest_of_suffix-requires-clause-inside
read_rest_of_suffix-requires-clause-inside g c =
    let behind = behind_word (cursor_of c.args.self.now) _ _ _ _ c.in_ok-c.ensures.word c.in_ok-c.ensures.next in
    left_inside _ _ _ _ _ behind

pub returns-in_err-read_rest_of_suffix : goal.returns-in_err-read_rest_of_suffix
returns-in_err-read_rest_of_suffix g c =
    let behind = behind_word (cursor_of c.args.self.now) _ _ _ _ c.in_ok-c.ensures.word c.in_ok-c.ensures.next in
    moves_failed _ _ _ _ _ c.from_residual-in_err-read_rest_of_suffix.ensures.1 c.in_err-read_rest_of_suffix.ensures
    (λ r h. primary_refused _ _ _ _ _ r behind c.if-c-eq33.false h)

pub returns-then-len-before : goal.returns-then-len-before
returns-then-len-before g c =
    let behind = behind_word (cursor_of c.args.self.now) _ _ _ _ c.in_ok-c.ensures.word c.in_ok-c.ensures.next in
    let count : c.len-2.result ≡ length (string_bytes c.read_rest_of_suffix.new.text) =
    c.len-2.ensures ∙ c.read_rest_of_suffix.new.text.bytes.ok.0 in
    let before : c.len-before.result ≡ length (string_bytes c.args.text.now) =
    c.len-before.ensures ∙ c.args.text.now.bytes.ok.0 in
    let none = c.if-len-before.true in
    alone_read _ _ _ _ _ _ _ behind c.if-c-eq33.false c.in_ok-read_rest_of_suffix.ensures
    (omega (arith, count, before, none))

pub returns : goal.returns
returns g c =
    let behind = behind_word (cursor_of c.args.self.now) _ _ _ _ c.in_ok-c.ensures.word c.in_ok-c.ensures.next in
    let count : c.len-2.result ≡ length (string_bytes c.read_rest_of_suffix.new.text) =
    c.len-2.ensures ∙ c.read_rest_of_suffix.new.text.bytes.ok.0 in
    let before : c.len-before.result ≡ length (string_bytes c.args.text.now) =
    c.len-before.ensures ∙ c.args.text.now.bytes.ok.0 in
    primary_read _ _ _ _ _ _ _ behind c.if-c-eq33.false c.in_ok-read_rest_of_suffix.ensures
    (λ h. c.if-len-before.false (omega (arith, count, before, h)))
