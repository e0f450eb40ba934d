-- A word was put behind `!`.
use Rattle.saphyr_scalar.proofs.Common.{string_bytes, refl, sym, length, [], ◌≡◌, ◌∙◌, arith, cursor_of}
use Rattle.saphyr_scalar.specs.Steps.Tag.{with_word}
use Rattle.saphyr_scalar.proofs.Directives.HandleSteps.{handle_open, named_handle, primary_handle}
use Rattle.saphyr_scalar.proofs.Lengths.{seen_left}
use Rattle.saphyr_scalar.proofs.Properties.TagSteps.{behind_word, mark_left}
use Rattle.saphyr_scalar.proofs.scalar.reader.Reader.read_directive_handle.Goals as goal

pub read_marked_word-requires : goal.read_marked_word-requires
read_marked_word-requires g c =
    seen_left _ (cursor_of c.look.new.self) c.look.result _ c.look.ensures.value
    c.look.ensures.same refl c.if-look-ne33.false

pub skip_non_blank-requires : goal.skip_non_blank-requires
skip_non_blank-requires g c =
    let s = cursor_of c.args.self.now in
    let grown = string_bytes c.read_marked_word.new.text in
    let look = cursor_of c.read_marked_word.new.self in
    let put : with_word [] s ≡ with_word (string_bytes c.in_ok-handle.handle) (cursor_of c.look.new.self) =
    λ i. with_word (sym c.in_ok-handle.ensures i) (sym c.look.ensures.same i) in
    let behind = behind_word s look [] grown c.in_ok-c.c (put ∙ c.in_ok-c.ensures.word) c.in_ok-c.ensures.next in
    mark_left _ _ _ _ _ behind c.if-c-eq33.true

pub returns-then-c-eq33 : goal.returns-then-c-eq33
returns-then-c-eq33 g c =
    let s = cursor_of c.args.self.now in
    let grown = string_bytes c.read_marked_word.new.text in
    let look = cursor_of c.read_marked_word.new.self in
    let put : with_word [] s ≡ with_word (string_bytes c.in_ok-handle.handle) (cursor_of c.look.new.self) =
    λ i. with_word (sym c.in_ok-handle.ensures i) (sym c.look.ensures.same i) in
    let behind = behind_word s look [] grown c.in_ok-c.c (put ∙ c.in_ok-c.ensures.word) c.in_ok-c.ensures.next in
    let first = sym c.look.ensures.value ∙ c.if-look-ne33.false in
    named_handle c.args.start s look (cursor_of c.skip_non_blank.new.self) grown (string_bytes c.push.new.self)
    c.in_ok-c.c behind first c.if-c-eq33.true c.in_ok-push.ensures.bytes c.skip_non_blank.ensures

pub returns-then-len-gt1 : goal.returns-then-len-gt1
returns-then-len-gt1 g c =
    let s = cursor_of c.args.self.now in
    let grown = string_bytes c.read_marked_word.new.text in
    let look = cursor_of c.read_marked_word.new.self in
    let put : with_word [] s ≡ with_word (string_bytes c.in_ok-handle.handle) (cursor_of c.look.new.self) =
    λ i. with_word (sym c.in_ok-handle.ensures i) (sym c.look.ensures.same i) in
    let behind = behind_word s look [] grown c.in_ok-c.c (put ∙ c.in_ok-c.ensures.word) c.in_ok-c.ensures.next in
    let first = sym c.look.ensures.value ∙ c.if-look-ne33.false in
    let count : c.len.result ≡ length grown = c.len.ensures ∙ c.read_marked_word.new.text.bytes.ok.0 in
    let more = c.if-len-gt1.true in
    handle_open c.args.start s look grown c.in_ok-c.c behind first c.if-c-eq33.false (omega (arith, count, more))

pub returns : goal.returns
returns g c =
    let s = cursor_of c.args.self.now in
    let grown = string_bytes c.read_marked_word.new.text in
    let look = cursor_of c.read_marked_word.new.self in
    let put : with_word [] s ≡ with_word (string_bytes c.in_ok-handle.handle) (cursor_of c.look.new.self) =
    λ i. with_word (sym c.in_ok-handle.ensures i) (sym c.look.ensures.same i) in
    let behind = behind_word s look [] grown c.in_ok-c.c (put ∙ c.in_ok-c.ensures.word) c.in_ok-c.ensures.next in
    let first = sym c.look.ensures.value ∙ c.if-look-ne33.false in
    let count : c.len.result ≡ length grown = c.len.ensures ∙ c.read_marked_word.new.text.bytes.ok.0 in
    let few = c.if-len-gt1.false in
    primary_handle c.args.start s look grown c.in_ok-c.c behind first c.if-c-eq33.false (omega (arith, count, few))
