-- The place of a quoted scalar whose text is put behind the others.
use Rattle.std.proofs.Common.{Ok, drop, length, refl, ◌≡◌, ◌∙◌}
use Rattle.std.specs.Prelude.{string_bytes}
use Rattle.std.proofs.lemmas.Str.{IsUtf8-string_bytes}
use Rattle.saphyr_scalar.specs.Steps.Quoted.{quoted}
use Rattle.saphyr_scalar.specs.Views.Reader.{cursor_of}
use Rattle.saphyr_scalar.proofs.Properties.TagSteps.{front_behind}
use Rattle.saphyr_scanner.specs.Views.Reads.{quote_kind, quoted_whole}
use Rattle.saphyr_scanner.proofs.QueuedReads.{seen_texts, text_added, token_placed}
use Rattle.saphyr_scanner.proofs.queue.texts.Texts.read_quoted.Goals as goal

pub returns-in_ok-place-in-Ok : goal.returns-in_ok-place-in-Ok
unfolding quoted_whole
returns-in_ok-place-in-Ok g c =
    let old = c.self.inside in
    let here = cursor_of c.args.reader.now in
    let before = string_bytes old.texts in
    let new = c.read_quoted_onto.new.text in
    let grown = string_bytes new in
    let there = cursor_of c.read_quoted_onto.new.self in
    let left = cursor_of c.pass_behind_quotes.new.reader in
    let at_end = c.in_ok-is_at_end-in-Ok.is_at_end in
    let a = c.args in
    let behind = front_behind before grown (quoted a.quote a.indent here) there c.in-Ok.ensures in
    let added = text_added c.len.result c.len-before.result old.spent before grown old.extents.items
    (c.len.ensures ∙ new.bytes.ok.0) (c.len-before.ensures ∙ old.texts.bytes.ok.0) old.within behind.1
    (IsUtf8-string_bytes old.texts) (IsUtf8-string_bytes new) in
    let text = drop (length before) grown in
    let ends = rw c.mark-start.ensures.value at c.in_ok-is_at_end-in-Ok.ensures in
    let read : quoted_whole a.in_block a.quote a.indent here ≡ Ok (text, left.mark, at_end, left) =
    rw (behind.0, ends) refl in
    token_placed (quote_kind a.quote) c.mark-start.ensures.value c.mark.ensures.value
    (c.kind_of.ensures text) c.self.view_is read
    (c.in_ok-place-in-Ok.ensures.place text (seen_texts old.spent before old.extents.items) added.0 added.1)
