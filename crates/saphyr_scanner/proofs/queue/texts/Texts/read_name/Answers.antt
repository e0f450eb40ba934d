-- The place of a name that is put behind the other texts.
use Rattle.std.proofs.Common.{Ok, drop, length, refl, ◌≡◌, ◌∙◌}
use Rattle.std.specs.Prelude.{string_bytes}
use Rattle.std.proofs.lemmas.Str.{IsUtf8-string_bytes}
use Rattle.saphyr_scalar.specs.Steps.Anchor.{anchor}
use Rattle.saphyr_scalar.specs.Views.Reader.{cursor_of}
use Rattle.saphyr_scalar.proofs.Properties.TagSteps.{front_behind}
use Rattle.saphyr_scanner.specs.Views.Reads.{name_kind, name_whole}
use Rattle.saphyr_scanner.proofs.QueuedReads.{seen_texts, text_added, token_placed}
use Rattle.saphyr_scanner.proofs.queue.texts.Texts.read_name.Goals as goal

pub returns-in_ok-place-in-Ok : goal.returns-in_ok-place-in-Ok
returns-in_ok-place-in-Ok g c =
    let old = c.self.inside in
    let here = cursor_of c.args.reader.now in
    let before = string_bytes old.texts in
    let new = c.read_anchor_onto.new.text in
    let grown = string_bytes new in
    let there = cursor_of c.read_anchor_onto.new.self in
    let behind = front_behind before grown (anchor here) there c.in-Ok.ensures in
    let added = text_added c.len.result c.len-before.result old.spent before grown old.extents.items
    (c.len.ensures ∙ new.bytes.ok.0) (c.len-before.ensures ∙ old.texts.bytes.ok.0) old.within behind.1
    (IsUtf8-string_bytes old.texts) (IsUtf8-string_bytes new) in
    let text = drop (length before) grown in
    let read : name_whole here ≡ Ok (text, there.mark, tt {0}, there) = rw behind.0 refl in
    token_placed (name_kind c.args.kind) c.mark-start.ensures.value c.mark.ensures.value refl c.self.view_is
    read (c.in_ok-place-in-Ok.ensures.place text (seen_texts old.spent before old.extents.items) added.0 added.1)
