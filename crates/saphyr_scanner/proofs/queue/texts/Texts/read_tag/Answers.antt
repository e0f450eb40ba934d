-- The place of a tag whose handle and suffix are put behind the other texts.
use Rattle.std.proofs.Common.{Ok, drop, length, take, refl, List, ℕ, ◌≡◌, ◌∙◌}
use Rattle.std.specs.Prelude.{string_bytes}
use Rattle.std.proofs.lemmas.Str.{IsUtf8-string_bytes}
use Rattle.saphyr_scalar.specs.Steps.Tag.{tag}
use Rattle.saphyr_scalar.specs.Views.Reader.{cursor_of}
use Rattle.saphyr_scanner.specs.Views.Reads.{tag_kind, tag_whole}
use Rattle.saphyr_scanner.proofs.QueuedReads.{seen_texts, tag_behind, tag_text, texts_added, token_placed}
use Rattle.saphyr_scanner.proofs.queue.texts.Texts.read_tag.Goals as goal

pub returns-in_ok-place-in-Ok : goal.returns-in_ok-place-in-Ok
returns-in_ok-place-in-Ok g c =
    let old = c.self.inside in
    let here = cursor_of c.args.reader.now in
    let before = string_bytes old.texts in
    let new = c.read_tag_onto.new.text in
    let grown = string_bytes new in
    let there = cursor_of c.read_tag_onto.new.self in
    let handle = c.in-Ok.handle in
    let behind = tag_behind before grown handle (tag c.args.in_flow here) there c.in-Ok.ensures in
    let front = tag_text c.args.in_flow here there _ _ c.requires behind.0 in
    let added = texts_added handle c.len.result c.len-before.result old.spent before grown old.extents.items
    (c.len.ensures ∙ new.bytes.ok.0) (c.len-before.ensures ∙ old.texts.bytes.ok.0) old.within behind.1
    (IsUtf8-string_bytes old.texts) (IsUtf8-string_bytes new) behind.2 front in
    let text = drop (length before) grown in
    let both : List ℕ × List ℕ = (take handle text, drop handle text) in
    let read : tag_whole c.args.in_flow here ≡ Ok (both, there.mark, tt {0}, there) = rw behind.0 refl in
    token_placed tag_kind c.mark-start.ensures.value c.mark-end.ensures.value refl
    c.self.view_is read (c.in_ok-place-in-Ok.ensures.place (take handle text) (drop handle text)
    (seen_texts old.spent before old.extents.items) added.0 added.1 added.2)
