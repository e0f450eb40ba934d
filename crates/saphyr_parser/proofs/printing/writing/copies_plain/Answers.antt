use Rattle.std.proofs.Common.{◌≡◌, ◌<◌, false, [], ◌∷◌, ◌++◌, length, length-set, slice_index, sym, ap, ◌∙◌, rules, arith}
use Rattle.std.proofs.lemmas.List.{take_more, take_more_set}
use Rattle.saphyr_parser.proofs.Printed.Escapes.{plain_more}
use Rattle.saphyr_parser.proofs.printing.writing.copies_plain.Goals as goal

pub loop-count-preserved : goal.loop-count-preserved
loop-count-preserved c =
    let before = c.loop-count.invariant in
    let count = c.loop-count.count in
    let text = c.args.text.now in
    let within : count < length text = omega (arith, c.loop-count-test.true) in
    let inside : count < length c.loop-count.room = omega (arith, within, before.room) in
    let plain : c.is_escaped.result ≡ false = search rules in
    record {
      room = length-set c.loop-count.room count _ ∙ before.room;
      within = omega (arith, within);
      plain = plain_more text count within (c.is_escaped.ensures plain) before.plain;
      copied = take_more_set c.loop-count.room count (slice_index text count) inside
          ∙ ap (λ k. k ++ (slice_index text count ∷ [])) before.copied ∙ sym (take_more text count 0 within);
    }
