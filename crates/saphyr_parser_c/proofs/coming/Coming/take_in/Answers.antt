-- The whole characters of the bytes are the parser's, and the rest waits.
use Rattle.std.proofs.Common.{◌∙◌, subst, sym}
use Rattle.std.specs.Prelude.{IsUtf8}
use Rattle.saphyr_parser_c.proofs.Adding.{front_taken}
use Rattle.saphyr_parser_c.proofs.Bytes.{halves_join, is_utf8_so_far, rest_is_cut}
use Rattle.saphyr_parser_c.proofs.coming.Coming.take_in.Goals as goal

pub returns : goal.returns
returns c =
    let bytes = c.args.bytes.now in
    let n = c.in-Some.count in
    let halves = c.split_at.ensures in
    let front = c.from_utf8_unchecked-front.result.now in
    let is_front = c.from_utf8_unchecked-front.ensures ∙ halves.front in
    let back = c.split_at.result.1.now in
    let waiting = c.in-Ok.waiting in
    let is_waiting = c.in-Ok.ensures.items in
    front_taken front bytes waiting c.args.self.now c.take.new.self c.take.result
    (halves_join n front back waiting.items bytes is_front halves.back is_waiting)
    (subst IsUtf8 (sym is_front) c.in-Some.ensures.front.1)
    (is_utf8_so_far n bytes c.in-Some.ensures.front.1 c.in-Some.ensures.waits)
    (rest_is_cut n back waiting.items bytes halves.back is_waiting c.in-Some.ensures.cut c.in-Some.ensures.waits)
    c.take.ensures
