use Rattle.std.proofs.Common.{
  ◌≡◌,
  ◌≤◌,
  ◌-◌,
  ◌+◌,
  ◌++◌,
  length,
  take,
  drop,
  sym,
  ap,
  ◌∙◌,
  arith,
  take-append-drop,
  length-take,
  length-drop,
}
use lib.Seq.{paste, take-paste}
use Rattle.std.proofs.KnownBytes.{append_known-moved}
use Rattle.std.proofs.lemmas.List.{drop-take, take_min}
use Rattle.dump_events.proofs.line_buffer.LineBuffer.flushes.Goals as goal

-- The bytes that were not written stand first.
pub returns-clause-bytes : goal.returns-clause-bytes
returns-clause-bytes g c =
    let n = c.write_out-written.result in
    let filled = c.min-filled.result in
    let room = c.args.self.now.room in
    let left = filled - n in
    let bound = c.write_out-written.ensures.bound in
    let few : n ≤ filled = omega (arith, length-take filled room, bound) in
    let fits : left ≤ length (drop n room) =
    omega (arith, length-drop n room, length-take filled room, bound) in
    let same : left ≡ 0 + left = omega arith in
    let moved : take left c.copy_within.new.self ≡ take left (drop n room) =
    ap (take left) c.copy_within.ensures.after ∙ ap (λ k. take k (paste room 0 (drop n room) left)) same
    ∙ take-paste room 0 (drop n room) left (omega arith) fits in
    let rest : drop n (take filled room) ≡ take left c.copy_within.new.self =
    ap (λ k. drop n (take k room)) (omega (arith, few)) ∙ drop-take n left room ∙ sym moved in
    let all : take c.args.self.now.filled room ≡ take filled room =
    sym (take_min c.args.self.now.filled room) ∙ ap (λ k. take k room) (omega (arith, c.min-filled.ensures)) in
    append_known-moved _ _ _ _ _ c.write_out-written.ensures.bytes
    (all ∙ sym (take-append-drop n (take filled room)) ∙ ap (λ l. take n (take filled room) ++ l) rest)
