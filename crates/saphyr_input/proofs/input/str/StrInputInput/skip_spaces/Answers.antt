use Rattle.std.proofs.Common.{◌∙◌, ap, subst, IsUtf8}
use Rattle.saphyr_input.specs.Places.{spaces_within}
use Rattle.saphyr_input.proofs.WordRuns.{spaces_past}
use Rattle.saphyr_input.proofs.input.str.StrInputInput.skip_spaces.Goals as goal

pub range_from-self-requires : goal.range_from-self-requires
range_from-self-requires c =
    let h = spaces_past c.args.most c.args.self.now.rest.now c.leading_spaces-count.result
    (subst IsUtf8 c.as_bytes.ensures.value c.as_bytes.ensures.utf8)
    (c.leading_spaces-count.ensures ∙ ap (spaces_within c.args.most) c.as_bytes.ensures.value) in λ _. h.past.boundary

pub returns-clause-count : goal.returns-clause-count
returns-clause-count c =
    let h = spaces_past c.args.most c.args.self.now.rest.now c.leading_spaces-count.result
    (subst IsUtf8 c.as_bytes.ensures.value c.as_bytes.ensures.utf8)
    (c.leading_spaces-count.ensures ∙ ap (spaces_within c.args.most) c.as_bytes.ensures.value) in h.count

pub returns-clause-rest : goal.returns-clause-rest
returns-clause-rest c =
    let h = spaces_past c.args.most c.args.self.now.rest.now c.leading_spaces-count.result
    (subst IsUtf8 c.as_bytes.ensures.value c.as_bytes.ensures.utf8)
    (c.leading_spaces-count.ensures ∙ ap (spaces_within c.args.most) c.as_bytes.ensures.value) in
    rw c.range_from-self.ensures.value h.past.rest
