use Rattle.std.proofs.Common.{◌≡◌, ◌∙◌, ap, subst, ℕ, List}
use Rattle.saphyr_input.specs.Fronts as spec
use Rattle.saphyr_input.specs.Separation as separation
use Rattle.std.specs.Str.{chars}
use Rattle.saphyr_input.proofs.SkippedBlanks.{SkippedBlanks, blanks_are, with_tabs, without_tabs}
use Rattle.saphyr_input.proofs.input.str.text.split_blanks.Goals as goal
use Rattle.saphyr_input.proofs.input.str.text.split_blanks.Goals.{After-leading_blanks-blanks, in-Yes, in_default}

same : (c : After-leading_blanks-blanks) → (x : ℕ)
    → spec.is_passed_blank c.match-matches.matches x ≡ separation.is_skipped c.args.skip_tabs x
same c = elim c.match-matches.branch [
  | in-Yes w ↦ with_tabs c.args.skip_tabs c.match-matches.matches w.in-Yes.is w.matches-is
  | in_default w ↦ without_tabs c.args.skip_tabs c.match-matches.matches w.in_default.not-Yes w.matches-is
]

skipped : (c : After-leading_blanks-blanks)
    → SkippedBlanks c.args.skip_tabs c.args.text.now c.leading_blanks-blanks.result.count
    c.leading_blanks-blanks.result.tabs c.leading_blanks-blanks.result.spaces
skipped c =
    let h = c.leading_blanks-blanks.ensures in
    let P : List ℕ → Type 0 = λ bs. SkippedBlanks c.args.skip_tabs bs c.leading_blanks-blanks.result.count
    c.leading_blanks-blanks.result.tabs c.leading_blanks-blanks.result.spaces in
    subst P c.as_bytes.ensures.value
    (blanks_are _ c.match-matches.matches _ _ _ _ c.as_bytes.ensures.utf8 (same c) h.count h.tabs h.spaces)

pub range_from-requires : goal.range_from-requires
range_from-requires c = λ _. (skipped c).past.boundary

pub returns-clause-count : goal.returns-clause-count
returns-clause-count c = (skipped (goal.at.returns-clause-count c).After-leading_blanks-blanks).count

pub returns-clause-found : goal.returns-clause-found
returns-clause-found c = (skipped (goal.at.returns-clause-found c).After-leading_blanks-blanks).found

pub returns-clause-rest : goal.returns-clause-rest
returns-clause-rest c = ap chars c.range_from.ensures.value
    ∙ (skipped (goal.at.returns-clause-rest c).After-leading_blanks-blanks).past.rest
