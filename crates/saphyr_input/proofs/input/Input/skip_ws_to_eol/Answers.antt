use Rattle.std.proofs.Common.{◌≡◌, true, ◌∙◌, refl, sym, ap, drop, ◌+◌, ◌<◌, ◌^◌}
use Rattle.std.specs.Prelude.{◌==◌}
use Rattle.std.proofs.lemmas.Bool.{false≢true}
use Rattle.saphyr_input.specs.Classes as class
use Rattle.saphyr_input.specs.Separation as separation
use Rattle.saphyr_input.proofs.Runs.{runs_more, run_counts, run_shorter, one_ready, left_on}
use Rattle.saphyr_input.proofs.Separations.{skips_no_nul, met_more, with_comment, without_comment, blanks_met, within, still_there, none_long, bare_is, bare_says}
use Rattle.saphyr_input.proofs.input.Input.skip_ws_to_eol.Goals as goal
use Rattle.saphyr_input.proofs.input.Input.skip_ws_to_eol.Goals.{then-c-eq35+else-count-eq0, else-c-eq35}

pub overflow_add-count-then-c-eq35 : goal.overflow_add-count-then-c-eq35
overflow_add-count-then-c-eq35 g c =
    let stops = sym c.skips.ensures ∙ c.loop-skip_tabs-test.false in
    let fits : c.loop-skip_tabs.count + c.skip_while_non_breakz-count.result < 2 ^ 64 =
    within _ _ _ _ _ _ c.loop-skip_tabs.invariant.runs stops _ c.skip_while_non_breakz-count.ensures.count in
    record { fits = fits }

pub returns-clause-count : goal.returns-clause-count
returns-clause-count g c =
    let runs = c.loop-skip_tabs.invariant.runs in
    let stops = sym c.skips.ensures ∙ c.loop-skip_tabs-test.false in
    elim c.if-c-eq35.branch [
      | then-c-eq35+else-count-eq0 w ↦ w.count-is
          ∙ with_comment _ _ _ _ _ _ runs stops _ w.if-count-eq0.false w.if-c-eq35.true
          w.skip_while_non_breakz-count.ensures.count
      | else-c-eq35 w ↦ w.count-is ∙ without_comment _ _ _ _ _ _ runs stops w.if-c-eq35.false
    ]

pub returns-clause-found : goal.returns-clause-found
returns-clause-found g c =
    let runs = c.loop-skip_tabs.invariant.runs in
    let stops = sym c.skips.ensures ∙ c.loop-skip_tabs-test.false in
    let tabs = blanks_met _ _ _ _ _ _ runs stops (λ x. x == class.tab) _ c.loop-skip_tabs.invariant.tabs in
    let spaces = blanks_met _ _ _ _ _ _ runs stops (λ x. x == class.space) _ c.loop-skip_tabs.invariant.spaces in
    rw (tabs, spaces) refl

pub loop-skip_tabs-preserved : goal.loop-skip_tabs-preserved
loop-skip_tabs-preserved g c =
    let skipped = separation.is_skipped c.args.skip_tabs in
    let no_nul = skips_no_nul c.args.skip_tabs in
    let passes : skipped c.loop-skip_tabs.c ≡ true = sym c.skips.ensures ∙ c.loop-skip_tabs-test.true in
    let before = c.loop-skip_tabs.invariant in
    let next = c.look_ch-c-in-loop-skip_tabs.ensures in
    record {
      runs = runs_more skipped _ _ _ _ _ _ _ _ no_nul passes before.runs (next.rest ∙ c.skip.ensures.rest)
          (rw next.rest next.value) (one_ready _ _ next.loaded);
      tabs = met_more skipped (λ x. x == class.tab) _ _ _ _ _ _ no_nul passes before.runs before.tabs;
      spaces = met_more skipped (λ x. x == class.space) _ _ _ _ _ _ no_nul passes before.runs before.spaces;
    }

pub overflow_add-count : goal.overflow_add-count
overflow_add-count g c =
    let skipped = separation.is_skipped c.args.skip_tabs in
    let no_nul = skips_no_nul c.args.skip_tabs in
    let passes : skipped c.loop-skip_tabs.c ≡ true = sym c.skips.ensures ∙ c.loop-skip_tabs-test.true in
    record { fits = run_counts skipped _ _ _ _ _ no_nul passes c.loop-skip_tabs.invariant.runs }

pub loop-skip_tabs-smaller : goal.loop-skip_tabs-smaller
loop-skip_tabs-smaller g c =
    let skipped = separation.is_skipped c.args.skip_tabs in
    let no_nul = skips_no_nul c.args.skip_tabs in
    let passes : skipped c.loop-skip_tabs.c ≡ true = sym c.skips.ensures ∙ c.loop-skip_tabs-test.true in
    run_shorter skipped _ _ _ _ _ _ no_nul passes c.loop-skip_tabs.invariant.runs
    (c.look_ch-c-in-loop-skip_tabs.ensures.rest ∙ c.skip.ensures.rest)

pub returns-then-count-eq0-clause-count : goal.returns-then-count-eq0-clause-count
returns-then-count-eq0-clause-count g c =
    none_long _ _ _ _ _ _ c.loop-skip_tabs.invariant.runs (sym c.skips.ensures ∙ c.loop-skip_tabs-test.false)
    c.if-count-eq0.true

pub returns-then-count-eq0-clause-refused : goal.returns-then-count-eq0-clause-refused
returns-then-count-eq0-clause-refused g c =
    let bare = bare_is _ _ _ _ _ _ c.loop-skip_tabs.invariant.runs
    (sym c.skips.ensures ∙ c.loop-skip_tabs-test.false) c.if-count-eq0.true c.if-c-eq35.true in (λ _. bare, λ _. refl)

pub returns-then-count-eq0-clause-rest : goal.returns-then-count-eq0-clause-rest
returns-then-count-eq0-clause-rest g c =
    still_there _ _ _ _ _ _ c.loop-skip_tabs.invariant.runs (sym c.skips.ensures ∙ c.loop-skip_tabs-test.false)
    c.if-count-eq0.true

pub returns-clause-refused : goal.returns-clause-refused
returns-clause-refused g c =
    let runs = c.loop-skip_tabs.invariant.runs in
    let stops = sym c.skips.ensures ∙ c.loop-skip_tabs-test.false in (
      λ x. absurd (false≢true x),
      λ h. elim c.if-c-eq35.branch [
        | then-c-eq35+else-count-eq0 w ↦ absurd (w.if-count-eq0.false (bare_says _ _ _ _ _ _ runs stops h).0)
        | else-c-eq35 w ↦ absurd (w.if-c-eq35.false (bare_says _ _ _ _ _ _ runs stops h).1)
      ],
    )

pub returns-clause-rest : goal.returns-clause-rest
returns-clause-rest g c =
    let start = g.Self.Input.rest c.args.self.now in
    let left = c.loop-skip_tabs.invariant.runs.ran.left in
    elim c.if-c-eq35.branch [
      | then-c-eq35+else-count-eq0 w ↦ ap g.Self.Input.rest w.self-is
          ∙ left_on start _ _ _ _ left w.skip_while_non_breakz-count.ensures.rest
          ∙ ap (λ n. drop n start) (sym w.count-is)
      | else-c-eq35 w ↦ ap g.Self.Input.rest w.self-is ∙ left ∙ ap (λ n. drop n start) (sym w.count-is)
    ]
