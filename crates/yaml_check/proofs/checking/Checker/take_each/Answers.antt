-- What was told of the events so far and is told of those to come stays the same.
use Rattle.std.proofs.Common.{◌≡◌, ◌∙◌, ◌+◌, List, ◌++◌, sym, ap, append_assoc}
use Rattle.saphyr_parser.specs.Types.Event.{Event}
use Rattle.saphyr_parser.specs.Words.Span.{Span}
use Rattle.saphyr_parser.specs.Answer.{Answer, with_first_event}
use Rattle.saphyr_parser.specs.Cursor.{event_of}
use Rattle.yaml_check.specs.declared.warning.PlacedWarning.{PlacedWarning}
use Rattle.yaml_check.specs.Opened.{OpenStarts, opened_behind, open_on}
use Rattle.yaml_check.specs.Warned.{Seen, seen_behind, warnings_at, warnings_on}
use Rattle.yaml_check.proofs.checking.Checker.take_each.Goals as goal

keeps_told : (e : Event × Span) (old new : Answer) (before after all : List PlacedWarning) (s t : Seen)
    → old ≡ with_first_event (event_of e) new → before ++ warnings_on old.events s ≡ all
    → t ≡ seen_behind (event_of e).0 e.1 s → after ≡ before ++ warnings_at (event_of e).0 e.1 s
    → after ++ warnings_on new.events t ≡ all
keeps_told e old new before after all s t first told behind more =
    rw (more, behind) (append_assoc before _ _ ∙ (ap (λ a. before ++ warnings_on a.events s) (sym first) ∙ told))

keeps_open : (e : Event × Span) (old new : Answer) (o p all : OpenStarts) → old ≡ with_first_event (event_of e) new
    → open_on old.events o ≡ all → p ≡ opened_behind (event_of e).0 e.1 o → open_on new.events p ≡ all
keeps_open e old new o p all first opened behind = rw behind (ap (λ a. open_on a.events o) (sym first) ∙ opened)

pub loop-self-preserved : goal.loop-self-preserved
loop-self-preserved g c =
    let first = c.in-Event.ensures.hands in
    record {
      fault = ap (λ a. a.fault) (sym first) ∙ c.loop-self.invariant.fault;
      warned = keeps_told _ _ _ _ _ _ _ _ first c.loop-self.invariant.warned c.in_ok-take-in-Event.ensures.behind
          c.in_ok-take-in-Event.ensures.told;
      opened = keeps_open _ _ _ _ _ _ first c.loop-self.invariant.opened c.in_ok-take-in-Event.ensures.collections;
    }
