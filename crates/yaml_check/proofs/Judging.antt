-- A verdict on bytes, from that on their text; a verdict on what was read; and what was written up to a failure.
use Rattle.std.proofs.Common.{◌≡◌, ℕ, ◌<◌, List, [], ◌++◌, length, Option, Some, None, ◌∷◌, Result, Ok, Err, refl, sym, ap, inl, inr, subst, ◌∙◌, append-nil, append_assoc}
use Rattle.std.specs.Prelude.{Bool, true, false, not, IsErrAnd, if◌then◌else◌}
use Rattle.std.specs.Str.{chars, IsUtf8}
use Rattle.std.specs.Io.KnownBytes.{Appends, Keeps}
use Rattle.std.proofs.KnownBytes.{Appends-nil}
use Rattle.saphyr_parser.specs.Answer.{Answer, Ending, OutOfMemory, Refused}
use Rattle.saphyr_parser.specs.Cursor.{EventCursor, to_come}
use Rattle.saphyr_parser.specs.Types.Fault.{Fault}
use Rattle.saphyr_parser.specs.Types.Fault.TheVariants as parser
use Rattle.saphyr_parser.specs.declared.printing.fault.DumpFault.{DumpFault}
use Rattle.saphyr_parser.specs.declared.printing.fault.DumpFault.TheVariants as dump
use Rattle.saphyr_parser.specs.Dumps.{Dumps}
use Rattle.saphyr_parser.specs.Printed.{printed_lines}
use Rattle.saphyr_parser.specs.Runs.{answer_of_text, ReadsAll, TakesBeginning}
use Rattle.saphyr_parser.specs.Written.{TakesSome, TakesUpTo}
use Rattle.saphyr_parser.proofs.Printed.Dumping.{lines-append}
use Rattle.saphyr_parser.proofs.Printed.Written.{begins_behind, begins_longer, takes_none}
use Rattle.yaml_check.specs.declared.arguments.Options.{Options}
use Rattle.yaml_check.specs.declared.finding.Findings.{Findings}
use Rattle.yaml_check.specs.declared.run.CheckFault.{CheckFault}
use Rattle.yaml_check.specs.declared.run.CheckFault.TheVariants as fault
use Rattle.yaml_check.specs.declared.finding.Verdict.{Verdict}
use Rattle.yaml_check.specs.declared.finding.Verdict.TheVariants as verdict
use Rattle.yaml_check.specs.declared.finding.Finding.{Finding}
use Rattle.yaml_check.specs.declared.warning.PlacedWarning.{PlacedWarning}
use Rattle.yaml_check.specs.Checked.{IsFound, NamesFindings}
use Rattle.yaml_check.specs.Found.{AreFindings, verdict_of}
use Rattle.yaml_check.specs.Opened.{OpenStarts}
use Rattle.yaml_check.specs.Reports.{IsReport, name_in}
use Rattle.yaml_check.specs.Checks.{Checks, IsCutShort, IsReportOfOther, IsReported, IsRight, Judges, JudgesBytes, JudgesOther, TellsUnread, WritesLines, WritesTold, events_asked, told_unless_quiet}
use Rattle.yaml_standard.specs.Verdicts.{IsStandard}

pub judges_text : (r : Result Verdict CheckFault) (name : List ℕ) (options : Options) (text bytes : List ℕ)
    (old new : Option (List ℕ)) → text ≡ bytes → IsUtf8 bytes → Judges r name options text old new
    → JudgesBytes r name options bytes old new
judges_text r name options text bytes old new same utf8 h =
    inl (utf8, subst (λ (b : List ℕ). Judges r name options b old new) same h)

pub checks_read : (r : Result Verdict CheckFault) (name : List ℕ) (options : Options) (bytes : List ℕ)
    (unread left old new : Option (List ℕ)) → ReadsAll unread left bytes → JudgesBytes r name options bytes old new
    → Checks r name options unread left old new
checks_read (Ok v) name options bytes unread left old new read h = (bytes, read, h)
checks_read (Err (fault.CantRead e)) name options bytes unread left old new read (inl h) = absurd h.1
checks_read (Err (fault.CantRead e)) name options bytes unread left old new read (inr h) = absurd h.1
checks_read (Err fault.CantWrite) name options bytes unread left old new read h = (bytes, read, h)
checks_read (Err fault.OutOfMemory) name options bytes unread left old new read h = (bytes, read, h)

-- ## Bytes that are no text

pub other_want : (r : Result Verdict CheckFault) (name : List ℕ) (options : Options) (bytes : List ℕ) (old :
    Option (List ℕ)) → IsErrAnd r (λ f. f ≡ fault.OutOfMemory) → JudgesOther r name options bytes old old
other_want (Ok v) name options bytes old h = absurd h
other_want (Err f) name options bytes old h = rw h refl

pub other_fault : (r : Result Verdict CheckFault) (f : CheckFault) (name : List ℕ) (options : Options) (bytes : List ℕ)
    (old new : Option (List ℕ)) → IsErrAnd r (λ e. e ≡ f) → JudgesOther (Err f) name options bytes old new
    → JudgesOther r name options bytes old new
other_fault (Ok v) f name options bytes old new h judged = absurd h
other_fault (Err e) f name options bytes old new h judged = rw h judged

pub other_cut : (f : CheckFault) (name : List ℕ) (options : Options) (bytes told : List ℕ) (old new : Option (List ℕ))
    → IsReportOfOther name options bytes told → WritesTold (Err f) (told_unless_quiet options told) old new
    → JudgesOther (Err f) name options bytes old new
other_cut (fault.CantRead e) name options bytes told old new report h = absurd h
other_cut fault.CantWrite name options bytes told old new report h = (told, report, h)
other_cut fault.OutOfMemory name options bytes told old new report h = absurd h

-- ## Up to a failure

pub takes_nothing : (old new : Option (List ℕ)) (bytes : List ℕ) → new ≡ old → TakesBeginning old new bytes
takes_nothing old new bytes same = subst (λ (now : Option (List ℕ)). TakesBeginning old now bytes) (sym same)
    (record { front = []; back = bytes; split = refl; taken = Appends-nil old })

pub takes_some : (old new : Option (List ℕ)) (bytes : List ℕ) → TakesSome old new bytes → TakesBeginning old new bytes
takes_some old new bytes t = record { front = t.front; back = t.back; split = t.split; taken = t.taken }

pub takes_none_more : (a b c : Option (List ℕ)) (bytes rest : List ℕ) → 0 < length rest → TakesUpTo a b bytes rest
    → Keeps b c → TakesBeginning a c bytes
takes_none_more a b c bytes rest more up_to kept = takes_some a c bytes (takes_none a b c bytes rest more up_to kept)

-- the events' lines were not all written
pub cut_lines : (name : List ℕ) (options : Options) (bytes : List ℕ) (old new : Option (List ℕ))
    → TakesBeginning old new (events_asked options (answer_of_text bytes)) → IsCutShort name options bytes old new
cut_lines name options bytes old new t =
    record { told = []; report = inl refl; taken = begins_longer old new _ (told_unless_quiet options []) t }

-- of what is told not all was written
pub cut_report : (name : List ℕ) (options : Options) (bytes told : List ℕ) (old middle new : Option (List ℕ))
    (found : Findings) → IsFound options bytes found
    → IsReport options.format (name_in options.format name) (chars bytes) found told
    → Appends old middle (events_asked options (answer_of_text bytes))
    → TakesBeginning middle new (told_unless_quiet options told) → IsCutShort name options bytes old new
cut_report name options bytes told old middle new found is report lines t = record {
  told = told;
  report = inr (found, is, report);
  taken = begins_behind old middle new _ _ lines t;
}

pub dumped_lines : (a left : Answer) (old new : Option (List ℕ))
    → Dumps (Err (dump.Parse parser.OutOfMemory)) a left old new
    → TakesBeginning old new (printed_lines a.events)
dumped_lines a left old new d = let lost = d.0.0 in let before = d.0.1 in record {
  front = printed_lines before.printed;
  back = printed_lines lost.events;
  split = ap printed_lines before.split ∙ lines-append before.printed lost.events;
  taken = before.taken;
}

pub cut_dump : (a left : Answer) (old new : Option (List ℕ)) → Dumps (Err dump.Write) a left old new
    → TakesBeginning old new (printed_lines a.events)
cut_dump a left old new p = record {
  front = printed_lines p.printed ++ p.front;
  back = p.back ++ printed_lines left.events;
  split = ap printed_lines p.split ∙ lines-append p.printed _
      ∙ ap (λ l. printed_lines p.printed ++ (l ++ printed_lines left.events)) p.cut
      ∙ ap (λ l. printed_lines p.printed ++ l) (append_assoc p.front p.back (printed_lines left.events))
      ∙ sym (append_assoc (printed_lines p.printed) p.front (p.back ++ printed_lines left.events));
  taken = p.taken;
}

asked_lines : (options : Options) (a : Answer) (old new : Option (List ℕ)) → not options.events ≡ false
    → TakesBeginning old new (printed_lines a.events) → TakesBeginning old new (events_asked options a)
asked_lines options a old new asks t = by options.events asks t
  where
    by : (b : Bool) → not b ≡ false → TakesBeginning old new (printed_lines a.events)
        → TakesBeginning old new (if b then printed_lines a.events else [])
    by true asks t = t
    by false asks t = absurd cc

pub parse_cut : (options : Options) (f : Fault) (a left : Answer) (old new : Option (List ℕ))
    → not options.events ≡ false
    → Dumps (Err (dump.Parse f)) a left old new → TakesBeginning old new (events_asked options a)
parse_cut options (parser.Scan e) a left old new asks d = asked_lines options a old new asks
    (record {
      front = printed_lines a.events;
      back = [];
      split = sym (append-nil (printed_lines a.events));
      taken
          = d.1;
    })
parse_cut options parser.OutOfMemory a left old new asks d =
    asked_lines options a old new asks (dumped_lines a left old new d)
parse_cut options parser.Receiver a left old new asks d = absurd d
parse_cut options parser.InsideDocument a left old new asks d = absurd d

pub write_cut : (options : Options) (a left : Answer) (old new : Option (List ℕ)) → not options.events ≡ false
    → Dumps (Err dump.Write) a left old new → TakesBeginning old new (events_asked options a)
write_cut options a left old new asks d = asked_lines options a old new asks (cut_dump a left old new d)

-- of the events of a parser that is known
pub parse_cut_of : (options : Options) (f : Fault) (d : DumpFault) (p q : EventCursor) (left : Answer) (old new :
    Option (List ℕ))
    → not options.events ≡ false → p ≡ q → d ≡ dump.Parse f → Dumps (Err d) (to_come p) left old new
    → TakesBeginning old new (events_asked options (to_come q))
parse_cut_of options f d p q left old new asks same is h =
    subst (λ (c : EventCursor). TakesBeginning old new (events_asked options (to_come c))) same
    (parse_cut options f (to_come p) left old new asks
    (subst (λ (e : DumpFault). Dumps (Err e) (to_come p) left old new) is h))

pub write_cut_of : (options : Options) (d : DumpFault) (p q : EventCursor) (left : Answer) (old new : Option (List ℕ))
    → not options.events ≡ false → p ≡ q → d ≡ dump.Write → Dumps (Err d) (to_come p) left old new
    → TakesBeginning old new (events_asked options (to_come q))
write_cut_of options d p q left old new asks same is h =
    subst (λ (c : EventCursor). TakesBeginning old new (events_asked options (to_come c))) same
    (write_cut options (to_come p) left old new asks
    (subst (λ (e : DumpFault). Dumps (Err e) (to_come p) left old new) is h))

-- ## A verdict from what was written

pub lines_cut : (f : CheckFault) (name : List ℕ) (options : Options) (bytes : List ℕ) (old new : Option (List ℕ))
    → WritesLines (Err f) (events_asked options (answer_of_text bytes)) old new
    → Judges (Err f) name options bytes old new
lines_cut (fault.CantRead e) name options bytes old new h = absurd h
lines_cut fault.CantWrite name options bytes old new h = cut_lines name options bytes old new h
lines_cut fault.OutOfMemory name options bytes old new h = h

pub told_cut : (f : CheckFault) (name : List ℕ) (options : Options) (bytes told : List ℕ) (old middle new :
    Option (List ℕ))
    (found : Findings) → IsFound options bytes found
    → IsReport options.format (name_in options.format name) (chars bytes) found told
    → Appends old middle (events_asked options (answer_of_text bytes))
    → WritesTold (Err f) (told_unless_quiet options told) middle new → Judges (Err f) name options bytes old new
told_cut (fault.CantRead e) name options bytes told old middle new found is report lines h = absurd h
told_cut fault.CantWrite name options bytes told old middle new found is report lines h =
    cut_report name options bytes told old middle new found is report lines h
told_cut fault.OutOfMemory name options bytes told old middle new found is report lines h = absurd h

-- what is told is told by the verdict, where it is not that nothing was found
pub told_verdict : (v : Verdict) (name : List ℕ) (options : Options) (bytes : List ℕ) (old new : Option (List ℕ))
    → IsReported v name options bytes old new → ¬ (v ≡ verdict.Right) → Judges (Ok v) name options bytes old new
told_verdict verdict.Right name options bytes old new told some = absurd (some refl)
told_verdict verdict.Warned name options bytes old new told some = told
told_verdict verdict.Wrong name options bytes old new told some = told

-- nothing was found in a text that is right

found_nothing : (options : Options) (text : List ℕ) (ws : List PlacedWarning) (ds : List Finding) (found : Findings)
    → verdict.Right ≡ verdict_of ws ds → (ws ≡ []) × (ds ≡ [])
found_nothing options text [] [] found is = (refl, refl)
found_nothing options text (w ∷ ws) [] found is = absurd cc
found_nothing options text [] (d ∷ ds) found is = absurd cc
found_nothing options text (w ∷ ws) (d ∷ ds) found is = absurd cc

right_of : (options : Options) (text : List ℕ) (ws : List PlacedWarning) (o : OpenStarts) (fault : Option Ending)
    (found : Findings) → AreFindings options text ws o fault found → found.verdict ≡ verdict.Right
    → (fault ≡ None) × ((ws ≡ []) × (options.standard ≡ true → IsStandard text))
right_of options text ws o None found are right =
    let none = found_nothing options text ws are.departures found (sym right ∙ are.verdict) in
    (refl, (none.0, λ asked. are.are.standard asked none.1))
right_of options text ws o (Some (Refused place message)) found are right =
    let wrong = sym right ∙ are.verdict in absurd (cc)
right_of options text ws o (Some OutOfMemory) found are right = absurd are

pub is_right : (options : Options) (bytes : List ℕ) (old new : Option (List ℕ)) (found : Findings)
    → NamesFindings options bytes found → found.verdict ≡ verdict.Right
    → Appends old new (events_asked options (answer_of_text bytes)) → IsRight options bytes old new
is_right options bytes old new found are right written =
    let parts = right_of options (chars bytes) _ _ (answer_of_text bytes).fault found are right in record {
      fault = parts.0;
      warnings = parts.1.0;
      standard = parts.1.1;
      written = written;
    }

-- the fault of a call is passed on

pub passes_want : (r : Result Verdict CheckFault) (name : List ℕ) (options : Options) (bytes : List ℕ) (old :
    Option (List ℕ))
    → IsErrAnd r (λ f. f ≡ fault.OutOfMemory) → Judges r name options bytes old old
passes_want (Ok v) name options bytes old h = absurd h
passes_want (Err f) name options bytes old h = rw h (takes_nothing old old _ refl)

pub passes_fault : (r : Result Verdict CheckFault) (f : CheckFault) (name : List ℕ) (options : Options) (bytes : List ℕ)
    (old new : Option (List ℕ)) → IsErrAnd r (λ e. e ≡ f) → Judges (Err f) name options bytes old new
    → Judges r name options bytes old new
passes_fault (Ok v) f name options bytes old new h judged = absurd h
passes_fault (Err e) f name options bytes old new h judged = rw h judged

pub unread_want : (r : Result (Unit {0}) CheckFault) (name : List ℕ) (options : Options) (old : Option (List ℕ))
    → IsErrAnd r (λ f. f ≡ fault.OutOfMemory) → TellsUnread r name options old old
unread_want (Ok u) name options old h = absurd h
unread_want (Err f) name options old h = rw h refl
