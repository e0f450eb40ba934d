-- What a run prints.
use Rattle.std.proofs.Common.{ℕ, List, [], ◌++◌, Option, Result, Ok, Err, sym, ap, ◌∙◌, append-nil, append_assoc}
use Rattle.std.specs.Io.KnownBytes.{Appends, Keeps}
use Rattle.std.proofs.KnownBytes.{Appends-kept}
use Rattle.saphyr_machine.specs.declared.fault.Fault.{Fault}
use Rattle.saphyr_machine.specs.declared.fault.Fault.TheVariants as fault
use Rattle.saphyr_parser.specs.declared.printing.fault.DumpFault.{DumpFault}
use Rattle.saphyr_parser.specs.declared.printing.fault.DumpFault.TheVariants as dump
use Rattle.saphyr_parser.specs.declared.printing.run.RunFault.{RunFault}
use Rattle.saphyr_parser.specs.declared.printing.run.RunFault.TheVariants as run
use Rattle.saphyr_machine.specs.Answer.{Answer}
use Rattle.saphyr_parser.specs.Printed.{printed_lines}
use Rattle.saphyr_parser.specs.Dumps.{Prints, Cuts, Dumps}
use Rattle.saphyr_parser.specs.Runs.{TakesBeginning, PrintsText, DumpsText, Becomes}
use Rattle.saphyr_parser.specs.Written.{Takes}
use Rattle.saphyr_parser.specs.declared.printing.writing.Unwritten.{Unwritten}
use Rattle.saphyr_parser.proofs.Printed.Dumping.{lines-append}

-- everything was taken, and then the writer may have failed to pass it on
takes_all : (a b c : Option (List ℕ)) (bytes : List ℕ) → Appends a b bytes → Keeps b c → TakesBeginning a c bytes
takes_all a b c bytes p q = record {
  front = bytes;
  back = [];
  split = sym (append-nil bytes);
  taken = Appends-kept a b c bytes p q;
}

part : (a left : Answer) (old mid new : Option (List ℕ)) → Prints a left old mid → Keeps mid new
    → TakesBeginning old new (printed_lines a.events)
part a left old mid new p q =
    record {
      front = printed_lines p.printed;
      back = printed_lines left.events;
      split = ap printed_lines p.split ∙ lines-append p.printed left.events;
      taken = Appends-kept old mid new _ p.taken q;
    }

takes_beginning : (a left : Answer) (old mid new : Option (List ℕ)) → Cuts a left old mid → Keeps mid new
    → TakesBeginning old new (printed_lines a.events)
takes_beginning a left old mid new p q = record {
  front = printed_lines p.printed ++ p.front;
  back = p.back ++ printed_lines left.events;
  split =
      ap printed_lines p.split ∙ lines-append p.printed _
      ∙ ap (λ l. printed_lines p.printed ++ (l ++ printed_lines left.events)) p.cut
      ∙ ap (λ l. printed_lines p.printed ++ l) (append_assoc p.front p.back (printed_lines left.events))
      ∙ sym (append_assoc (printed_lines p.printed) p.front (p.back ++ printed_lines left.events));
  taken = Appends-kept old mid new _ p.taken q;
}

beginning : (d : Result (Unit {0}) DumpFault) (a left : Answer) (old mid new : Option (List ℕ)) → Dumps d a left old mid
    → Keeps mid new → TakesBeginning old new (printed_lines a.events)
beginning (Ok u) a left old mid new p q = takes_all old mid new _ p.1 q
beginning (Err (dump.Parse (fault.Scan e))) a left old mid new p q = takes_all old mid new _ p.1 q
beginning (Err (dump.Parse fault.OutOfMemory)) a left old mid new p q = part a p.0.0 old mid new p.0.1 q
beginning (Err (dump.Parse fault.Receiver)) a left old mid new p q = absurd p
beginning (Err (dump.Parse fault.InsideDocument)) a left old mid new p q = absurd p
beginning (Err dump.Write) a left old mid new p q = takes_beginning a left old mid new p q

up_to_fault : (f : Fault) (a left : Answer) (old mid new : Option (List ℕ)) → Dumps (Err (dump.Parse f)) a left old mid
    → Keeps mid new → PrintsText (Err (run.Parse f)) a old new
up_to_fault (fault.Scan e) a left old mid new p q = (p.0, Appends-kept old mid new _ p.1 q)
up_to_fault fault.OutOfMemory a left old mid new p q =
    let lost = p.0.0 in
    let before = p.0.1 in (
      lost,
      record {
        printed = before.printed;
        split = before.split;
        fault = before.fault;
        taken = Appends-kept old mid new _ before.taken q;
      },
      p.0.2,
    )
up_to_fault fault.Receiver a left old mid new p q = p
up_to_fault fault.InsideDocument a left old mid new p q = p

finishes : (d : Result (Unit {0}) DumpFault) (r : Result (Unit {0}) RunFault) (a left : Answer)
    (old mid new : Option (List ℕ)) → Dumps d a left old mid → Becomes d r → Keeps mid new → PrintsText r a old new
finishes (Ok u) (Ok v) a left old mid new p e q = (p.0, Appends-kept old mid new _ p.1 q)
finishes (Err (dump.Parse f)) (Ok v) a left old mid new p e q = absurd e
finishes (Ok u) (Err (run.Parse g)) a left old mid new p e q = absurd e
finishes (Err (dump.Parse f)) (Err (run.Parse g)) a left old mid new p e q = rw e (up_to_fault f a left old mid new p q)
finishes d (Err run.CantWrite) a left old mid new p e q = beginning d a left old mid new p q
finishes (Ok u) (Err run.CantRead) a left old mid new p e q = absurd e
finishes (Err (dump.Parse f)) (Err run.CantRead) a left old mid new p e q = absurd e
finishes (Ok u) (Err run.NotUtf8) a left old mid new p e q = absurd e
finishes (Err (dump.Parse f)) (Err run.NotUtf8) a left old mid new p e q = absurd e
finishes (Err dump.Write) _ a left old mid new p e q = absurd e

pub finished : (d : Result (Unit {0}) DumpFault) (r : Result (Unit {0}) RunFault) (a : Answer)
    (old mid new : Option (List ℕ)) → DumpsText d a old mid → Becomes d r → Keeps mid new → PrintsText r a old new
finished d r a old mid new p e q = finishes d r a p.0 old mid new p.1 e q

-- a message was written, or a beginning of it
pub says : (r : Result (Unit {0}) Unwritten) (old new : Option (List ℕ)) (bytes : List ℕ) → Takes r old new bytes
    → TakesBeginning old new bytes
says (Ok u) old new bytes p = record { front = bytes; back = []; split = sym (append-nil bytes); taken = p }
says (Err e) old new bytes p = record { front = p.front; back = p.back; split = p.split; taken = p.taken }
