-- What loading a table of documents answers, and what it leaves.
use Rattle.std.specs.Prelude.{◌≡◌, Option, Some, None, Result, Ok, Err}
use Rattle.saphyr_parser.specs.Answer.{Answer, empty_answer}
use Rattle.saphyr_parser.specs.Nesting.{happenings, IsAtStart}
use Rattle.yaml_tree.specs.declared.fault.TreeFault.{TreeFault}
use Rattle.yaml_tree.specs.declared.fault.TreeFault.TheVariants as fault
use Rattle.yaml_tree.specs.declared.table.NodeTable.{NodeTable}
use Rattle.yaml_tree.specs.declared.tally.Limits.{Limits}
use Rattle.yaml_tree.specs.Counting.{no_nodes, StayWithin}
use Rattle.yaml_tree.specs.DocumentLoading.{ComesBetweenDocuments, FailsInDocument}
use Rattle.yaml_tree.specs.Loading.{EndNoDocument, FailsToLoad, IsLate, TakesRest, TakesToEnd}
use Rattle.yaml_tree.specs.Tables.{IsTable}

-- the table is that of all events, or the fault is one of `load_documents`
abbrev pub LoadsTable : Limits → Result NodeTable TreeFault → Answer → Answer → Type 0
LoadsTable limits (Ok t) all left = IsAtStart all × IsTable all.events t × (all.fault ≡ None)
    × StayWithin limits (happenings all.events) no_nodes × (left ≡ empty_answer)
LoadsTable limits (Err fault.NotFresh) all left = IsLate all left
LoadsTable limits (Err (fault.Parse f)) all left = FailsToLoad limits (fault.Parse f) all left
LoadsTable limits (Err f) all left = IsAtStart all × FailsToLoad limits f all left

-- The events up to the first end of a document were passed, and the table is of these. All others are left.
abbrev pub PassesTable : Limits → NodeTable → Answer → Answer → Type 0
PassesTable limits t all left =
    TakesToEnd (λ passed. StayWithin limits (happenings passed) no_nodes × IsTable passed t) all left

-- no document's end was to come
abbrev pub PassesNoTable : Answer → Answer → Type 0
PassesNoTable all left = TakesRest (λ passed. EndNoDocument (happenings passed)) all left

-- The same of the next document.
abbrev pub LoadsNextTable : Limits → Result (Option NodeTable) TreeFault → Answer → Answer → Type 0
LoadsNextTable limits (Ok (Some t)) all left = ComesBetweenDocuments all × PassesTable limits t all left
LoadsNextTable limits (Ok None) all left = ComesBetweenDocuments all × PassesNoTable all left
LoadsNextTable limits (Err fault.NotFresh) all left = (ComesBetweenDocuments all → ⊥) × (left ≡ all)
LoadsNextTable limits (Err (fault.Parse f)) all left = FailsInDocument limits (fault.Parse f) all left
LoadsNextTable limits (Err f) all left = ComesBetweenDocuments all × FailsInDocument limits f all left
