-- Documents without content: the root is left out, and no anchor and no tag stand for it (YAML 1.2.2, 7.2).
use Rattle.std.specs.Prelude.{zero, Bool, true, false, [], Option, Some, None, option_map, if◌then◌else◌}
use Rattle.saphyr_parser.specs.Words.Span.{Span}
use Rattle.saphyr_parser.specs.Words.Forest.{Plain}
use Rattle.saphyr_parser.specs.Events.{Happening, DocumentStart, Scalar}
use Rattle.yaml_check.specs.declared.warning.PlacedWarning.{PlacedWarning}
use Rattle.yaml_check.specs.declared.warning.Warning.TheVariants as warning

-- outside documents, and after the first event of one
abbrev pub no_document : Option Span
no_document = None

-- the start of a document, right after it
abbrev pub begun_behind : Happening → Span → Option Span
begun_behind (DocumentStart explicit) span = Some span
begun_behind _ span = None

abbrev pub is_empty_node : Happening → Bool
is_empty_node (Scalar [] Plain zero None) = true
is_empty_node _ = false

-- what is told of an event
abbrev pub content_warning : Option Span → Happening → Option PlacedWarning
content_warning begun what = if is_empty_node what
    then option_map (λ span. record { span = span; warning = warning.EmptyDocument }) begun else None
