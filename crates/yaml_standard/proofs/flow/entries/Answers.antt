use Rattle.yaml_standard.specs.declared.goal.Kind.TheVariants.{Sequence, Mapping}
use Rattle.yaml_standard.proofs.Collections.{bracket_first, entries_end, entry_first, node_entry, pair_in_braces, pair_in_brackets}
use Rattle.yaml_standard.proofs.flow.entries.Goals as goal

pub returns-then-is_end : goal.returns-then-is_end
returns-then-is_end c =
    entries_end _ _ _ _ _ c.behind_separation-entry.ensures
    (bracket_first _ _ _ _ c.closing.ensures c.in_ok-strip.ensures)

pub returns-in-Mapping : goal.returns-in-Mapping
returns-in-Mapping c = λ x end s t.
    entry_first Mapping _ _ _ _ _ _ c.in-Mapping.is c.behind_separation-entry.ensures (pair_in_braces _ _ _ s) t

pub returns-in-Sequence : goal.returns-in-Sequence
returns-in-Sequence c = λ x end s t.
    entry_first Sequence _ _ _ _ _ _ c.in-Sequence.is c.behind_separation-entry.ensures (pair_in_brackets _ _ _ s) t

pub returns-in-Sequence-2 : goal.returns-in-Sequence-2
returns-in-Sequence-2 c = λ x end s t.
    entry_first Sequence _ _ _ _ _ _ c.in-Sequence-2.is c.behind_separation-entry.ensures (node_entry _ _ _ s) t
