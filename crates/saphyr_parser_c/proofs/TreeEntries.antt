-- What is told of an entry of a table is told of the node at its number.
use Rattle.std.proofs.Common.{refl, ◌≡◌, ◌∙◌, sym, subst, ℕ, slice_get, Some, None}
use Rattle.saphyr_scalar.specs.declared.scalar.position.Marker.{Marker}
use Rattle.saphyr_parser.specs.Events.{Happening}
use Rattle.yaml_tree.specs.declared.table.Entry.{Entry}
use Rattle.yaml_tree.specs.declared.table.NodeTable.{NodeTable}
use Rattle.yaml_tree.specs.Tables.{TellsFirst, marker_of, store_of}
use Rattle.yaml_tree.proofs.Entries.{entry_there, entry_told}
use Rattle.saphyr_parser_c.specs.declared.shown.CEvent.{CEvent}
use Rattle.saphyr_parser_c.specs.declared.status.Status.{Status}
use Rattle.saphyr_parser_c.specs.declared.status.Status.TheVariants as status
use Rattle.saphyr_parser_c.specs.Shown.{HasFields, fields_of_event}
use Rattle.saphyr_parser_c.specs.Trees.{WritesNode, WritesNothing}

pub writes_some : (table : NodeTable) (number : ℕ) (e : Entry) (c : CEvent) → Some e ≡ slice_get table.entries.items number
    → ((h : Happening) → TellsFirst (store_of table) e.content h
    → HasFields (fields_of_event h) (marker_of e.start) (marker_of e.end) c) → WritesNode number status.Event c table
writes_some table number e c there written = (
  λ es t less.
      let told = entry_told es table number e t (sym there) in
      let s = told.2 in (
        told.0,
        told.1,
        record {
          first = s.first;
          parts = s.parts;
          last = s.last;
          made = s.made;
          is_there = refl;
          fields = subst (λ (m : Marker). HasFields (fields_of_event s.first.0) s.first.1.start m c) s.end
              (subst (λ (m : Marker). HasFields (fields_of_event s.first.0) m (marker_of e.end) c) s.start
              (written s.first.0 s.told));
        },
      ),
  λ none. let e = there ∙ none in cc,
)

pub writes_none : (table : NodeTable) (number : ℕ) (s : Status) (c : CEvent) → None ≡ slice_get table.entries.items number
    → WritesNothing s c → WritesNode number s c table
writes_none table number s c none nothing = (
  λ es t less. absurd (entry_there es table number t less (sym none)),
  λ _. nothing,
)
