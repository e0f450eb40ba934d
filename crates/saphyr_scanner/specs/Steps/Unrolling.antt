-- Block collections end (YAML 1.2.2, 8.2).
use Rattle.std.specs.Prelude.{ℕ, ◌-◌, Bool, false, ◌&&◌, nat_lt, nat_le, List, [], ◌∷◌, Option, Some, None, if◌then◌else◌}
use Rattle.saphyr_scalar.specs.declared.scalar.position.Marker.{Marker}
use Rattle.saphyr_scanner.specs.Grammar.Tokens.{BlockEnd}
use Rattle.saphyr_scanner.specs.Steps.Core.{Core, in_block, at_mark}
use Rattle.saphyr_scanner.specs.Steps.State.{State, with_core, with_action}

-- a block collection with this indentation is to the right of a column; each is, if no column is given
abbrev pub is_right_of : Option ℕ → ℕ → Bool
is_right_of None indent = nat_lt 0 indent
is_right_of (Some column) indent = nat_lt column (indent - 1)

-- the indentation of the block collection around the innermost one
abbrev pub with_outer_indent : List ℕ → Core → Core
with_outer_indent [] c = record c { indent = 0; outer_indents = [] }
with_outer_indent (i ∷ is) c = record c { indent = i; outer_indents = is }

-- the innermost block collection ends
abbrev pub end_block : Marker → State → State
end_block m s = with_core (with_outer_indent s.core.outer_indents s.core) (with_action (at_mark m BlockEnd) s)

-- Block collections end, as long as they are to the right of a column. There are as many as a list is long, and one.
abbrev pub end_blocks : Option ℕ → Marker → List ℕ → State → State
end_blocks column m [] s = if is_right_of column s.core.indent then end_block m s else s
end_blocks column m (i ∷ is) s = if is_right_of column s.core.indent then end_blocks column m is (end_block m s) else s

-- content may be at a column, though not right of its block collection
abbrev pub go_less_deep : Option ℕ → Core → Core
go_less_deep None c = record c { deeper = false }
go_less_deep (Some column) c = record c { deeper = c.deeper && nat_le c.indent column }

-- the block collections to the right of a column end
unfoldable pub unroll : Option ℕ → Marker → State → State
unroll column m s = if in_block s.core then end_blocks column m s.core.outer_indents
    (with_core (go_less_deep column s.core) s) else s
