-- Places of a text, in memory.
use Rattle.std.specs.Prelude.{ℕ, ◌≤◌, ◌<◌, ◌^◌, List, length}
use Rattle.saphyr_scalar.specs.declared.scalar.position.Marker.{Marker}
use Rattle.saphyr_scalar.specs.Views.Cursor.{start_cursor}
use Rattle.saphyr_scanner.specs.TokensTaken.{IsReached}

-- A place of a text, and what follows it. Its numbers can be counted on.
pub record IsHere (text : List ℕ) (mark : Marker) (rest : List ℕ) : Type 0 where
  pub reached : IsReached (start_cursor text).mark text mark rest
  pub column : mark.col ≤ mark.index
  pub countable : length text < 2 ^ 63
