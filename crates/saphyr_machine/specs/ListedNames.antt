-- What contracts see of the name of an anchor.
use Rattle.std.specs.Prelude.{◌+◌, ◌≤◌, ◌≡◌, length, slice_range, take, List, ℕ, IsUtf8}
use Rattle.saphyr_machine.specs.declared.name_list.Name.{Name}

-- its bytes among those of all names
abbrev pub bytes_of_name : List ℕ → Name → List ℕ
bytes_of_name bytes n = slice_range bytes n.start (n.start + n.count)

abbrev pub HasName : List ℕ → Name → Type 0
HasName bytes n = (n.start + n.count ≤ length bytes) × ∥ IsUtf8 (bytes_of_name bytes n) ∥₁

abbrev pub with_id : List ℕ → Name → List ℕ × ℕ
with_id bytes n = (bytes_of_name bytes n, n.id)

-- What was before is there still, maybe with more after it.
abbrev pub GrowsBehind : List ℕ → List ℕ → Type 0
GrowsBehind old new = take (length old) new ≡ old
